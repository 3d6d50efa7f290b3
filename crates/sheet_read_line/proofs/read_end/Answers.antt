-- The last line is one word, or refused.
use mathlib.Core.Path.{sym, ◌∙◌}
use Rattle.sheet_read_line.proofs.Laws.{end-yes, end-no}
use Rattle.sheet_read_line.proofs.read_end.Goals as goal

pub returns-then-is_word : goal.returns-then-is_word
returns-then-is_word c = end-yes c.args.l.now (sym c.is_word.ensures ∙ c.if-is_word.true)

pub returns : goal.returns
returns c = end-no c.args.l.now (sym c.is_word.ensures ∙ c.if-is_word.false)
