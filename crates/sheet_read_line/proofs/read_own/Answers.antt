-- An `own=` line is one of two words, or refused: the definition's cases in their order.
use mathlib.Core.Path.{sym, ◌∙◌}
use Rattle.sheet_read_line.proofs.Laws.{own-yes, own-no, own-none}
use Rattle.sheet_read_line.proofs.read_own.Goals as goal

pub returns-then-is_word : goal.returns-then-is_word
returns-then-is_word c = own-yes c.args.l.now (sym c.is_word.ensures ∙ c.if-is_word.true)

pub returns-then-is_word-2 : goal.returns-then-is_word-2
returns-then-is_word-2 c = own-no c.args.l.now (sym c.is_word.ensures ∙ c.if-is_word.false) (sym c.is_word-2.ensures ∙ c.if-is_word-2.true)

pub returns : goal.returns
returns c = own-none c.args.l.now (sym c.is_word.ensures ∙ c.if-is_word.false) (sym c.is_word-2.ensures ∙ c.if-is_word-2.false)
