-- A `rep=` line is one of three words, or refused: the definition's cases in their order.
use mathlib.Core.Path.{sym, ◌∙◌}
use Rattle.sheet_read_line.proofs.Laws.{rep-ref, rep-w32, rep-w64, rep-none}
use Rattle.sheet_read_line.proofs.read_rep.Goals as goal

pub returns-then-is_word-clause-is : goal.returns-then-is_word-clause-is
returns-then-is_word-clause-is c = rep-ref c.args.l.now (sym c.is_word.ensures ∙ c.if-is_word.true)

pub returns-then-is_word-2-clause-is : goal.returns-then-is_word-2-clause-is
returns-then-is_word-2-clause-is c = rep-w32 c.args.l.now (sym c.is_word.ensures ∙ c.if-is_word.false) (sym c.is_word-2.ensures ∙ c.if-is_word-2.true)

pub returns-then-is_word-3-clause-is : goal.returns-then-is_word-3-clause-is
returns-then-is_word-3-clause-is c =
    rep-w64 c.args.l.now (sym c.is_word.ensures ∙ c.if-is_word.false) (sym c.is_word-2.ensures ∙ c.if-is_word-2.false) (sym c.is_word-3.ensures ∙ c.if-is_word-3.true)

pub returns-clause-is : goal.returns-clause-is
returns-clause-is c =
    rep-none c.args.l.now (sym c.is_word.ensures ∙ c.if-is_word.false) (sym c.is_word-2.ensures ∙ c.if-is_word-2.false) (sym c.is_word-3.ensures ∙ c.if-is_word-3.false)
