-- The bytes between two places of the cursor are the line there: all but its LF where it was passed (`line-passed`), none where the cursor stayed (`line-stayed`).
use native.Mathlib.Omega.{arith}
use Rattle.text_cursor.proofs.Laws.{past-within, line-passed, line-stayed}
use Rattle.text_cursor.proofs.between.Goals as goal

pub slice_bounds-result-end : goal.slice_bounds-result-end
slice_bounds-result-end c = let a = c.args in let w = past-within a.s.now a.c.at a.d.at c.requires c.if-c-d.true in omega (arith, w)

pub returns-then-c-d : goal.returns-then-c-d
returns-then-c-d c = let a = c.args in line-passed a.s.now a.c.at a.d.at c.requires c.if-c-d.true

pub returns : goal.returns
returns c = let a = c.args in line-stayed a.s.now a.c.at a.d.at c.requires c.if-c-d.false
