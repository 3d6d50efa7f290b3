-- The number names a cell, whose holder is compared, or none; `to_z-of_z` as in `is_subject`.
use mathlib.Core.Path.{◌∙◌}
use mir.Facts.{to_z-of_z}
use borrow.Author.Tests.{le-ltb}
use Rattle.request_common.proofs.Laws.{held-not, held_by}
use Rattle.request_common.proofs.is_held.Goals as goal

pub returns-then-i-cs : goal.returns-then-i-cs
returns-then-i-cs c = λ s subject h w. let a = c.args in held_by a.cs a.k _ (rw (to_z-of_z c.ranges.k) at c.index_of-i.ensures) s subject h
    c.if-i-cs.true a.who _ c.at.result w c.from.ensures (c.at.ensures.1 c.if-i-cs.true)

pub returns-else-i-cs : goal.returns-else-i-cs
returns-else-i-cs c = λ s subject h w. let a = c.args in le-ltb _ _ c.if-i-cs.false ∙ held-not a.cs a.k _
    (rw (to_z-of_z c.ranges.k) at c.index_of-i.ensures) s subject h c.if-i-cs.false
