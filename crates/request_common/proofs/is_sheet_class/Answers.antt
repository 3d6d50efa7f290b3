-- The number names a sheet type, whose record is read, or none; `to_z-of_z` as in `is_subject`.
use mathlib.Core.Path.{◌∙◌}
use mir.Facts.{to_z-of_z}
use borrow.Author.Tests.{le-ltb}
use Rattle.request_common.proofs.Laws.{sheet-class-not, sheet-class-is}
use Rattle.request_common.proofs.is_sheet_class.Goals as goal

pub returns-then-i-c : goal.returns-then-i-c
returns-then-i-c c = λ s t n. let a = c.args in sheet-class-is a.types.now a.c c.requires a.z _
    (rw (to_z-of_z c.ranges.z) at c.index_of-i.ensures) s t n c.if-i-c.true _ c.is_class.ensures

pub returns-else-i-c : goal.returns-else-i-c
returns-else-i-c c = λ s t n. let a = c.args in le-ltb _ _ c.if-i-c.false ∙ sheet-class-not a.types.now a.c c.requires a.z _
    (rw (to_z-of_z c.ranges.z) at c.index_of-i.ensures) s t n c.if-i-c.false
