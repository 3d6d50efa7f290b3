-- No room (`cell-refused`), or one cell more (`cell-added`).
use mathlib.Core.Path.{refl}
use Rattle.state_record.specs.Whole.{whole}
use Rattle.request_common.proofs.Laws.{step-refuses-kept, cell-refused, cell-added}
use Rattle.request_common.proofs.add_cell.Goals as goal

pub returns-then-s-ge-CELLS : goal.returns-then-s-ge-CELLS
returns-then-s-ge-CELLS c = λ b t h. let a = c.args in step-refuses-kept h.sound h.long h.kept
    (cell-refused (whole b a.s.now) t a.count a.places a.holder a.ty a.place h c.if-s-ge-CELLS.true) refl

pub returns : goal.returns
returns c = λ b t h. let a = c.args in
    rw c.with_types-s.ensures (cell-added (whole b a.s.now) t a.count a.places a.holder a.ty a.place h c.if-s-ge-CELLS.false _
    refl _ c.add-s.ensures.0 c.add-s.ensures.1)
