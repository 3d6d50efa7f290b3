use Rattle.std.proofs.Common.{◌≡◌, refl, length, ◌∙◌, arith}
use Rattle.state_bytes.proofs.Rows.{rows_none, rows_more}
use Rattle.state_bytes.proofs.Laws.{cell_row, below-3, next-3, cells-written}
use Rattle.state_bytes.specs.Flat.{cell_size, cells_size}
use Rattle.spec_model.specs.Requests.{max_cells}
use Rattle.state_bytes.proofs.cells_to.Goals as goal

pub loop-k-init : goal.loop-k-init
loop-k-init c = let a = c.args in rows_none 3 (cell_row a.cs) a.b.now

pub loop-k-preserved : goal.loop-k-preserved
loop-k-preserved c =
    let a = c.args in let w = c.loop-k in
    rows_more cell_size (cell_row a.cs) a.b.now (λ i. refl) below-3 next-3 cells_size w.k w.b _ c.told-b
    (omega (arith, c.loop-k-test.true, c.min-n.ensures)) c.put_cell.ensures w.invariant

pub returns : goal.returns
returns c =
    let a = c.args in let w = c.loop-k in let m = c.min-n in
    let l : length a.cs.list ≡ max_cells = c.well_formed.1.0.1.1.0.1.0.1 in
    let e : w.k ≡ m.result = omega (arith, c.loop-k-test.false, w.auto.k-end) in
    cells-written a.b.now w.b w.k a.cs l (e ∙ m.ensures) (omega (arith, e, m.ensures)) w.invariant
