use Rattle.std.proofs.Common.{◌≡◌, ap, ◌∙◌, arith}
use Rattle.state_record.specs.View.{blank_cell}
use Rattle.state_bytes.specs.Records.{cell_from, cells_from}
use Rattle.state_bytes.proofs.Filling.{filled_none, filled_more, filled-all}
use Rattle.spec_model.specs.Requests.{max_cells}
use Rattle.state_bytes.proofs.cells_from.Goals as goal

pub loop-k-init : goal.loop-k-init
loop-k-init c = rw c.none.ensures (filled_none blank_cell (cell_from c.args.b.now) max_cells)

pub loop-k-preserved : goal.loop-k-preserved
loop-k-preserved c = let w = c.loop-k in
    filled_more blank_cell (cell_from c.args.b.now) max_cells w.k w.list _ c.cell_from.ensures (omega (arith, c.loop-k-test.true, c.min-n.ensures)) w.invariant

pub returns : goal.returns
unfolding cells_from
returns c =
    let a = c.args in let w = c.loop-k in let m = c.min-n in
    let e : w.k ≡ m.result = omega (arith, c.loop-k-test.false, w.auto.k-end) in
    ap (λ l. record { list = l; count = a.count })
    (filled-all blank_cell (cell_from a.b.now) max_cells a.count w.k w.list (e ∙ m.ensures) w.invariant (omega (arith, e, m.ensures)))
