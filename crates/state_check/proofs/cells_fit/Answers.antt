use Rattle.std.proofs.Common.{◌≡◌, ◌-◌, ℕ, ap, sym, ◌∙◌, arith}
use Rattle.table_check_links.proofs.Each.{rest-next, rest-broken, rest_end}
use Rattle.table_check_links.specs.Parts.{each_from}
use Rattle.state_check.specs.Parts.{cells_accepted}
use Rattle.state_check.proofs.Steps.{CellAt, cell-tested}
use Rattle.state_check.proofs.cells_fit.Goals as goal

pub loop-k-init : goal.loop-k-init
unfolding cells_accepted
loop-k-init g c = let a = c.args in let cs = g.H.Held.cells a.h.now in
    let e : cs.count ≡ cs.count - 0 = omega arith in
    ap (λ (z : ℕ). each_from z 0 (CellAt a.b.now a.c (g.H.Held.places a.h.now).count cs)) e

pub returns-then-not-cell_fits : goal.returns-then-not-cell_fits
returns-then-not-cell_fits g c = let a = c.args in let cs = g.H.Held.cells a.h.now in
    sym (c.loop-k.invariant ∙ rest-broken (CellAt a.b.now a.c (g.H.Held.places a.h.now).count cs) cs.count c.loop-k.k (omega (arith, c.loop-k-test.true, c.cell_count-k-end.ensures))
    (sym (cell-tested a.c _ a.b.now cs c.loop-k.k _ _ _ c.place_count-places.ensures c.cell.ensures c.cell_fits.ensures) ∙ c.if-not-cell_fits.true))

pub loop-k-preserved : goal.loop-k-preserved
loop-k-preserved g c = let a = c.args in let cs = g.H.Held.cells a.h.now in
    c.loop-k.invariant ∙ rest-next (CellAt a.b.now a.c (g.H.Held.places a.h.now).count cs) cs.count c.loop-k.k (omega (arith, c.loop-k-test.true, c.cell_count-k-end.ensures))
    (sym (cell-tested a.c _ a.b.now cs c.loop-k.k _ _ _ c.place_count-places.ensures c.cell.ensures c.cell_fits.ensures) ∙ c.if-not-cell_fits.false)

pub returns : goal.returns
returns g c = let a = c.args in let cs = g.H.Held.cells a.h.now in
    sym (c.loop-k.invariant ∙ rest_end (CellAt a.b.now a.c (g.H.Held.places a.h.now).count cs) cs.count c.loop-k.k (omega (arith, c.loop-k-test.false, c.cell_count-k-end.ensures)))
