use Rattle.std.proofs.Common.{◌≡◌, ◌-◌, ℕ, ap, sym, ◌∙◌, arith}
use Rattle.table_check_links.proofs.Each.{rest-next, rest-broken, rest_end}
use Rattle.table_check_links.specs.Parts.{each_from}
use Rattle.state_check.specs.Parts.{calls_accepted}
use Rattle.state_check.proofs.Steps.{CallAt, call-tested}
use Rattle.state_check.proofs.calls_fit.Goals as goal

pub loop-j-init : goal.loop-j-init
unfolding calls_accepted
loop-j-init g c = let a = c.args in let cs = g.H.Held.calls a.h.now in
    let e : cs.count ≡ cs.count - 0 = omega arith in
    ap (λ (z : ℕ). each_from z 0 (CallAt a.c (g.H.Held.cells a.h.now).count cs)) e

pub returns-then-not-call_fits : goal.returns-then-not-call_fits
returns-then-not-call_fits g c = let a = c.args in let cs = g.H.Held.calls a.h.now in
    sym (c.loop-j.invariant ∙ rest-broken (CallAt a.c (g.H.Held.cells a.h.now).count cs) cs.count c.loop-j.j (omega (arith, c.loop-j-test.true, c.call_count-j-end.ensures))
    (sym (call-tested a.c _ cs c.loop-j.j _ _ _ c.cell_count-cells.ensures c.call.ensures c.call_fits.ensures) ∙ c.if-not-call_fits.true))

pub loop-j-preserved : goal.loop-j-preserved
loop-j-preserved g c = let a = c.args in let cs = g.H.Held.calls a.h.now in
    c.loop-j.invariant ∙ rest-next (CallAt a.c (g.H.Held.cells a.h.now).count cs) cs.count c.loop-j.j (omega (arith, c.loop-j-test.true, c.call_count-j-end.ensures))
    (sym (call-tested a.c _ cs c.loop-j.j _ _ _ c.cell_count-cells.ensures c.call.ensures c.call_fits.ensures) ∙ c.if-not-call_fits.false)

pub returns : goal.returns
returns g c = let a = c.args in let cs = g.H.Held.calls a.h.now in
    sym (c.loop-j.invariant ∙ rest_end (CallAt a.c (g.H.Held.cells a.h.now).count cs) cs.count c.loop-j.j (omega (arith, c.loop-j-test.false, c.call_count-j-end.ensures)))
