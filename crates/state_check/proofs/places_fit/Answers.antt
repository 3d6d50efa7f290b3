use Rattle.std.proofs.Common.{◌≡◌, ◌-◌, ℕ, ap, sym, ◌∙◌, arith}
use Rattle.table_check_links.proofs.Each.{rest-next, rest-broken, rest_end}
use Rattle.table_check_links.specs.Parts.{each_from}
use Rattle.state_check.specs.Parts.{places_accepted}
use Rattle.state_check.proofs.Steps.{PlaceAt, place-tested}
use Rattle.state_check.proofs.places_fit.Goals as goal

pub loop-p-init : goal.loop-p-init
unfolding places_accepted
loop-p-init g c = let a = c.args in let cs = g.H.Held.places a.h.now in
    let e : cs.count ≡ cs.count - 0 = omega arith in
    ap (λ (z : ℕ). each_from z 0 (PlaceAt a.b.now a.c cs)) e

pub returns-then-not-place_fits : goal.returns-then-not-place_fits
returns-then-not-place_fits g c = let a = c.args in let cs = g.H.Held.places a.h.now in
    sym (c.loop-p.invariant ∙ rest-broken (PlaceAt a.b.now a.c cs) cs.count c.loop-p.p (omega (arith, c.loop-p-test.true, c.place_count-p-end.ensures))
    (sym (place-tested a.c _ a.b.now cs c.loop-p.p _ c.place.ensures c.place_fits.ensures) ∙ c.if-not-place_fits.true))

pub loop-p-preserved : goal.loop-p-preserved
loop-p-preserved g c = let a = c.args in let cs = g.H.Held.places a.h.now in
    c.loop-p.invariant ∙ rest-next (PlaceAt a.b.now a.c cs) cs.count c.loop-p.p (omega (arith, c.loop-p-test.true, c.place_count-p-end.ensures))
    (sym (place-tested a.c _ a.b.now cs c.loop-p.p _ c.place.ensures c.place_fits.ensures) ∙ c.if-not-place_fits.false)

pub returns : goal.returns
returns g c = let a = c.args in let cs = g.H.Held.places a.h.now in
    sym (c.loop-p.invariant ∙ rest_end (PlaceAt a.b.now a.c cs) cs.count c.loop-p.p (omega (arith, c.loop-p-test.false, c.place_count-p-end.ensures)))
