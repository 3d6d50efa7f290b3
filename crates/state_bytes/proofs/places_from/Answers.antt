use Rattle.std.proofs.Common.{◌≡◌, ap, ◌∙◌, arith}
use Rattle.state_record.specs.View.{blank_place}
use Rattle.state_bytes.specs.Records.{place_from, places_from}
use Rattle.state_bytes.proofs.Filling.{filled_none, filled_more, filled-all}
use Rattle.spec_model.specs.Crossing.{max_places}
use Rattle.state_bytes.proofs.places_from.Goals as goal

pub loop-p-init : goal.loop-p-init
loop-p-init c = rw c.none.ensures (filled_none blank_place (place_from c.args.b.now) max_places)

pub loop-p-preserved : goal.loop-p-preserved
loop-p-preserved c = let w = c.loop-p in
    filled_more blank_place (place_from c.args.b.now) max_places w.p w.list _ c.place_from.ensures (omega (arith, c.loop-p-test.true, c.min-n.ensures)) w.invariant

pub returns : goal.returns
unfolding places_from
returns c =
    let a = c.args in let w = c.loop-p in let m = c.min-n in
    let e : w.p ≡ m.result = omega (arith, c.loop-p-test.false, w.auto.p-end) in
    ap (λ l. record { list = l; count = a.count })
    (filled-all blank_place (place_from a.b.now) max_places a.count w.p w.list (e ∙ m.ensures) w.invariant (omega (arith, e, m.ensures)))
