use Rattle.std.proofs.Common.{◌≡◌, length, ◌∙◌, arith}
use Rattle.state_record.specs.View.{blank_place}
use lib.ListN.{get_or}
use Rattle.state_bytes.proofs.Rows.{rows_none, rows_more}
use Rattle.state_bytes.proofs.Laws.{place_row, below-3, next-3, places-written, place-wide}
use Rattle.state_bytes.specs.Flat.{place_size, places_size}
use Rattle.spec_model.specs.Crossing.{max_places}
use Rattle.state_bytes.proofs.places_to.Goals as goal

pub loop-p-init : goal.loop-p-init
loop-p-init c = let a = c.args in rows_none 3 (place_row a.ps) a.b.now

pub loop-p-preserved : goal.loop-p-preserved
loop-p-preserved c =
    let a = c.args in let w = c.loop-p in
    rows_more place_size (place_row a.ps) a.b.now (λ i. place-wide (get_or a.ps.list i blank_place).place) below-3 next-3 places_size w.p w.b _ c.told-b
    (omega (arith, c.loop-p-test.true, c.min-n.ensures)) c.put_place.ensures w.invariant

pub returns : goal.returns
returns c =
    let a = c.args in let w = c.loop-p in let m = c.min-n in
    let l : length a.ps.list ≡ max_places = c.well_formed.1.0.1.1.0.1.0.1 in
    let e : w.p ≡ m.result = omega (arith, c.loop-p-test.false, w.auto.p-end) in
    places-written a.b.now w.b w.p a.ps l (e ∙ m.ensures) (omega (arith, e, m.ensures)) w.invariant
