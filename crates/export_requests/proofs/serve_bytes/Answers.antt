-- What `serve` comes to on the state that the bytes mean is handed back; on a refusal every array is as it was (crate request_results).
use mathlib.Core.Bool.{not}
use mathlib.Core.Path.{ap}
use mathlib.Core.Path.{refl, subst}
use mathlib.Core.Option.{Option}
use Rattle.spec_model.specs.Requests.{Request}
use Rattle.spec_model.specs.Coded.{by_code}
use Rattle.state_record.specs.Whole.{whole}
use Rattle.request_common.specs.Served.{done}
use Rattle.request_serve.specs.Serves.{ServesAsked}
use Rattle.state_bytes.specs.Flat.{flat}
use Rattle.request_results.proofs.Handing.{request-unfit, request-handed}
use Rattle.export_requests.proofs.Handing.{asked-small}
use Rattle.export_requests.proofs.serve_bytes.Goals as goal

pub returns-then-not-codes_fit : goal.returns-then-not-codes_fit
returns-then-not-codes_fit c q e = let a = c.args in
    rw c.number.ensures (request-unfit (flat a.types.now a.links.now a.cells.now a.places.now a.calls.now a.counts.now) q a.values.now _ c.codes_fit.ensures (ap not c.if-not-codes_fit.true))

pub hand_back-requires : goal.hand_back-requires
hand_back-requires c =
    let a = c.args in
    asked-small (whole a.types.now c.state_from-s.result) (by_code a.code a.ops.now) (done c.serve-r.new.types c.serve-r.new.s c.serve-r.result) c.serve-r.ensures

pub returns : goal.returns
returns c q e =
    let a = c.args in
    let f = flat a.types.now a.links.now a.cells.now a.places.now a.calls.now a.counts.now in
    let w = subst (λ (x : Option Request). ServesAsked (whole a.types.now c.state_from-s.result) x (done c.serve-r.new.types c.serve-r.new.s c.serve-r.result)) e c.serve-r.ensures in
    request-handed f q a.values.now _ c.codes_fit.ensures (ap not c.if-not-codes_fit.false)
    (whole a.types.now c.state_from-s.result) (c.state_from-s.ensures a.types.now) (done c.serve-r.new.types c.serve-r.new.s c.serve-r.result) w _ _ _ refl (c.hand_back.ensures c.serve-r.new.types a.links.now)
