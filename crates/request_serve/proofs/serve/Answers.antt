-- The check is the model's; what passes is sound (`accepted-sound`). What stores no type serves as it is (`kept-serves`), the rest is saved first.
use mathlib.Core.Bool.{not}
use mathlib.Core.Path.{refl, sym, ap, subst}
use Prim.Native.Nat.{ℕ}
use Rattle.std.proofs.lemmas.Result.{err_from_is_err_and}
use Rattle.spec_model.specs.Coded.{by_code}
use Rattle.table_check_links.proofs.Steps.{refused, passed}
use Rattle.state_record.specs.Whole.{whole}
use Rattle.state_record.proofs.Kept.{sound-room}
use Rattle.state_check.proofs.Sound.{accepted-sound}
use Rattle.request_common.specs.Served.{done}
use Rattle.request_common.proofs.Laws.{refuses, step-as}
use Rattle.request_call.proofs.Calling.{call-byte}
use Rattle.request_serve.specs.Serves.{ServesAsked}
use Rattle.request_serve.proofs.Laws.{refused-serves, kept-serves}
use Rattle.request_serve.proofs.serve.Goals as goal

pub returns-then-not-state_fits : goal.returns-then-not-state_fits
returns-then-not-state_fits c = let a = c.args in let b = a.types.now in
    refused-serves (whole b a.s.now) (by_code a.code a.ops.now) (refused c.state_fits.result _ c.state_fits.ensures (ap not c.if-not-state_fits.true))
    _ refl

pub serve_nothing-requires : goal.serve_nothing-requires
serve_nothing-requires c = let a = c.args in let taken = passed c.state_fits.result _ c.state_fits.ensures (ap not c.if-not-state_fits.false) in
    (accepted-sound (whole a.types.now a.s.now) taken c.type_bytes.ensures, taken, (c.is_nothing.ensures c.if-is_nothing.true).1)

pub returns-then-is_nothing : goal.returns-then-is_nothing
returns-then-is_nothing c = let a = c.args in
    subst (λ (n : ℕ). ServesAsked (whole a.types.now a.s.now) (by_code n a.ops.now) (done c.serve_nothing.new.types c.serve_nothing.new.s c.serve_nothing.result))
    (sym (c.is_nothing.ensures c.if-is_nothing.true).0) c.serve_nothing.ensures

pub planned-requires : goal.planned-requires
planned-requires c = let a = c.args in
    accepted-sound (whole a.types.now a.s.now) (passed c.state_fits.result _ c.state_fits.ensures (ap not c.if-not-state_fits.false)) c.type_bytes.ensures

pub returns-in_err-p : goal.returns-in_err-p
returns-in_err-p c =
    let a = c.args in let b = a.types.now in
    let taken = passed c.state_fits.result _ c.state_fits.ensures (ap not c.if-not-state_fits.false) in
    let sound = accepted-sound (whole b a.s.now) taken c.type_bytes.ensures in
    let p = err_from_is_err_and c.from_residual.result c.from_residual.ensures.1 in
    rw (p.1, p.2) (kept-serves b b a.s.now a.s.now (by_code a.code a.ops.now) _ sound taken (refuses sound c.in_err-p.ensures refl) refl)

pub serve_saved-requires : goal.serve_saved-requires
serve_saved-requires c = let a = c.args in
    let taken = passed c.state_fits.result _ c.state_fits.ensures (ap not c.if-not-state_fits.false) in
    (accepted-sound (whole a.types.now a.s.now) taken c.type_bytes.ensures, taken)

pub returns-in-None : goal.returns-in-None
returns-in-None c = c.serve_saved.ensures

pub add_call-requires : goal.add_call-requires
add_call-requires c =
    let a = c.args in
    let sound = accepted-sound (whole a.types.now a.s.now)
    (passed c.state_fits.result _ c.state_fits.ensures (ap not c.if-not-state_fits.false))
    c.type_bytes.ensures in
    let p = c.in-Some.p in
    let low = (rw c.in-Some.is at c.in_ok-p.ensures).0 in
    let b = call-byte (whole a.types.now a.s.now) sound p.who low.0 p.cell p.method 0 low.2 low.3 in
    (sound-room _ sound p.who low.0, low.1, b.0, b.1)

pub returns-in-Some : goal.returns-in-Some
returns-in-Some c =
    let a = c.args in let b = a.types.now in
    let taken = passed c.state_fits.result _ c.state_fits.ensures (ap not c.if-not-state_fits.false) in
    let sound = accepted-sound (whole b a.s.now) taken c.type_bytes.ensures in
    let k = rw c.in-Some.is at c.in_ok-p.ensures in
    kept-serves b b a.s.now c.add_call.new.s (by_code a.code a.ops.now) _ sound taken
    (step-as k.1 (c.add_call.ensures b sound k.0.0 k.0.2 k.0.3)) refl
