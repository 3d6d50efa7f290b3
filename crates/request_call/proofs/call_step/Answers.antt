-- What is planned of the call says what is left of it.
use mir.Facts.{to_z-of_z}
use mathlib.Core.Path.{refl}
use Rattle.std.proofs.lemmas.Result.{err_from_is_err_and}
use Rattle.state_record.specs.Whole.{whole}
use Rattle.state_record.proofs.Kept.{sound-room}
use Rattle.request_common.proofs.Laws.{step-refuses, step-as}
use Rattle.request_call.proofs.Calling.{call-byte}
use Rattle.request_call.proofs.call_step.Goals as goal

pub plan_call-requires : goal.plan_call-requires
plan_call-requires c = c.requires

pub returns-in_err-p : goal.returns-in_err-p
returns-in_err-p c = let f = c.ranges in let p = err_from_is_err_and c.from_residual.result c.from_residual.ensures.1 in
    rw (p.1, p.2) (step-refuses c.requires (rw (to_z-of_z f.subject, to_z-of_z f.cell, to_z-of_z f.method) at c.in_err-p.ensures) refl)

pub call_through-requires : goal.call_through-requires
call_through-requires c = let low = c.in_ok-p.ensures.fits in (c.requires, low.0, low.1, low.2, low.3)

pub returns-in-Reference : goal.returns-in-Reference
returns-in-Reference c = let f = c.ranges in let p = rw (to_z-of_z f.subject, to_z-of_z f.cell, to_z-of_z f.method) at c.in_ok-p.ensures in
    step-as p.goes c.call_through.ensures

pub add_call-requires : goal.add_call-requires
add_call-requires c = let a = c.args in let p = c.in_ok-p.p in let low = c.in_ok-p.ensures.fits in
    let b = call-byte (whole a.types.now a.s.now) c.requires p.who low.0 p.cell p.method 0 low.2 low.3 in
    (sound-room _ c.requires p.who low.0, low.1, b.0, b.1)

pub returns-in-Numbers : goal.returns-in-Numbers
returns-in-Numbers c = let a = c.args in let f = c.ranges in let p = rw (to_z-of_z f.subject, to_z-of_z f.cell, to_z-of_z f.method) at c.in_ok-p.ensures in
    let low = p.fits in
    step-as (p.adds c.in-Numbers.is) (c.add_call.ensures a.types.now c.requires low.0 low.2 low.3)
