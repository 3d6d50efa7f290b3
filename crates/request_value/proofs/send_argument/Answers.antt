-- A reference is sent, a number passes or is refused.
use mathlib.Core.Path.{refl}
use mir.Facts.{to_z-of_z}
use Rattle.std.proofs.lemmas.Result.{err_from_is_err_and}
use Rattle.state_record.specs.Whole.{whole}
use Rattle.request_common.specs.Served.{done}
use Rattle.crossing_targets.specs.Targets.{call_layers_in, targets_in}
use Rattle.request_value.proofs.Sending.{argument-sent, number-refused, number-passes}
use Rattle.request_value.proofs.send_argument.Goals as goal

pub returns-then-names_ref : goal.returns-then-names_ref
returns-then-names_ref c = let a = c.args in let s = whole a.types.now a.s.now in
    argument-sent s c.requires.0 a.r (call_layers_in a.w) a.m a.i a.a a.v (targets_in c.targets_of-targets.result) c.targets_of-targets.ensures.0
    c.names_ref.result c.names_ref.ensures c.if-names_ref.true (done c.send.new.types c.send.new.s c.send.result) (rw (to_z-of_z c.ranges.v) at c.send.ensures)

pub returns-in_err-pass : goal.returns-in_err-pass
returns-in_err-pass c = let a = c.args in let s = whole a.types.now a.s.now in
    let p = err_from_is_err_and c.from_residual.result c.from_residual.ensures.1 in
    rw (p.1, p.2) (number-refused s c.requires.0 a.r (call_layers_in a.w) a.m a.i a.a a.v (targets_in c.targets_of-targets.result) c.targets_of-targets.ensures.0
    c.names_ref.result c.names_ref.ensures c.if-names_ref.false c.pass.result (rw (to_z-of_z c.ranges.v) at c.pass.ensures) _ c.in_err-pass.was _ refl)

pub returns : goal.returns
returns c = let a = c.args in let s = whole a.types.now a.s.now in
    number-passes s c.requires.0 a.r (call_layers_in a.w) a.m a.i a.a a.v (targets_in c.targets_of-targets.result) c.targets_of-targets.ensures.0
    c.names_ref.result c.names_ref.ensures c.if-names_ref.false c.pass.result (rw (to_z-of_z c.ranges.v) at c.pass.ensures) _ c.in_ok-pass.was
