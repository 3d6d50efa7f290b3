use mir.Syntax.{w64}
use mir.Val.{SFits}
use mir.Facts.{to_z-of_z}
use mathlib.Core.Path.{sym, ap, ◌∙◌}
use Prim.Native.Nat.{ℕ}
use lib.ListN.{get_or, drop_of_length-le}
use lib.IntN.{pos}
use borrow.Author.Rules.{rules}
use Rattle.std.specs.Prelude.{Some}
use Rattle.std.proofs.lemmas.Result.{err_from_is_err_and}
use Rattle.state_record.specs.Whole.{whole}
use Rattle.request_common.specs.Served.{done}
use Rattle.crossing_targets.specs.Targets.{call_layers_in}
use Rattle.request_value.proofs.Sending.{sends-over, sends-end, sends-stop, sends-next}
use Rattle.request_value.proofs.Laws.{none_left, some_left, value-next}
use Rattle.request_value.specs.Sent.{arguments_of}
use Rattle.request_value.proofs.send_arguments.Goals as goal

pub returns-in_default : goal.returns-in_default
returns-in_default c = let a = c.args in let l = c.loop-i in
    sends-over (whole a.types.now a.s.now) a.r (call_layers_in a.w) a.m (arguments_of a.x) a.vs.now (whole l.types l.s) l.i l.invariant
    (none_left a.x l.i c.argument_in.result c.argument_in.ensures c.in_default.is)

pub returns-in_err-send_argument : goal.returns-in_err-send_argument
returns-in_err-send_argument c = let a = c.args in let l = c.loop-i in
    let v = get_or a.vs.now l.i (pos 0) in
    let fit : SFits w64 v = search rules in
    let k = rw (to_z-of_z fit) at c.send_argument.ensures in
    let p = err_from_is_err_and c.from_residual.result c.from_residual.ensures.1 in
    rw (p.1, p.2) (sends-stop (whole a.types.now a.s.now) a.r (call_layers_in a.w) a.m (arguments_of a.x) a.vs.now (whole l.types l.s) l.i l.invariant c.from.result
    (some_left a.x l.i c.argument_in.result c.argument_in.ensures c.from.result (c.in-Some.is ∙ ap (λ (n : ℕ). Some n) (sym c.from.ensures)))
    v (value-next a.vs.now l.i c.loop-i-test.true) (done c.send_argument.new.types c.send_argument.new.s c.send_argument.result) k.0 k.1 _ c.in_err-send_argument.was)

pub loop-i-preserved : goal.loop-i-preserved
loop-i-preserved c = let a = c.args in let l = c.loop-i in
    let v = get_or a.vs.now l.i (pos 0) in
    let fit : SFits w64 v = search rules in
    let k = rw (to_z-of_z fit) at c.send_argument.ensures in
    sends-next (whole a.types.now a.s.now) a.r (call_layers_in a.w) a.m (arguments_of a.x) a.vs.now (whole l.types l.s) l.i l.invariant c.from.result
    (some_left a.x l.i c.argument_in.result c.argument_in.ensures c.from.result (c.in-Some.is ∙ ap (λ (n : ℕ). Some n) (sym c.from.ensures)))
    v (value-next a.vs.now l.i c.loop-i-test.true) (done c.send_argument.new.types c.send_argument.new.s c.send_argument.result) k.0 k.1 _ c.in_ok-send_argument.was

pub returns : goal.returns
returns c = let a = c.args in let l = c.loop-i in
    sends-end (whole a.types.now a.s.now) a.r (call_layers_in a.w) a.m (arguments_of a.x) a.vs.now (whole l.types l.s) l.i l.invariant
    (drop_of_length-le a.vs.now {i = l.i} c.loop-i-test.false)
