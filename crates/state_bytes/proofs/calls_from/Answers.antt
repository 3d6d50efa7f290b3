use Rattle.std.proofs.Common.{◌≡◌, ap, ◌∙◌, arith}
use Rattle.state_record.specs.View.{blank_call}
use Rattle.state_bytes.specs.Records.{call_from, calls_from}
use Rattle.state_bytes.proofs.Filling.{filled_none, filled_more, filled-all}
use Rattle.spec_model.specs.Requests.{max_calls}
use Rattle.state_bytes.proofs.calls_from.Goals as goal

pub loop-j-init : goal.loop-j-init
loop-j-init c = rw c.none.ensures (filled_none blank_call (call_from c.args.b.now) max_calls)

pub loop-j-preserved : goal.loop-j-preserved
loop-j-preserved c = let w = c.loop-j in
    filled_more blank_call (call_from c.args.b.now) max_calls w.j w.list _ c.call_from.ensures (omega (arith, c.loop-j-test.true, c.min-n.ensures)) w.invariant

pub returns : goal.returns
unfolding calls_from
returns c =
    let a = c.args in let w = c.loop-j in let m = c.min-n in
    let e : w.j ≡ m.result = omega (arith, c.loop-j-test.false, w.auto.j-end) in
    ap (λ l. record { list = l; count = a.count })
    (filled-all blank_call (call_from a.b.now) max_calls a.count w.j w.list (e ∙ m.ensures) w.invariant (omega (arith, e, m.ensures)))
