use Rattle.std.proofs.Common.{◌≡◌, refl, length, ◌∙◌, arith}
use Rattle.state_bytes.proofs.Rows.{rows_none, rows_more}
use Rattle.state_bytes.proofs.Laws.{call_row, below-4, next-4, calls-written}
use Rattle.state_bytes.specs.Flat.{call_size, calls_size}
use Rattle.spec_model.specs.Requests.{max_calls}
use Rattle.state_bytes.proofs.calls_to.Goals as goal

pub loop-j-init : goal.loop-j-init
loop-j-init c = let a = c.args in rows_none 4 (call_row a.js) a.b.now

pub loop-j-preserved : goal.loop-j-preserved
loop-j-preserved c =
    let a = c.args in let w = c.loop-j in
    rows_more call_size (call_row a.js) a.b.now (λ i. refl) below-4 next-4 calls_size w.j w.b _ c.told-b
    (omega (arith, c.loop-j-test.true, c.min-n.ensures)) c.put_call.ensures w.invariant

pub returns : goal.returns
returns c =
    let a = c.args in let w = c.loop-j in let m = c.min-n in
    let l : length a.js.list ≡ max_calls = c.well_formed.1.0.1.1.0.1.0.1 in
    let e : w.j ≡ m.result = omega (arith, c.loop-j-test.false, w.auto.j-end) in
    calls-written a.b.now w.b w.j a.js l (e ∙ m.ensures) (omega (arith, e, m.ensures)) w.invariant
