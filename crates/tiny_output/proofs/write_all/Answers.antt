use Rattle.tiny_output.proofs.Laws.{text-next, text-none, text-all}
use Rattle.text_write.proofs.Laws.{fill_none, fill_is, fill-rest}
use native.Mathlib.Omega.{arith}
use Rattle.tiny_output.proofs.write_all.Goals as goal

pub loop-i-init : goal.loop-i-init
loop-i-init c = record { few = omega arith; is = fill_is text-none (fill_none c.args.buf.now) }

pub loop-i-preserved : goal.loop-i-preserved
loop-i-preserved c =
    let more = fill-rest c.loop-i.invariant.is c.min-k.ensures c.write_one-at.ensures.is in
    record { few = omega arith; is = fill_is (text-next c.loop-i.i c.loop-i-test.true) more }

pub returns : goal.returns
returns c = fill_is (text-all c.loop-i.i c.loop-i.auto.i-end c.loop-i-test.false) c.loop-i.invariant.is
