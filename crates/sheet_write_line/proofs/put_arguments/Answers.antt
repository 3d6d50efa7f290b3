use Rattle.sheet_write_line.proofs.Laws.{argument-next}
use Rattle.text_write.proofs.Laws.{fill-rest, fill_is}
use lib.ListN.{length, take}
use Prim.Native.Nat.{◌<◌}
use borrow.Author.Rules.{rules}
use native.Mathlib.Omega.{arith}
use Rattle.sheet_write_line.proofs.put_arguments.Goals as goal

pub loop-i-preserved : goal.loop-i-preserved
loop-i-preserved c =
    let args = take c.min-n.result c.args.args in
    let below : c.loop-i.i < length args = search rules in
    let more = fill_is (argument-next args c.loop-i.i c.from.result below c.from.ensures) (fill-rest c.loop-i.invariant.is c.min-k.ensures c.put_argument-at.ensures.is) in
    record { few = omega arith; is = more }
