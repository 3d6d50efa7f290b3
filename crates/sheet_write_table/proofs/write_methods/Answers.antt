use Rattle.sheet_write_table.proofs.Laws.{method-next, methods-none}
use Rattle.text_write.proofs.Laws.{lines_none, lines_rest, lines_are}
use native.Mathlib.Omega.{arith}
use Rattle.sheet_write_table.proofs.write_methods.Goals as goal

pub loop-j-init : goal.loop-j-init
loop-j-init c = record { few = omega arith; is = lines_are (methods-none c.args.b.now c.args.i) (lines_none c.args.buf.now) }

pub loop-j-preserved : goal.loop-j-preserved
loop-j-preserved c =
    let m = c.get_method in
    let more = lines_rest c.loop-j.invariant.is c.min-k.ensures c.write_method-at.ensures.is in
    record { few = omega arith; is = lines_are (method-next c.args.b.now c.args.i c.loop-j.j m.result m.ensures) more }
