use Rattle.sheet_write_table.proofs.Laws.{type-next, types-none}
use Rattle.text_write.proofs.Laws.{lines_none, lines_rest, lines_are}
use native.Mathlib.Omega.{arith}
use Rattle.sheet_write_table.proofs.write_types.Goals as goal

pub loop-i-init : goal.loop-i-init
loop-i-init c = record { few = omega arith; is = lines_are (types-none c.args.b.now c.args.c) (lines_none c.args.buf.now) }

pub loop-i-preserved : goal.loop-i-preserved
loop-i-preserved c =
    let more = lines_rest c.loop-i.invariant.is c.min-k.ensures c.write_type-at.ensures.is in
    record { few = omega arith; is = lines_are (type-next c.args.b.now c.args.c c.loop-i.i) more }
