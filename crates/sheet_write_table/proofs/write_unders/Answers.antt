use Rattle.sheet_write_table.proofs.Laws.{under_next, unders-none}
use Rattle.text_write.proofs.Laws.{lines_none, lines_rest, lines_are}
use native.Mathlib.Omega.{arith}
use Rattle.sheet_write_table.proofs.write_unders.Goals as goal

pub loop-i-init : goal.loop-i-init
loop-i-init c = record { few = omega arith; is = lines_are (unders-none c.args.l.now) (lines_none c.args.buf.now) }

pub loop-i-preserved : goal.loop-i-preserved
loop-i-preserved c =
    let x = c.get_links in
    let more = lines_rest c.loop-i.invariant.is c.min-k.ensures c.write_under-at.ensures.is in
    record { few = omega arith; is = lines_are (under_next c.args.l.now c.loop-i.i x.result x.ensures) more }
