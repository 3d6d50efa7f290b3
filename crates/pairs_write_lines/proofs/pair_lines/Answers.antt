use Rattle.pairs_write_lines.proofs.Laws.{rows_none, rows_next}
use Rattle.text_write.proofs.Laws.{lines_none, lines_rest, lines_are}
use native.Mathlib.Omega.{arith}
use Rattle.pairs_write_lines.proofs.pair_lines.Goals as goal

pub loop-t-init : goal.loop-t-init
loop-t-init c = record { few = omega arith; is = lines_are (rows_none c.args.pairs.now c.args.n) (lines_none c.args.buf.now) }

pub loop-t-preserved : goal.loop-t-preserved
loop-t-preserved c =
    let more = lines_rest c.loop-t.invariant.is c.min-k.ensures c.row_lines-at.ensures.is in
    record { few = omega arith; is = lines_are (rows_next c.args.pairs.now c.args.n c.loop-t.t) more }
