use Rattle.pairs_write_lines.proofs.Laws.{row-none, row_next}
use Rattle.text_write.proofs.Laws.{lines_none, lines_rest, lines_are}
use native.Mathlib.Omega.{arith}
use Rattle.pairs_write_lines.proofs.row_lines.Goals as goal

pub loop-s-init : goal.loop-s-init
loop-s-init c = record { few = omega arith; is = lines_are (row-none c.args.pairs.now c.args.t) (lines_none c.args.buf.now) }

pub loop-s-preserved : goal.loop-s-preserved
loop-s-preserved c =
    let a = c.args in
    let more = lines_rest c.loop-s.invariant.is c.min-k.ensures c.pair_line-at.ensures.is in
    record { few = omega arith; is = lines_are (row_next a.pairs.now a.t c.loop-s.s c.from-code.result c.from-code.ensures) more }
