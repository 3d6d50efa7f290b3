-- The output by the two cases of an input, too long or not, as the definition has them.
use native.Mathlib.Omega.{arith}
use Rattle.text_write.proofs.Laws.{fill_is}
use Rattle.doors_output.proofs.Laws.{long-prints, held-prints}
use Rattle.doors_output.proofs.put_report.Goals as goal

pub returns-then-s-gt-INPUT_BYTES : goal.returns-then-s-gt-INPUT_BYTES
returns-then-s-gt-INPUT_BYTES c =
    record { is = fill_is (long-prints c.args.s.now (omega (arith, c.if-s-gt-INPUT_BYTES.true))) c.write_word.ensures.is.filled; few = omega (arith, c.write_word.ensures.few) }

pub returns : goal.returns
returns c =
    record { is = fill_is (held-prints c.args.s.now _ c.hold_lines.ensures (omega (arith, c.if-s-gt-INPUT_BYTES.false))) c.write_held.ensures.is.filled; few = c.write_held.ensures.few }
