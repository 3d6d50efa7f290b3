-- A signed decimal stands in the buffer: the sign where there is one, then the digits of the magnitude in the rest (`fill-rest`).
use Rattle.std.proofs.Common.{ap, ◌∙◌}
use Rattle.text_write.proofs.Laws.{fill-rest, fill_is}
use lib.IntN.{nat_abs}
use mir.Facts.{to_z-of_z}
use Rattle.script_write_outcome.proofs.Laws.{integer-negative, integer-positive}
use Rattle.script_write_outcome.proofs.put_integer.Goals as goal

pub returns-then-v-lt0-clause-is : goal.returns-then-v-lt0-clause-is
returns-then-v-lt0-clause-is c =
    let e = to_z-of_z c.ranges.v in
    let m = c.unsigned_abs-n.ensures.value ∙ ap nat_abs e in
    fill_is (integer-negative c.args.v _ (rw e at c.if-v-lt0.true) m) (fill-rest c.put_byte-a.ensures c.min-k.ensures c.put_decimal.ensures.is)

pub returns-clause-is : goal.returns-clause-is
returns-clause-is c =
    let e = to_z-of_z c.ranges.v in
    let m = c.unsigned_abs-n.ensures.value ∙ ap nat_abs e in
    fill_is (integer-positive c.args.v _ (rw e at c.if-v-lt0.false) m) c.put_decimal-2.ensures.is
