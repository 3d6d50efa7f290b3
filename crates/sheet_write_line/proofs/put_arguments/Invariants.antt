-- The loop has written the first i arguments, and one more goes into the rest of the buffer (`fill-rest`, `argument-next`).
use Rattle.std.proofs.Common.{◌≤◌, ◌*◌, take}
use Rattle.spec_sheet.specs.Numbers.{commas}
use Rattle.text_write.specs.Fill.{Filled}
use Rattle.sheet_write_line.proofs.put_arguments.Given as goal

abbrev pub invariant-loop-i : goal.invariant-loop-i
invariant-loop-i l = record { few : l.at ≤ 36 * l.i; is : Filled l.initial.buf l.buf (commas (take l.i l.a-items)) l.at }
