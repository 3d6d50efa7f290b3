-- The loop has written the lines of the first i categories, and one more goes into the rest of the buffer (`lines_rest`, `under_next`).
use Rattle.sheet_write_table.specs.Parts.{under_lines}
use Rattle.text_write.specs.Fill.{Lined}
use Prim.Native.Nat.{◌*◌, ◌≤◌}
use Rattle.sheet_write_table.proofs.write_unders.Given as goal

abbrev pub invariant-loop-i : goal.invariant-loop-i
invariant-loop-i l = record { few : l.at ≤ 73 * l.i; is : Lined l.initial.buf l.buf (under_lines l.l l.i) l.at }
