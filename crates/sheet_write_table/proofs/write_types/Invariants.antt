-- The loop has written the lines of the first i types, and one more's go into the rest of the buffer (`lines_rest`, `type-next`).
use Rattle.sheet_write_table.specs.Parts.{type_lines_to}
use Rattle.text_write.specs.Fill.{Lined}
use Prim.Native.Nat.{◌*◌, ◌≤◌}
use Rattle.sheet_write_table.proofs.write_types.Given as goal

abbrev pub invariant-loop-i : goal.invariant-loop-i
invariant-loop-i l = record { few : l.at ≤ 3020 * l.i; is : Lined l.initial.buf l.buf (type_lines_to l.b l.c l.i) l.at }
