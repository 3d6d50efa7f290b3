-- The loop has written the lines of the first j methods, and one more goes into the rest of the buffer (`lines_rest`, `method-next`).
use Rattle.sheet_write_table.specs.Parts.{method_lines}
use Rattle.text_write.specs.Fill.{Lined}
use Prim.Native.Nat.{◌*◌, ◌≤◌}
use Rattle.sheet_write_table.proofs.write_methods.Given as goal

abbrev pub invariant-loop-j : goal.invariant-loop-j
invariant-loop-j l = record { few : l.at ≤ 182 * l.j; is : Lined l.initial.buf l.buf (method_lines l.b l.i l.j) l.at }
