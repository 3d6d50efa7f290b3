-- The loop has written the pairs of T with the first s types, and one more goes into the rest of the buffer (`lines_rest`, `row_next`).
use Rattle.pairs_write_lines.specs.Parts.{row_lines}
use Rattle.text_write.specs.Fill.{Lined}
use Prim.Native.Nat.{◌*◌, ◌≤◌}
use Rattle.pairs_write_lines.proofs.row_lines.Given as goal

abbrev pub invariant-loop-s : goal.invariant-loop-s
invariant-loop-s l = record { few : l.at ≤ 14 * l.s; is : Lined l.initial.buf l.buf (row_lines l.pairs l.t l.s) l.at }
