-- The loop has written the pairs of the first t types, and those of one more go into the rest of the buffer (`lines_rest`, `rows_next`).
use Rattle.pairs_write_lines.specs.Parts.{code_lines}
use Rattle.text_write.specs.Fill.{Lined}
use Prim.Native.Nat.{◌*◌, ◌≤◌}
use Rattle.pairs_write_lines.proofs.pair_lines.Given as goal

abbrev pub invariant-loop-t : goal.invariant-loop-t
invariant-loop-t l = record { few : l.at ≤ 672 * l.t; is : Lined l.initial.buf l.buf (code_lines l.pairs l.n l.t) l.at }
