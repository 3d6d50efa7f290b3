-- The loop has written the texts of the first i tables, and one more goes into the rest of the buffer (`fill-rest`, `text-next`).
use Rattle.tiny_output.proofs.Laws.{text_to}
use Rattle.text_write.specs.Fill.{Filled}
use Prim.Native.Nat.{◌*◌, ◌≤◌}
use Rattle.tiny_output.proofs.write_all.Given as goal

abbrev pub invariant-loop-i : goal.invariant-loop-i
invariant-loop-i l = record { few : l.at ≤ 200 * l.i; is : Filled l.initial.buf l.buf (text_to l.i) l.at }
