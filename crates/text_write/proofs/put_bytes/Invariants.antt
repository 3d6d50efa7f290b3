-- The first i bytes are copied, and the rest of the buffer is as it was.
use lib.ListN.{take, drop}
use mathlib.Core.Path.{◌≡◌}
use mathlib.Core.List.{◌++◌}
use Rattle.text_write.proofs.put_bytes.Given as goal

abbrev pub invariant-loop-i : goal.invariant-loop-i
invariant-loop-i l = l.buf ≡ take l.i l.t ++ drop l.i l.initial.buf
