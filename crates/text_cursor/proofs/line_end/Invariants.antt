-- No LF so far, and where there are four bytes; rests on `clear_none` and `clear-more`.
use Prim.Native.Nat.{◌≤◌, ◌-◌}
use lib.ListN.{length}
use Rattle.text_cursor.specs.View.{Clear}
use Rattle.text_cursor.proofs.line_end.Given as goal

abbrev pub invariant-loop-e : goal.invariant-loop-e
invariant-loop-e l = Clear l.s l.at l.e × (l.last ≤ length l.s - 3)

abbrev pub decreases-loop-e : goal.decreases-loop-e
decreases-loop-e l = l.last - l.e
