-- No LF so far, and the place is within the text or the one that the search began at; rests on `clear-more`.
use Prim.Native.Nat.{◌≤◌, max}
use lib.ListN.{length}
use Rattle.text_cursor.specs.View.{Clear}
use Rattle.text_cursor.proofs.end_from.Given as goal

abbrev pub invariant-loop-e : goal.invariant-loop-e
invariant-loop-e l = Clear l.s l.at l.e × (l.e ≤ max (length l.s) l.from)
