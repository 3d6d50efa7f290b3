-- The loop has read times with single spaces between; what is left of the line still has to give the rest (`Begun`). Each turn takes a byte at least.
use Prim.Native.Nat.{◌-◌}
use lib.ListN.{length}
use Rattle.doors_read.proofs.Laws.{Begun}
use Rattle.doors_read.proofs.read_times.Given as goal

abbrev pub invariant-loop-x : goal.invariant-loop-x
invariant-loop-x l = Begun l.l l.items l.at l.n

abbrev pub decreases-loop-x : goal.decreases-loop-x
decreases-loop-x l = length l.l - l.at
