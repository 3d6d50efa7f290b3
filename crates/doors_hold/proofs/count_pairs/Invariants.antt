-- The invariant: the pairs of the whole lists are those made so far and those of what is left. Each turn passes a mark, an arrival or both.
use Rattle.std.proofs.Common.{◌≡◌, ◌≤◌, ◌-◌, ◌+◌, length}
use Rattle.spec_doors.specs.Held.{pairs_of}
use Rattle.spec_doors.proofs.Pass.{left}
use Rattle.doors_hold.proofs.count_pairs.Given as goal

abbrev pub invariant-loop-i : goal.invariant-loop-i
invariant-loop-i l = record {
  few : l.n ≤ l.i;
  pairs : pairs_of l.within l.marks l.arrivals ≡ l.n + left l.within l.marks l.arrivals l.i l.j;
}

abbrev pub decreases-loop-i : goal.decreases-loop-i
decreases-loop-i l = (length l.marks - l.i) + (length l.arrivals - l.j)
