-- The invariant: the test of the whole list is the test of what is left of it, from the last time on.
use Rattle.std.proofs.Common.{◌≡◌, drop}
use Rattle.spec_doors.specs.Times.{rising}
use Rattle.doors_hold.proofs.times_fit.Given as goal

abbrev pub invariant-loop-x : goal.invariant-loop-x
invariant-loop-x l = rising 0 l.xs ≡ rising l.low (drop l.x-index l.xs)
