-- The invariant: the calls so far are counted by subject (`Tallied`), nobody's more than 32.
use Rattle.state_record.proofs.Kept.{called}
use Rattle.state_check.proofs.Tally.{Tallied}
use Rattle.state_check.proofs.callers_fit.Given as goal

abbrev pub invariant-loop-j : goal.invariant-loop-j
invariant-loop-j g l = Tallied (called (g.H.Held.calls l.h)) l.j l.made
