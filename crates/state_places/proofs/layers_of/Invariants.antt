-- The invariant is the walk so far (proofs/Walk). The measure is the place's number.
use Rattle.state_places.proofs.Walk.{Walk}
use Rattle.state_places.proofs.layers_of.Given as goal

abbrev pub invariant-loop-at : goal.invariant-loop-at
invariant-loop-at l = Walk l.ps l.p l.list l.count l.at

abbrev pub decreases-loop-at : goal.decreases-loop-at
decreases-loop-at l = l.at
