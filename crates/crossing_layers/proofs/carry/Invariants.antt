-- The invariant is the rest: all targets are met as those from i on, by the reference as it has become.
use Rattle.crossing_layers.proofs.Carrying.{Goes}
use Rattle.crossing_layers.proofs.carry.Given as goal

abbrev pub invariant-loop-i : goal.invariant-loop-i
invariant-loop-i l = Goes l.initial.types l.links l.c l.initial.x.places l.s l.p l.r l.targets.list l.targets.count l.types l.x l.i
