-- The invariant: the base looked for is that of the place reached. The measure is the place's number: what is behind lies below.
use mathlib.Core.Path.{◌≡◌}
use Prim.Native.Nat.{◌<◌}
use Rattle.spec_model.specs.Crossing.{base_of}
use Rattle.state_record.specs.View.{places_in}
use Rattle.state_places.proofs.base_of.Given as goal

abbrev pub invariant-loop-base : goal.invariant-loop-base
invariant-loop-base l = (l.base < l.ps.count) × (base_of (places_in l.ps) l.p ≡ base_of (places_in l.ps) l.base)

abbrev pub decreases-loop-base : goal.decreases-loop-base
decreases-loop-base l = l.base
