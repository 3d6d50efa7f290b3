-- The owner of the place that `base_of` gives.
use mathlib.Core.Path.{ap, ◌∙◌}
use Prim.Native.Nat.{ℕ}
use native.Mathlib.Omega.{arith}
use Rattle.spec_model.specs.Crossing.{place_at, owner_of}
use Rattle.state_record.specs.View.{places_in}
use Rattle.state_places.proofs.base_owner.Goals as goal

pub base_of-base-requires : goal.base_of-base-requires
base_of-base-requires c = c.requires

pub at-requires : goal.at-requires
at-requires c = omega (arith, c.base_of-base.ensures.below, c.requires.0.count)

pub returns : goal.returns
returns c = let b = c.base_of-base.ensures in (
  c.place_owner.ensures.0 ∙ ap owner_of (c.at.ensures.1 b.below) ∙ ap (λ (n : ℕ). owner_of (place_at (places_in c.args.ps) n)) b.is,
  c.place_owner.ensures.1,
)
