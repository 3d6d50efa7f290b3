-- Behind an adapter lies a lower place, and its base is the same; an object is its own base.
use Rattle.std.proofs.Common.{◌≡◌, ◌<◌, ap, sym, refl, subst, ◌∙◌, arith, ℕ}
use Rattle.spec_model.specs.Crossing.{place_at, base_of}
use Rattle.state_record.specs.View.{places_in, place_of}
use Rattle.state_record.specs.declared.Place.TheVariants.{Adapter}
use Rattle.state_places.proofs.Laws.{read, goes-below, base-ends, base_goes, based}
use Rattle.state_places.proofs.base_of.Goals as goal
use Rattle.state_places.proofs.base_of.Goals.{After-from-base}

-- the adapter that was read is the model's at the place reached
counted : (c : After-from-base) → place_of (Adapter c.in-Adapter.behind c.in-Adapter.closed) ≡ place_at (places_in c.args.ps) c.loop-base.base
counted c = read c.args.ps c.loop-base.base _ c.loop-base.invariant.0 c.in-Adapter.is

below : (c : After-from-base) → c.from-base.result < c.loop-base.base
below c = let P : ℕ → Type 0 = λ n. n < c.loop-base.base in
    subst P (sym c.from-base.ensures) (goes-below c.args.ps c.requires.0 c.loop-base.base c.loop-base.invariant.0 _ (counted c) refl)

pub loop-base-smaller : goal.loop-base-smaller
loop-base-smaller c = below c

pub loop-base-preserved : goal.loop-base-preserved
loop-base-preserved c = let l = c.loop-base in let b = below c in (
  omega arith,
  l.invariant.1 ∙ base_goes c.args.ps c.requires.0 l.base l.invariant.0 _ (counted c) refl ∙ ap (base_of (places_in c.args.ps)) (sym c.from-base.ensures),
)

pub returns : goal.returns
returns c = let l = c.loop-base in
    based c.args.ps _ _ l.invariant.1 (base-ends c.args.ps c.requires.0 l.base l.invariant.0 _ (read c.args.ps l.base _ l.invariant.0 c.in_default.is) refl)
