-- The slots of two methods: what both have, and what both permit.
use mathlib.Core.Path.{◌≡◌, refl}
use mathlib.Core.Bool.{Bool, true, So}
use mathlib.Core.List.{List, [], ◌∷◌}
use Prim.Native.Nat.{ℕ, zero, suc, ◌≤◌, ◌<◌, min}
use native.Mathlib.Omega.{arith}
use native.Mathlib.Nat.{not-suc-le-zero, le_of_suc-le-suc}
use lib.ListN.{length, get_or, take}
use Rattle.spec_model.specs.Basics.{◌⇒◌}
use Rattle.spec_model.specs.Table.{State, Kind, sub, sup, closed, permit}
use Rattle.spec_model.specs.Restriction.{restricted}
use Rattle.spec_model.specs.Check.{RawMethod, state_of}
use Rattle.spec_model.proofs.Rules.{applied}
use Rattle.spec_model.proofs.States.{each₂}
use Rattle.derive_slots.specs.declared.Slot.TheVariants.{Empty, Argument}
use Rattle.derive_slots.specs.Slots.{argument_slot}

-- a method stays permitted only where both sides permit it
left-permits : (d : Kind) (a b : State) → So (permit (restricted d a b)) → So (permit a)
left-permits sub a b h = applied (each₂ (λ a b. permit (restricted sub a b) ⇒ permit a) refl a b) h
left-permits sup a b h = applied (each₂ (λ a b. permit (restricted sup a b) ⇒ permit a) refl a b) h
left-permits closed a b h = applied (each₂ (λ a b. permit (restricted closed a b) ⇒ permit a) refl a b) h

right-permits : (d : Kind) (a b : State) → So (permit (restricted d a b)) → So (permit b)
right-permits sub a b h = applied (each₂ (λ a b. permit (restricted sub a b) ⇒ permit b) refl a b) h
right-permits sup a b h = applied (each₂ (λ a b. permit (restricted sup a b) ⇒ permit b) refl a b) h
right-permits closed a b h = applied (each₂ (λ a b. permit (restricted closed a b) ⇒ permit b) refl a b) h

-- Slots.
pub empty_past : (i c e : ℕ) (ps qs : List ℕ) → min c e ≤ i → Empty ≡ argument_slot i (take c ps) (take e qs)
empty_past i zero e ps qs h = refl
empty_past i (suc c) e [] qs h = refl
empty_past i (suc c) zero (p ∷ ps) qs h = refl
empty_past i (suc c) (suc e) (p ∷ ps) [] h = refl
empty_past zero (suc c) (suc e) (p ∷ ps) (q ∷ qs) h = absurd (omega arith)
empty_past (suc i) (suc c) (suc e) (p ∷ ps) (q ∷ qs) h = empty_past i c e ps qs (omega arith)

pub both-there : (i c e : ℕ) (ps qs : List ℕ) → i < c → i < e → i < length ps → i < length qs → Argument (get_or qs i 0) (get_or ps i 0) ≡ argument_slot i (take c ps) (take e qs)
both-there i zero e ps qs h k m n = absurd (not-suc-le-zero h)
both-there i (suc c) zero ps qs h k m n = absurd (not-suc-le-zero k)
both-there i (suc c) (suc e) [] qs h k m n = absurd (not-suc-le-zero m)
both-there i (suc c) (suc e) (p ∷ ps) [] h k m n = absurd (not-suc-le-zero n)
both-there zero (suc c) (suc e) (p ∷ ps) (q ∷ qs) h k m n = refl
both-there (suc i) (suc c) (suc e) (p ∷ ps) (q ∷ qs) h k m n = both-there i c e ps qs (le_of_suc-le-suc h) (le_of_suc-le-suc k) (le_of_suc-le-suc m) (le_of_suc-le-suc n)

-- Two methods as they are stored.
module _ (d : Kind) (p q : RawMethod) where
  abbrev pub stays : Bool
  stays = permit (restricted d (state_of p.state) (state_of q.state))

  module _ (e : stays ≡ true) where
    pub left-on : permit (state_of p.state) ≡ true
    left-on = left-permits d (state_of p.state) (state_of q.state) e

    pub right-on : permit (state_of q.state) ≡ true
    right-on = right-permits d (state_of p.state) (state_of q.state) e
