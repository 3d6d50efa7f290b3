-- Going behind adapters: it ends at the base, and one step of it is one step of the model's (Q2, C9).
use mathlib.Core.Path.{◌≡◌, refl, ap, sym}
use mathlib.Core.Bool.{true, false}
use mathlib.Core.List.{List, [], ◌∷◌}
use Prim.Native.Nat.{ℕ, zero, suc, ◌<◌}
use native.Mathlib.Nat.{not-suc-le-zero}
use native.Mathlib.Omega.{arith}
use lib.ListN.{length}
use Rattle.spec_model.specs.Crossing.{Place as Placeᵐ, object, adapter, place_at, place_type, base, base_of}
use Rattle.spec_model.specs.Requests.{layers, layers_of}
use Rattle.spec_model.proofs.Rules.{never}
use Rattle.state_record.specs.View.{is_object, behind_of}

module _ (ps : List Placeᵐ) (descends : (p : ℕ) → p < length ps → is_object (place_at ps p) ≡ false → behind_of (place_at ps p) < p) where
  -- more steps than the place's number change nothing
  base-enough : (f g p : ℕ) → p < length ps → p < f → p < g → base f ps p ≡ base g ps p
  unfolding base
  base-enough zero g p h a b = absurd (not-suc-le-zero a)
  base-enough (suc f) zero p h a b = absurd (not-suc-le-zero b)
  base-enough (suc f) (suc g) p h a b = go (place_at ps p) (descends p h) (λ q k c d. base-enough f g q k c d)
    where
      go : (x : Placeᵐ) → (is_object x ≡ false → behind_of x < p) → ((q : ℕ) → q < length ps → q < f → q < g → base f ps q ≡ base g ps q)
          → ◌≡◌ {A = ℕ} (elim x [ object c o ↦ p | adapter b c ↦ base f ps b ]) (elim x [ object c o ↦ p | adapter b c ↦ base g ps b ])
      go (object c o) l again = refl
      go (adapter q c) l again = let r : q < p = l refl in again q (omega arith) (omega arith) (omega arith)

  pub base-here : (p : ℕ) → p < length ps → is_object (place_at ps p) ≡ true → base_of ps p ≡ p
  unfolding base
  base-here p h e = go (length ps) h
    where
      at : (f : ℕ) (x : Placeᵐ) → is_object x ≡ true → ◌≡◌ {A = ℕ} (elim x [ object c o ↦ p | adapter b c ↦ base f ps b ]) (p)
      at f (object c o) e = refl
      at f (adapter b c) e = never e

      go : (f : ℕ) → p < f → base f ps p ≡ p
      go zero l = absurd (not-suc-le-zero l)
      go (suc f) l = at f (place_at ps p) e

  pub base-behind : (p : ℕ) → p < length ps → is_object (place_at ps p) ≡ false → base_of ps p ≡ base_of ps (behind_of (place_at ps p))
  unfolding base
  base-behind p h e = go (length ps) h
    where
      at : (f : ℕ) (x : Placeᵐ) → p < suc f → is_object x ≡ false → behind_of x < p → ◌≡◌ {A = ℕ} (elim x [ object c o ↦ p | adapter b c ↦ base f ps b ]) (base_of ps (behind_of x))
      at f (object c o) l e d = never (sym e)
      at f (adapter b c) l e d = base-enough f (length ps) b (omega arith) (omega arith) (omega arith)

      go : (f : ℕ) → p < f → base f ps p ≡ base_of ps (behind_of (place_at ps p))
      go zero l = absurd (not-suc-le-zero l)
      go (suc f) l = at f (place_at ps p) l e (descends p h e)

  layers-enough : (f g p : ℕ) → p < length ps → p < f → p < g → layers f ps p ≡ layers g ps p
  unfolding layers
  layers-enough zero g p h a b = absurd (not-suc-le-zero a)
  layers-enough (suc f) zero p h a b = absurd (not-suc-le-zero b)
  layers-enough (suc f) (suc g) p h a b = go (place_at ps p) (descends p h) (λ q k c d. layers-enough f g q k c d)
    where
      go : (x : Placeᵐ) → (is_object x ≡ false → behind_of x < p) → ((q : ℕ) → q < length ps → q < f → q < g → layers f ps q ≡ layers g ps q)
          → ◌≡◌ {A = List ℕ} (elim x [ object c o ↦ c ∷ [] | adapter b c ↦ c ∷ layers f ps b ]) (elim x [ object c o ↦ c ∷ [] | adapter b c ↦ c ∷ layers g ps b ])
      go (object c o) l again = refl
      go (adapter q c) l again = let r : q < p = l refl in ap (λ (xs : List ℕ). c ∷ xs) (again q (omega arith) (omega arith) (omega arith))

  pub layers-here : (p : ℕ) → p < length ps → is_object (place_at ps p) ≡ true → layers_of ps p ≡ place_type (place_at ps p) ∷ []
  unfolding layers
  layers-here p h e = go (length ps) h
    where
      at : (f : ℕ) (x : Placeᵐ) → is_object x ≡ true → ◌≡◌ {A = List ℕ} (elim x [ object c o ↦ c ∷ [] | adapter b c ↦ c ∷ layers f ps b ]) (place_type x ∷ [])
      at f (object c o) e = refl
      at f (adapter b c) e = never e

      go : (f : ℕ) → p < f → layers f ps p ≡ place_type (place_at ps p) ∷ []
      go zero l = absurd (not-suc-le-zero l)
      go (suc f) l = at f (place_at ps p) e

  pub layers-behind : (p : ℕ) → p < length ps → is_object (place_at ps p) ≡ false → layers_of ps p ≡ place_type (place_at ps p) ∷ layers_of ps (behind_of (place_at ps p))
  unfolding layers
  layers-behind p h e = go (length ps) h
    where
      at : (f : ℕ) (x : Placeᵐ) → p < suc f → is_object x ≡ false → behind_of x < p
          → ◌≡◌ {A = List ℕ} (elim x [ object c o ↦ c ∷ [] | adapter b c ↦ c ∷ layers f ps b ]) (place_type x ∷ layers_of ps (behind_of x))
      at f (object c o) l e d = never (sym e)
      at f (adapter b c) l e d = ap (λ (xs : List ℕ). c ∷ xs) (layers-enough f (length ps) b (omega arith) (omega arith) (omega arith))

      go : (f : ℕ) → p < f → layers f ps p ≡ place_type (place_at ps p) ∷ layers_of ps (behind_of (place_at ps p))
      go zero l = absurd (not-suc-le-zero l)
      go (suc f) l = at f (place_at ps p) l e (descends p h e)
