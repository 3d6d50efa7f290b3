-- Laws over plain lists: `from`, the values of a rule in order, and `sets`, several stores in a row.
use mathlib.Core.Path.{◌≡◌, refl, sym, ap, ◌∙◌, subst}
use mathlib.Core.Logic.{⊎_elim, ◌⊎◌, inl, inr}
use mathlib.Core.Bool.{Bool, true, false}
use mathlib.Core.List.{List, [], ◌∷◌, ◌++◌}
use Prim.Native.Nat.{ℕ, zero, suc, ◌+◌, ◌≤◌, ◌<◌}
use native.Mathlib.Nat.{le_of_suc-le-suc, not-suc-le-zero, eq-or-lt_of_le}
use native.Mathlib.Numerals.{add-one}
use native.Mathlib.Omega.{arith}
use lib.Dec.{ltb}
use borrow.Author.Tests.{ltb-true, ltb-false}
use lib.ListN.{length, get_or, set, length-set}
use lib.Seq.{sets, get_or-set_same, get_or-set_other}
use Rattle.spec_model.specs.Basics.{from}
pub use Rattle.spec_model.proofs.Lists.{length_from, from_first, from-same, is-from}

-- Numbers are below or not, the same or not.
pub lt-or-ge : (a b : ℕ) → (a < b) ⊎ (b ≤ a)
lt-or-ge a b = go (ltb a b) refl
  where
    go : (t : Bool) → ltb a b ≡ t → (a < b) ⊎ (b ≤ a)
    go true e = inl (ltb-true a b e)
    go false e = inr (ltb-false a b e)

pub same_or : (k i : ℕ) → (k ≡ i) ⊎ (k ≡ i → ⊥)
same_or k i =
    ⊎_elim (λ (lt : k < i). inr (λ e. omega arith)) (λ (ge : i ≤ k). ⊎_elim (λ (lt : i < k). inr (λ e. omega arith)) (λ (le : k ≤ i). inl (omega arith)) (lt-or-ge i k)) (lt-or-ge k i)

-- The first c values of a rule (the model's laws), and one more of them.
module _ {A : Type 0} (f : ℕ → A) where
  pub from_last : (c i : ℕ) → from (suc c) i f ≡ from c i f ++ (f (i + c) ∷ [])
  unfolding from
  from_last zero i = let e : i ≡ i + 0 = omega arith in ap (λ (k : ℕ). f k ∷ []) e
  from_last (suc c) i = let e : suc i + c ≡ i + suc c = omega arith in ap (λ l. f i ∷ l) (from_last c (suc i) ∙ ap (λ (k : ℕ). from c (suc i) f ++ (f k ∷ [])) e)

-- Several stores in a row.
module _ {A : Type 0} where
  pub sets-append : (l : List A) (i : ℕ) (xs ys : List A) → sets l i (xs ++ ys) ≡ sets (sets l i xs) (i + length xs) ys
  sets-append l i [] ys = let e : i + 0 ≡ i = omega arith in ap (λ (k : ℕ). sets l k ys) (sym e)
  sets-append l i (x ∷ xs) ys =
      let e : suc i + length xs ≡ i + suc (length xs) = omega arith in
      sets-append (set l i x) (suc i) xs ys ∙ ap (λ (k : ℕ). sets (sets (set l i x) (suc i) xs) k ys) e

  pub get_or-sets-below : (l : List A) (i : ℕ) (vs : List A) (j : ℕ) (d : A) → j < i → get_or (sets l i vs) j d ≡ get_or l j d
  get_or-sets-below l i [] j d h = refl
  get_or-sets-below l i (v ∷ vs) j d h = get_or-sets-below (set l i v) (suc i) vs j d (omega arith) ∙ get_or-set_other l i j v d (λ e. omega arith)

  pub get_or-sets-above : (l : List A) (i : ℕ) (vs : List A) (j : ℕ) (d : A) → i + length vs ≤ j → get_or (sets l i vs) j d ≡ get_or l j d
  get_or-sets-above l i [] j d h = refl
  get_or-sets-above l i (v ∷ vs) j d h = get_or-sets-above (set l i v) (suc i) vs j d (omega arith) ∙ get_or-set_other l i j v d (λ e. omega arith)

  pub get_or-sets-in : (l : List A) (i : ℕ) (vs : List A) (k : ℕ) (d : A) → k < length vs → i + length vs ≤ length l → get_or (sets l i vs) (i + k) d ≡ get_or vs k d
  get_or-sets-in l i [] k d h f = absurd (not-suc-le-zero h)
  get_or-sets-in l i (v ∷ vs) zero d h f =
      let e : i + 0 ≡ i = omega arith in
      ap (λ (m : ℕ). get_or (sets (set l i v) (suc i) vs) m d) e ∙ get_or-sets-below (set l i v) (suc i) vs i d (omega arith) ∙ get_or-set_same l i v d (omega arith)
  get_or-sets-in l i (v ∷ vs) (suc k) d h f =
      let e : i + suc k ≡ suc i + k = omega arith in
      let g : suc i + length vs ≤ length (set l i v) = rw length-set (omega arith) in
      ap (λ (m : ℕ). get_or (sets (set l i v) (suc i) vs) m d) e ∙ get_or-sets-in (set l i v) (suc i) vs k d (le_of_suc-le-suc h) g

-- Three, six and seven stores, as the code has them.
pub three : (b : List ℕ) (at x₀ x₁ x₂ : ℕ) → set (set (set b at x₀) (at + 1) x₁) (at + 2) x₂ ≡ sets b at (x₀ ∷ x₁ ∷ x₂ ∷ [])
three b at x₀ x₁ x₂ =
    let e₁ : at + 1 ≡ suc at = omega arith in
    let e₂ : at + 2 ≡ suc (suc at) = omega arith in
    rw (e₁, e₂)

pub six : (b : List ℕ) (at x₀ x₁ x₂ x₃ x₄ x₅ : ℕ)
    → set (set (set (set (set (set b at x₀) (at + 1) x₁) (at + 2) x₂) (at + 3) x₃) (at + 4) x₄) (at + 5) x₅ ≡ sets b at (x₀ ∷ x₁ ∷ x₂ ∷ x₃ ∷ x₄ ∷ x₅ ∷ [])
six b at x₀ x₁ x₂ x₃ x₄ x₅ =
    let e₁ : at + 1 ≡ suc at = omega arith in
    let e₂ : at + 2 ≡ suc (suc at) = omega arith in
    let e₃ : at + 3 ≡ suc (suc (suc at)) = omega arith in
    let e₄ : at + 4 ≡ suc (suc (suc (suc at))) = omega arith in
    let e₅ : at + 5 ≡ suc (suc (suc (suc (suc at)))) = omega arith in
    rw (e₁, e₂, e₃, e₄, e₅)

pub seven : (b : List ℕ) (at x₀ x₁ x₂ x₃ x₄ x₅ x₆ : ℕ) → set (set (set (set (set (set (set b at x₀) (at + 1) x₁) (at + 2) x₂) (at + 3) x₃) (at + 4) x₄) (at + 5) x₅)
    (at + 6) x₆ ≡ sets b at (x₀ ∷ x₁ ∷ x₂ ∷ x₃ ∷ x₄ ∷ x₅ ∷ x₆ ∷ [])
seven b at x₀ x₁ x₂ x₃ x₄ x₅ x₆ =
    let e : at + 6 ≡ suc (suc (suc (suc (suc (suc at))))) = omega arith in
    ap (λ (l : List ℕ). set l (at + 6) x₆) (six b at x₀ x₁ x₂ x₃ x₄ x₅) ∙ ap (λ (k : ℕ). set (sets b at (x₀ ∷ x₁ ∷ x₂ ∷ x₃ ∷ x₄ ∷ x₅ ∷ [])) k x₆) e

-- A list that a loop fills from the front: what holds of each element so far, with its number, holds after one store more.
pub set_next : {A : Type 0} (P : ℕ → A → Type 0) (l : List A) (j : ℕ) (v d : A) → j < length l → ((k : ℕ) → k < j → P k (get_or l k d)) → P j v → (k : ℕ) → k < j + 1
    → P k (get_or (set l j v) k d)
set_next P l j v d h so e k p =
    ⊎_elim
    (λ (q : k ≡ j). let w : P j (get_or (set l j v) j d) = rw (get_or-set_same l j v d h) e in subst (λ (n : ℕ). P n (get_or (set l j v) n d)) (sym q) w)
    (λ (q : k < j). rw (get_or-set_other l j k v d (λ r. omega arith)) (so k q))
    (eq-or-lt_of_le (le_of_suc-le-suc (subst (λ (m : ℕ). k < m) (add-one j) p)))
