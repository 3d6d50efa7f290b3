-- Laws over plain lists: `from`, the values of a rule in order; tests over it; and one list as the first part of another.
use mathlib.Core.Path.{◌≡◌, refl, ap, sym, subst, ◌∙◌}
use mathlib.Core.Bool.{Bool, So}
use mathlib.Core.List.{List, [], ◌∷◌, ◌++◌, map}
use Prim.Native.Nat.{ℕ, zero, suc, ◌+◌, ◌≤◌, ◌<◌}
use native.Mathlib.Nat.{not-suc-le-zero, le_of_suc-le-suc, zero-add}
use native.Mathlib.Omega.{arith}
use lib.ListN.{length, get_or, take, length-append, get_or-append}
use lib.Seq.{ext_get_or}
use Rattle.spec_model.specs.Basics.{all, every, from}
use Rattle.spec_model.specs.Check.{first_of}
use Rattle.spec_model.proofs.Rules.{both}
use Rattle.spec_model.proofs.Largest.{get_or-from}

module _ {A : Type 0} (f : ℕ → A) where
  pub length_from : (c i : ℕ) → length (from c i f) ≡ c
  unfolding from
  length_from zero i = refl
  length_from (suc c) i = ap suc (length_from c (suc i))

  pub from_first : (c j : ℕ) (d : A) → j < c → get_or (from c 0 f) j d ≡ f j
  from_first c j d h = get_or-from f d c 0 j h ∙ ap f (zero-add j)

  -- a list is known by its elements
  pub is-from : (n : ℕ) (d : A) (l : List A) → length l ≡ n → ((i : ℕ) → i < n → get_or l i d ≡ f i) → from n 0 f ≡ l
  is-from n d l e h = sym (ext_get_or d l (from n 0 f) (e ∙ sym (length_from n 0)) (λ i p. let q : i < n = subst (λ (k : ℕ). i < k) e p in h i q ∙ sym (from_first n i d q)))

  pub take-from : (k n i : ℕ) → k ≤ n → take k (from n i f) ≡ from k i f
  unfolding from
  take-from zero n i l = refl
  take-from (suc k) zero i l = absurd (not-suc-le-zero l)
  take-from (suc k) (suc n) i l = ap (λ (r : List A). f i ∷ r) (take-from k n (suc i) (le_of_suc-le-suc l))

  pub all_from : (p : A → Bool) (c i : ℕ) → ((j : ℕ) → i ≤ j → j < i + c → So (p (f j))) → So (all p (from c i f))
  unfolding from
  all_from p zero i h = refl
  all_from p (suc c) i h = both (h i (omega arith) (omega arith)) (all_from p c (suc i) (λ j a b. h j (omega arith) (omega arith)))

  pub every-from : (p : ℕ → A → Bool) (c i : ℕ) → ((j : ℕ) → i ≤ j → j < i + c → So (p j (f j))) → So (every p i (from c i f))
  unfolding from
  every-from p zero i h = refl
  every-from p (suc c) i h = both (h i (omega arith) (omega arith)) (every-from p c (suc i) (λ j a b. h j (omega arith) (omega arith)))

pub from-shift : {A : Type 0} (f : ℕ → A) (c i : ℕ) → from c (suc i) f ≡ from c i (λ k. f (suc k))
unfolding from
from-shift f zero i = refl
from-shift f (suc c) i = rw (from-shift f c (suc i))

pub map-from : {A B : Type 0} (h : A → B) (f : ℕ → A) (c i : ℕ) → map h (from c i f) ≡ from c i (λ k. h (f k))
unfolding from
map-from h f zero i = refl
map-from h f (suc c) i = ap (λ xs. h (f i) ∷ xs) (map-from h f c (suc i))

-- within its length a mapped list has the values, whatever is read past the end
pub get_or-map-in : {A B : Type 0} (f : A → B) (l : List A) (n : ℕ) (d : A) (e : B) → n < length l → get_or (map f l) n e ≡ f (get_or l n d)
get_or-map-in f [] n d e h = absurd (not-suc-le-zero h)
get_or-map-in f (x ∷ xs) zero d e h = refl
get_or-map-in f (x ∷ xs) (suc n) d e h = get_or-map-in f xs n d e (le_of_suc-le-suc h)

pub from-same : {A : Type 0} (f g : ℕ → A) (c i : ℕ) → ((j : ℕ) → i ≤ j → j < i + c → f j ≡ g j) → from c i f ≡ from c i g
unfolding from
from-same f g zero i h = refl
from-same f g (suc c) i h = rw (h i (omega arith) (omega arith), from-same f g c (suc i) (λ j p q. h j (omega arith) (omega arith)))

pub all_same : {A : Type 0} (f g : A → Bool) → ((x : A) → f x ≡ g x) → (xs : List A) → all f xs ≡ all g xs
all_same f g h [] = refl
all_same f g h (x ∷ xs) = rw (h x, all_same f g h xs)

-- the first records of a list that has no more
pub first-all : {A : Type 0} (d : A) (l : List A) (n : ℕ) → length l ≡ n → first_of n d l ≡ l
first-all d l n e = is-from (λ k. get_or l k d) n d l e (λ i p. refl)

-- the list xs is the first part of ys; d is read past the end of either
pub record Prefix {A : Type 0} (d : A) (xs ys : List A) : Type 0 where
  pub more : length xs ≤ length ys
  pub same : (i : ℕ) → i < length xs → get_or ys i d ≡ get_or xs i d

module _ {A : Type 0} (d : A) where
  pub prefix_refl : (xs : List A) → Prefix d xs xs
  prefix_refl xs = record { more = omega arith; same = λ i l. refl }

  pub prefix_trans : {xs ys zs : List A} → Prefix d xs ys → Prefix d ys zs → Prefix d xs zs
  prefix_trans e f = record { more = omega (arith, e.more, f.more); same = λ i l. f.same i (omega (arith, e.more)) ∙ e.same i l }

  pub prefix-add : (xs : List A) (x : A) → Prefix d xs (xs ++ (x ∷ []))
  prefix-add xs x = record { more = omega (arith, length-append xs (x ∷ [])); same = λ i l. get_or-append xs (x ∷ []) d i l }
