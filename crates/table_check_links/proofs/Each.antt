-- Tests over counted numbers: the model's `all` and `every` over `from`, and a loop that goes through the numbers.
use mathlib.Core.Path.{◌≡◌, refl, ap, ◌∙◌}
use mathlib.Core.Bool.{Bool, true, false, ◌&&◌}
use mathlib.Core.List.{List}
use Prim.Native.Nat.{ℕ, zero, suc, ◌+◌, ◌-◌, ◌≤◌, ◌<◌}
use native.Mathlib.Numerals.{add-one}
use native.Mathlib.Omega.{arith}
use lib.ListN.{length, get_or, drop, drop_of_length-le}
use lib.Seq.{drop-cons}
use Rattle.spec_model.specs.Basics.{all, every, from}
use Rattle.table_check_links.specs.Parts.{each_from}

-- Conjunctions in another order.
pub left_comm : (a b c : Bool) → (a && (b && c)) ≡ (b && (a && c))
left_comm true true c = refl
left_comm true false c = refl
left_comm false true c = refl
left_comm false false c = refl

pub interchange : (a b c d : Bool) → ((a && b) && (c && d)) ≡ ((a && c) && (b && d))
interchange false b c d = refl
interchange true b c d = left_comm b c d

-- the second part of a conjunction counts only where the first holds
pub under-and : (a b c : Bool) → (a ≡ true → b ≡ c) → (a && b) ≡ (a && c)
under-and true b c h = h refl
under-and false b c h = refl

-- `all` and `every` over the values of a rule
module _ {A : Type 0} (g : ℕ → A) where
  pub all-each : (p : A → Bool) (c i : ℕ) → all p (from c i g) ≡ each_from c i (λ k. p (g k))
  unfolding from each_from
  all-each p zero i = refl
  all-each p (suc c) i = ap (λ (x : Bool). p (g i) && x) (all-each p c (suc i))

  pub every-each : (p : ℕ → A → Bool) (c i : ℕ) → every p i (from c i g) ≡ each_from c i (λ k. p k (g k))
  unfolding from each_from
  every-each p zero i = refl
  every-each p (suc c) i = ap (λ (x : Bool). p i (g i) && x) (every-each p c (suc i))

pub each_and : (f g : ℕ → Bool) (c i : ℕ) → (each_from c i f && each_from c i g) ≡ each_from c i (λ k. f k && g k)
unfolding each_from
each_and f g zero i = refl
each_and f g (suc c) i = interchange (f i) (each_from c (suc i) f) (g i) (each_from c (suc i) g) ∙ ap (λ (x : Bool). (f i && g i) && x) (each_and f g c (suc i))

pub each_same : (f g : ℕ → Bool) → ((k : ℕ) → f k ≡ g k) → (c i : ℕ) → each_from c i f ≡ each_from c i g
unfolding each_from
each_same f g h zero i = refl
each_same f g h (suc c) i = rw (h i, each_same f g h c (suc i))

-- A loop over the numbers below n, at i: what is left of the test.
module _ (f : ℕ → Bool) (n i : ℕ) where
  pub rest-next : i < n → f i ≡ true → each_from (n - i) i f ≡ each_from (n - (i + 1)) (i + 1) f
  unfolding each_from
  rest-next h e = let s : n - i ≡ suc (n - (i + 1)) = omega arith in rw (s, e, add-one i)

  pub rest-broken : i < n → f i ≡ false → each_from (n - i) i f ≡ false
  unfolding each_from
  rest-broken h e = let s : n - i ≡ suc (n - (i + 1)) = omega arith in rw (s, e)

  pub rest_end : n ≤ i → each_from (n - i) i f ≡ true
  unfolding each_from
  rest_end h = let s : n - i ≡ 0 = omega arith in rw s

-- A loop over a list, at i: what is left of the test.
module _ {A : Type 0} (p : A → Bool) (xs : List A) (i : ℕ) (d : A) where
  pub all-next : i < length xs → p (get_or xs i d) ≡ true → all p (drop i xs) ≡ all p (drop (i + 1) xs)
  all-next h e = rw (drop-cons xs i d h, e, add-one i)

  pub all-broken : i < length xs → p (get_or xs i d) ≡ false → all p (drop i xs) ≡ false
  all-broken h e = rw (drop-cons xs i d h, e)

  pub all-end : length xs ≤ i → all p (drop i xs) ≡ true
  all-end h = rw (drop_of_length-le xs h)
