-- The pass at indices i and j (V8): what is passed over, what is paired, and when it is over.
use mathlib.Core.Path.{◌≡◌, refl, ◌∙◌}
use mathlib.Core.List.{List, [], ◌∷◌}
use mathlib.Core.Bool.{Bool, true, false, cond}
use Prim.Native.Nat.{ℕ, suc, ◌+◌, ◌≤◌, ◌<◌}
use native.Mathlib.Omega.{arith}
use native.Mathlib.Numerals.{add-one}
use lib.Dec.{ltb}
use lib.ListN.{length, get_or, drop, drop_of_length-le}
use lib.Seq.{drop-cons}
use borrow.Author.Tests.{lt-ltb, le-ltb}
use Rattle.spec_doors.specs.Held.{pairs_from, pairs_of}

no-arrival : (within : ℕ) (marks : List ℕ) → pairs_of within marks [] ≡ 0
unfolding pairs_of
no-arrival within [] = refl
no-arrival within (m ∷ marks) = refl

-- no more pairs than marks, or than arrivals
few-from : (within m : ℕ) (rest : List ℕ → ℕ) (n : ℕ) → ((xs : List ℕ) → (rest xs ≤ n) × (rest xs ≤ length xs))
    → (xs : List ℕ) → (pairs_from within m rest xs ≤ suc n) × (pairs_from within m rest xs ≤ length xs)
few-from within m rest n h [] = (omega arith, omega arith)
few-from within m rest n h (a ∷ xs) = go (ltb (m + within) a) (ltb (a + within) m) (few-from within m rest n h xs)
  where
    go : (b c : Bool) → (pairs_from within m rest xs ≤ suc n) × (pairs_from within m rest xs ≤ length xs)
        → (cond b (rest (a ∷ xs)) (cond c (pairs_from within m rest xs) (suc (rest xs))) ≤ suc n)
        × (cond b (rest (a ∷ xs)) (cond c (pairs_from within m rest xs) (suc (rest xs))) ≤ suc (length xs))
    go true c f = (omega (arith, (h (a ∷ xs)).0), (h (a ∷ xs)).1)
    go false true f = (f.0, omega (arith, f.1))
    go false false f = (omega (arith, (h xs).0), omega (arith, (h xs).1))

pub few-pairs : (within : ℕ) (marks arrivals : List ℕ) → (pairs_of within marks arrivals ≤ length marks) × (pairs_of within marks arrivals ≤ length arrivals)
unfolding pairs_of
few-pairs within [] arrivals = (omega arith, omega arith)
few-pairs within (m ∷ marks) arrivals = few-from within m (pairs_of within marks) (length marks) (few-pairs within marks) arrivals

module _ (within : ℕ) (marks arrivals : List ℕ) where
  -- the pairs of what is left
  abbrev pub left : ℕ → ℕ → ℕ
  left k l = pairs_of within (drop k marks) (drop l arrivals)

  module _ (i j : ℕ) where
    pub no-marks : length marks ≤ i → left i j ≡ 0
    unfolding pairs_of
    no-marks h = rw (drop_of_length-le marks {i = i} h)

    pub no-arrivals : length arrivals ≤ j → left i j ≡ 0
    no-arrivals h = rw (drop_of_length-le arrivals {i = j} h) (no-arrival within (drop i marks))

    module _ (hi : i < length marks) (hj : j < length arrivals) where
      both-there : left i j ≡ cond (ltb (get_or marks i 0 + within) (get_or arrivals j 0)) (left (i + 1) j)
          (cond (ltb (get_or arrivals j 0 + within) (get_or marks i 0)) (left i (j + 1)) (suc (left (i + 1) (j + 1))))
      unfolding pairs_of
      both-there = rw (drop-cons marks i 0 hi, drop-cons arrivals j 0 hj, add-one i, add-one j)

      pub mark-early : get_or marks i 0 + within < get_or arrivals j 0 → left i j ≡ left (i + 1) j
      mark-early h = both-there ∙ rw (lt-ltb (get_or marks i 0 + within) (get_or arrivals j 0) h)

      module _ (late : get_or arrivals j 0 ≤ get_or marks i 0 + within) where
        pub arrival-early : get_or arrivals j 0 + within < get_or marks i 0 → left i j ≡ left i (j + 1)
        arrival-early h = both-there ∙ rw (le-ltb (get_or marks i 0 + within) (get_or arrivals j 0) late, lt-ltb (get_or arrivals j 0 + within) (get_or marks i 0) h)

        pub paired : get_or marks i 0 ≤ get_or arrivals j 0 + within → left i j ≡ suc (left (i + 1) (j + 1))
        paired h = both-there ∙ rw (le-ltb (get_or marks i 0 + within) (get_or arrivals j 0) late, le-ltb (get_or arrivals j 0 + within) (get_or marks i 0) h)
