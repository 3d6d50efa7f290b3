-- The test of a list of times says what `Times` says (V1, V2).
use mathlib.Core.Path.{◌≡◌, refl}
use mathlib.Core.Bool.{So}
use mathlib.Core.List.{List, [], ◌∷◌}
use Prim.Native.Nat.{ℕ, zero, suc, ◌+◌, ◌≤◌, ◌<◌}
use native.Mathlib.Omega.{arith}
use lib.Dec.{leb}
use lib.ListN.{length}
use borrow.Author.Tests.{leb-true, le-leb}
use Rattle.spec_model.proofs.Rules.{both, first, second}
use Rattle.spec_doors.specs.Times.{max_times, last_time, max_tolerance, rising, times_fit, all_fit}
use Rattle.spec_doors.specs.Paired.{time, Times, Fit}

-- a list of times in order, wherever two of them stand
abbrev pub Ordered : List ℕ → Type 0
Ordered xs = (k l : ℕ) → k ≤ l → l < length xs → time xs k ≤ time xs l

-- ---- From the test
module _ (low x : ℕ) (xs : List ℕ) (e : So (rising low (x ∷ xs))) where
  up : low ≤ x
  unfolding rising
  up = leb-true low x (first (leb low x) _ e)

  in-range : x ≤ last_time
  unfolding rising
  in-range = leb-true x last_time (first (leb x last_time) _ (second (leb low x) _ e))

  behind : So (rising x xs)
  unfolding rising
  behind = second (leb x last_time) _ (second (leb low x) _ e)

above : (low : ℕ) (xs : List ℕ) → So (rising low xs) → (l : ℕ) → l < length xs → low ≤ time xs l
above low [] e l h = absurd (omega arith)
above low (x ∷ xs) e zero h = up low x xs e
above low (x ∷ xs) e (suc l) h = let a : low ≤ x = up low x xs e in let b : x ≤ time xs l = above x xs (behind low x xs e) l (omega arith) in omega arith

pub ordered : (low : ℕ) (xs : List ℕ) → So (rising low xs) → Ordered xs
ordered low [] e k l h b = absurd (omega arith)
ordered low (x ∷ xs) e zero zero h b = omega arith
ordered low (x ∷ xs) e zero (suc l) h b = above x xs (behind low x xs e) l (omega arith)
ordered low (x ∷ xs) e (suc k) zero h b = absurd (omega arith)
ordered low (x ∷ xs) e (suc k) (suc l) h b = ordered x xs (behind low x xs e) k l (omega arith) (omega arith)

pub none-late : (low : ℕ) (xs : List ℕ) → So (rising low xs) → (l : ℕ) → l < length xs → time xs l ≤ last_time
none-late low [] e l h = absurd (omega arith)
none-late low (x ∷ xs) e zero h = in-range low x xs e
none-late low (x ∷ xs) e (suc l) h = none-late x xs (behind low x xs e) l (omega arith)

-- ---- And back
from-times : (low : ℕ) (xs : List ℕ) → ((k : ℕ) → k < length xs → time xs k ≤ last_time) → ((k : ℕ) → k + 1 < length xs → time xs k ≤ time xs (k + 1))
    → (0 < length xs → low ≤ time xs 0) → So (rising low xs)
unfolding rising
from-times low [] late order begin = refl
from-times low (x ∷ xs) late order begin = both (le-leb low x (begin (omega arith))) (both (le-leb x last_time (late 0 (omega arith)))
    (from-times x xs (λ k h. late (suc k) (omega arith)) next (λ h. order 0 (omega arith))))
  where
    next : (k : ℕ) → k + 1 < length xs → time xs k ≤ time xs (k + 1)
    next k h = let e : suc k + 1 ≡ suc (k + 1) = omega arith in rw e at (order (suc k) (omega arith))

pub fit-rising : (xs : List ℕ) → So (times_fit xs) → So (rising 0 xs)
fit-rising xs e = second (leb (length xs) max_times) _ e

fit-times : (xs : List ℕ) → So (times_fit xs) → Times xs
fit-times xs e = record {
  few = leb-true (length xs) max_times (first (leb (length xs) max_times) _ e);
  last = none-late 0 xs (fit-rising xs e);
  rising = λ k h. ordered 0 xs (fit-rising xs e) k (k + 1) (omega arith) h;
}

times-fit : (xs : List ℕ) → Times xs → So (times_fit xs)
times-fit xs t = both (le-leb (length xs) max_times t.few) (from-times 0 xs t.last t.rising (λ _. omega arith))

module _ (marks arrivals : List ℕ) (within : ℕ) where
  pub marks-fit : So (all_fit marks arrivals within) → So (times_fit marks)
  marks-fit e = first (times_fit marks) _ (second (leb within max_tolerance) _ e)

  pub arrivals-fit : So (all_fit marks arrivals within) → So (times_fit arrivals)
  arrivals-fit e = second (times_fit marks) _ (second (leb within max_tolerance) _ e)

  pub all-fit : So (all_fit marks arrivals within) → Fit marks arrivals within
  all-fit e = record {
    mark-times = fit-times marks (marks-fit e);
    arrival-times = fit-times arrivals (arrivals-fit e);
    tolerance = leb-true within max_tolerance (first (leb within max_tolerance) _ e);
  }

  pub fit_all : Fit marks arrivals within → So (all_fit marks arrivals within)
  fit_all f = both (le-leb within max_tolerance f.tolerance) (both (times-fit marks f.mark-times) (times-fit arrivals f.arrival-times))
