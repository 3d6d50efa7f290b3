-- The passes, by what is left of the lists, and the tests of a whole call. The proofs of the functions cite them.
use mathlib.Core.Path.{◌≡◌, ap, ◌∙◌}
use mathlib.Core.Bool.{Bool, true, false}
use mathlib.Core.List.{List}
use Prim.Native.Nat.{ℕ, ◌+◌, ◌≤◌, ◌<◌}
use native.Mathlib.Omega.{arith}
use native.Mathlib.Numerals.{add-one}
use lib.ListN.{length, get_or, drop, drop_of_length-le}
use lib.Seq.{drop-cons}
use borrow.Author.Tests.{le-leb, lt-leb, leb-true}
use lib.Dec.{leb}
use Rattle.spec_model.proofs.Rules.{first}
use Rattle.spec_model.specs.Basics.{refuse, ok}
use Rattle.spec_model.specs.Refusals.{unfit_times}
use Rattle.spec_doors.specs.Times.{max_times, last_time, max_tolerance, rising, times_fit, all_fit}
use Rattle.spec_doors.specs.Held.{pairs_of, counts, held}
use Rattle.spec_doors.proofs.Pass.{left, no-marks, no-arrivals, mark-early, arrival-early, paired}

-- ---- One list: the whole test is the test of what is left
module _ (xs : List ℕ) (low k : ℕ) (h : k < length xs) where
  pub rises : low ≤ get_or xs k 0 → get_or xs k 0 ≤ last_time → rising low (drop k xs) ≡ rising (get_or xs k 0) (drop (k + 1) xs)
  unfolding rising
  rises a b = rw (drop-cons xs k 0 h, add-one k, le-leb low (get_or xs k 0) a, le-leb (get_or xs k 0) last_time b)

  pub falls : get_or xs k 0 < low → rising low (drop k xs) ≡ false
  unfolding rising
  falls a = rw (drop-cons xs k 0 h, lt-leb low (get_or xs k 0) a)

  pub too-late : low ≤ get_or xs k 0 → last_time < get_or xs k 0 → rising low (drop k xs) ≡ false
  unfolding rising
  too-late a b = rw (drop-cons xs k 0 h, le-leb low (get_or xs k 0) a, lt-leb (get_or xs k 0) last_time b)

pub none_left : (xs : List ℕ) (low k : ℕ) → length xs ≤ k → rising low (drop k xs) ≡ true
unfolding rising
none_left xs low k h = rw (drop_of_length-le xs {i = k} h)

pub too-many : (xs : List ℕ) → max_times < length xs → false ≡ times_fit xs
too-many xs h = rw (lt-leb (length xs) max_times h)

pub as-rising : (xs : List ℕ) → length xs ≤ max_times → (b : Bool) → rising 0 xs ≡ b → b ≡ times_fit xs
as-rising xs h b e = rw (le-leb (length xs) max_times h, e)

-- ---- The pass over both: n pairs were made, and what is left has the others
module _ (within : ℕ) (marks arrivals : List ℕ) (i j n : ℕ) (inv : pairs_of within marks arrivals ≡ n + left within marks arrivals i j) where
  ended : left within marks arrivals i j ≡ 0 → n ≡ pairs_of within marks arrivals
  ended z = omega (arith, inv, z)

  pub marks-over : length marks ≤ i → n ≡ pairs_of within marks arrivals
  marks-over h = ended (no-marks within marks arrivals i j h)

  pub arrivals-over : length arrivals ≤ j → n ≡ pairs_of within marks arrivals
  arrivals-over h = ended (no-arrivals within marks arrivals i j h)

  module _ (hi : i < length marks) (hj : j < length arrivals) where
    pub next-mark : get_or marks i 0 + within < get_or arrivals j 0 → pairs_of within marks arrivals ≡ n + left within marks arrivals (i + 1) j
    next-mark h = inv ∙ ap (λ k. n + k) (mark-early within marks arrivals i j hi hj h)

    module _ (late : get_or arrivals j 0 ≤ get_or marks i 0 + within) where
      pub next-arrival : get_or arrivals j 0 + within < get_or marks i 0 → pairs_of within marks arrivals ≡ n + left within marks arrivals i (j + 1)
      next-arrival h = inv ∙ ap (λ k. n + k) (arrival-early within marks arrivals i j hi hj late h)

      pub next-pair : get_or marks i 0 ≤ get_or arrivals j 0 + within → pairs_of within marks arrivals ≡ (n + 1) + left within marks arrivals (i + 1) (j + 1)
      next-pair h = omega (arith, inv, paired within marks arrivals i j hi hj late h)

-- ---- A whole call
module _ (marks arrivals : List ℕ) (within : ℕ) where
  pub unfits : all_fit marks arrivals within ≡ false → refuse unfit_times ≡ held marks arrivals within
  unfolding held
  unfits e = rw e

  module _ (e : all_fit marks arrivals within ≡ true) where
    pub fit-tolerance : within ≤ max_tolerance
    fit-tolerance = leb-true within max_tolerance (first (leb within max_tolerance) _ e)

    pub all-counted : (n : ℕ) → n ≡ pairs_of within marks arrivals → ok (counts marks arrivals n) ≡ held marks arrivals within
    unfolding held
    all-counted n q = rw (e, q)
