-- What is computed is what V6 asks for, of every input (`held-is`), and nothing else is (`paired-one`).
use mathlib.Core.Path.{◌≡◌, refl, ap, sym, subst, ◌∙◌}
use mathlib.Core.Logic.{◌⊎◌, inl, inr}
use mathlib.Core.Bool.{Bool, true, false, false≢true}
use mathlib.Core.List.{List}
use Prim.Native.Nat.{ℕ, zero, suc, ◌+◌, ◌-◌, ◌≤◌, ◌<◌}
use native.Mathlib.Omega.{arith}
use lib.Dec.{ltb}
use lib.ListN.{length}
use borrow.Author.Tests.{ltb-true, ltb-false}
use Rattle.spec_model.specs.Basics.{Res, ok, need}
use Rattle.spec_model.specs.Refusals.{unfit_times}
use Rattle.spec_doors.specs.Times.{all_fit}
use Rattle.spec_doors.specs.Held.{Counts, pairs_of, counts, held}
use Rattle.spec_doors.specs.Paired.{time, Most, Counted, Paired, unfit, counted}
use Rattle.spec_doors.proofs.Rising.{Ordered, ordered, marks-fit, arrivals-fit, all-fit, fit_all, fit-rising}
use Rattle.spec_doors.proofs.Pass.{left, few-pairs, no-marks, no-arrivals, mark-early, arrival-early, paired}
use Rattle.spec_doors.proofs.Exchange.{Passed, begin, end, skip-mark, skip-arrival, pair-both}

module _ (marks arrivals : List ℕ) (within : ℕ) where
  -- ---- The pass, step by step
  module _ (om : Ordered marks) (oa : Ordered arrivals) where
    -- what the pass has from i and j on; f bounds its steps
    abbrev Goes : ℕ → Type 0
    Goes f = (i j n : ℕ) → (length marks - i) + (length arrivals - j) ≤ f → Passed marks arrivals within i j n
        → Most marks arrivals within (n + left within marks arrivals i j)

    over : (i j n : ℕ) → left within marks arrivals i j ≡ 0 → (length marks ≤ i) ⊎ (length arrivals ≤ j) → Passed marks arrivals within i j n
        → Most marks arrivals within (n + left within marks arrivals i j)
    over i j n z e s = let q : n ≡ n + left within marks arrivals i j = omega (arith, z) in subst (Most marks arrivals within) q (end marks arrivals within i j n e s)

    module _ (f : ℕ) (go_on : Goes f) (i j n : ℕ) (few : (length marks - i) + (length arrivals - j) ≤ suc f) (s : Passed marks arrivals within i j n)
        (hi : i < length marks) (hj : j < length arrivals) where
      one-step : Most marks arrivals within (n + left within marks arrivals i j)
      one-step = by-mark (ltb (time marks i + within) (time arrivals j)) refl
        where
          as-left : (k : ℕ) → k ≡ n + left within marks arrivals i j → Most marks arrivals within k → Most marks arrivals within (n + left within marks arrivals i j)
          as-left k e m = subst (Most marks arrivals within) e m

          by-arrival : time arrivals j ≤ time marks i + within → (b : Bool) → ltb (time arrivals j + within) (time marks i) ≡ b
              → Most marks arrivals within (n + left within marks arrivals i j)
          by-arrival late true e =
              let h = ltb-true (time arrivals j + within) (time marks i) e in
              rw (arrival-early within marks arrivals i j hi hj late h)
              (go_on i (j + 1) n (omega arith) (skip-arrival marks arrivals within om oa i j n hi hj h s))
          by-arrival late false e =
              let h = ltb-false (time arrivals j + within) (time marks i) e in
              let q : (n + 1) + left within marks arrivals (i + 1) (j + 1) ≡ n + left within marks arrivals i j = omega (arith, paired within marks arrivals i j hi hj late h) in
              as-left _ q (go_on (i + 1) (j + 1) (n + 1) (omega arith) (pair-both marks arrivals within om oa i j n hi hj h late s))

          by-mark : (b : Bool) → ltb (time marks i + within) (time arrivals j) ≡ b → Most marks arrivals within (n + left within marks arrivals i j)
          by-mark true e =
              let h = ltb-true (time marks i + within) (time arrivals j) e in
              rw (mark-early within marks arrivals i j hi hj h)
              (go_on (i + 1) j n (omega arith) (skip-mark marks arrivals within om oa i j n hi hj h s))
          by-mark false e = by-arrival (ltb-false (time marks i + within) (time arrivals j) e) (ltb (time arrivals j + within) (time marks i)) refl

    goes : (f : ℕ) → Goes f
    goes zero i j n few s = over i j n (no-marks within marks arrivals i j (omega arith)) (inl (omega arith)) s
    goes (suc f) i j n few s = by-marks (goes f) (ltb i (length marks)) refl
      where
        by-arrivals : Goes f → i < length marks → (b : Bool) → ltb j (length arrivals) ≡ b → Most marks arrivals within (n + left within marks arrivals i j)
        by-arrivals go_on hi true e = one-step f go_on i j n few s hi (ltb-true j (length arrivals) e)
        by-arrivals go_on hi false e = let h = ltb-false j (length arrivals) e in over i j n (no-arrivals within marks arrivals i j h) (inr h) s

        by-marks : Goes f → (b : Bool) → ltb i (length marks) ≡ b → Most marks arrivals within (n + left within marks arrivals i j)
        by-marks go_on true e = by-arrivals go_on (ltb-true i (length marks) e) (ltb j (length arrivals)) refl
        by-marks go_on false e = let h = ltb-false i (length marks) e in over i j n (no-marks within marks arrivals i j h) (inl h) s

    most-pairs : Most marks arrivals within (pairs_of within marks arrivals)
    most-pairs = let z : 0 + left within marks arrivals 0 0 ≡ pairs_of within marks arrivals = omega arith in
        subst (Most marks arrivals within) z (goes (length marks + length arrivals) 0 0 0 (omega arith) (begin marks arrivals within))

  -- ---- The result
  pub held-is : Paired marks arrivals within (held marks arrivals within)
  unfolding held
  held-is = go (all_fit marks arrivals within) refl
    where
      go : (b : Bool) → all_fit marks arrivals within ≡ b → Paired marks arrivals within (need b unfit_times λ _. ok (counts marks arrivals (pairs_of within marks arrivals)))
      go false e = unfit (λ f. false≢true (sym e ∙ fit_all marks arrivals within f))
      go true e = counted {c = counts marks arrivals (pairs_of within marks arrivals)} (record {
        fit = all-fit marks arrivals within e;
        most = m;
        all-marks = omega (arith, l.0);
        all-arrivals = omega (arith, l.1);
      })
        where
          m : Most marks arrivals within (pairs_of within marks arrivals)
          m = most-pairs (ordered 0 marks (fit-rising marks (marks-fit marks arrivals within e))) (ordered 0 arrivals (fit-rising arrivals (arrivals-fit marks arrivals within e)))

          l : (pairs_of within marks arrivals ≤ length marks) × (pairs_of within marks arrivals ≤ length arrivals)
          l = few-pairs within marks arrivals

  -- the same count by two pairings, each the largest
  one-most : (n k : ℕ) → Most marks arrivals within n → Most marks arrivals within k → n ≡ k
  one-most n k x y = let a : length x.pairs ≤ k = y.largest x.pairs x.pairing in let b : length y.pairs ≤ n = x.largest y.pairs y.pairing in
      omega (arith, x.size, y.size)

  one-counts : (c d : Counts) → Counted marks arrivals within c → Counted marks arrivals within d → c ≡ d
  one-counts c d x y = let p : c.pairs ≡ d.pairs = one-most c.pairs d.pairs x.most y.most in
      let m : c.marks ≡ d.marks = omega (arith, x.all-marks, y.all-marks) in
      let a : c.arrivals ≡ d.arrivals = omega (arith, x.all-arrivals, y.all-arrivals) in
      ap (λ n. record { pairs = n; marks = c.marks; arrivals = c.arrivals }) p
      ∙ ap (λ n. record { pairs = d.pairs; marks = n; arrivals = c.arrivals }) m
      ∙ ap (λ n. record { pairs = d.pairs; marks = d.marks; arrivals = n }) a

  pub paired-one : (r s : Res Counts) → Paired marks arrivals within r → Paired marks arrivals within s → r ≡ s
  paired-one _ _ (unfit e) (unfit f) = refl
  paired-one _ _ (unfit e) (counted c) = absurd (e c.fit)
  paired-one _ _ (counted c) (unfit e) = absurd (e c.fit)
  paired-one _ _ (counted {c} x) (counted {c = d} y) = ap ok (one-counts c d x y)
