-- Records, seen through f: one law for cells, places and calls.
use mathlib.Core.Path.{◌≡◌, ap, sym, ◌∙◌}
use mathlib.Core.List.{List, [], ◌∷◌, ◌++◌}
use Prim.Native.Nat.{ℕ, ◌≤◌, ◌<◌}
use native.Mathlib.Nat.{zero-add}
use native.Mathlib.Numerals.{add-one}
use native.Mathlib.Omega.{arith}
use native.Mathlib.Decide.{ℕ_discrete}
use lib.ListN.{length, get_or, set, length-set}
use lib.Seq.{get_or-set_same, get_or-set_other}
use Rattle.spec_model.specs.Basics.{from}
use Rattle.spec_model.proofs.Lists.{length_from, from_first, is-from, from-same}
use Rattle.state_record.specs.declared.Records.{Records}
use Rattle.state_record.specs.View.{seen, added}
use Rattle.table_record.proofs.Lists.{from_last}

module _ {A B : Type 0} {m : ℕ} (f : A → B) (d : A) (r : Records A m) where
  pub seen-length : length (seen f d r) ≡ r.count
  unfolding seen
  seen-length = length_from (λ k. f (get_or r.list k d)) r.count 0

  pub seen_at : (k : ℕ) (e : B) → k < r.count → get_or (seen f d r) k e ≡ f (get_or r.list k d)
  unfolding seen
  seen_at k e h = from_first (λ k. f (get_or r.list k d)) r.count k e h

  pub seen-added : (x : A) → r.count < length r.list → seen f d (added r x) ≡ seen f d r ++ (f x ∷ [])
  unfolding seen
  seen-added x h =
      let n = r.count in
      let l = r.list in
      let g : ℕ → B = λ k. f (get_or (set l n x) k d) in
      ap (λ (m : ℕ). from m 0 g) (add-one n) ∙ from_last g n 0
      ∙ ap (λ (y : B). from n 0 g ++ (y ∷ [])) (ap g (zero-add n) ∙ ap f (get_or-set_same l n x d h))
      ∙ ap (λ (xs : List B). xs ++ (f x ∷ [])) (from-same g (λ k. f (get_or l k d)) n 0 (λ j p q. ap f (get_or-set_other l n j x d (λ e. omega (arith, e)))))

  pub seen-set : (j : ℕ) (x : A) → j < r.count → r.count ≤ length r.list → seen {n = m} f d (record { list = set r.list j x; count = r.count }) ≡ set (seen f d r) j (f x)
  seen-set j x h most = unfold seen in
      is-from (λ k. f (get_or (set r.list j x) k d)) r.count (f d) (set (seen f d r) j (f x)) (length-set (seen f d r) j (f x) ∙ seen-length) (λ i p. go i p (ℕ_discrete i j))
    where
      go : (i : ℕ) → i < r.count → Dec (i ≡ j) → get_or (set (seen f d r) j (f x)) i (f d) ≡ f (get_or (set r.list j x) i d)
      go i p (yes e) = rw e (get_or-set_same (seen f d r) j (f x) (f d) (rw seen-length h) ∙ ap f (sym (get_or-set_same r.list j x d (omega arith))))
      go i p (no e) = get_or-set_other (seen f d r) j i (f x) (f d) e ∙ seen_at i (f d) p ∙ ap f (sym (get_or-set_other r.list j i x d e))
