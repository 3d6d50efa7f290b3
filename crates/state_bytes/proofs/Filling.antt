-- An array that is filled from its first element on, `f k` at k, and blank behind: d.
use mathlib.Core.Path.{◌≡◌, refl, ap, sym, ◌∙◌}
use mathlib.Core.Bool.{Bool, true, false, cond}
use mathlib.Core.List.{List}
use mathlib.Core.Logic.{⊎_elim}
use Prim.Native.Nat.{ℕ, ◌+◌, ◌≤◌, ◌<◌, min}
use native.Mathlib.Nat.{not-suc-le-zero, min-eq_left, min-eq_right}
use native.Mathlib.Omega.{arith}
use lib.Dec.{ltb}
use lib.ListN.{length, get_or, set, length-set, replicate, length-replicate, get_or-replicate}
use lib.Seq.{get_or-set_same, get_or-set_other}
use Rattle.spec_model.proofs.Tests.{ltb-so, ltb_no}
use Rattle.table_record.proofs.Lists.{lt-or-ge, same_or, is-from}
use Rattle.state_bytes.specs.Records.{up_to}

-- below the smaller of two numbers, or from it on
pub below-least : (n size k i : ℕ) → k ≡ min n size → i < n → i < size → i < k
below-least n size k i e p q = ⊎_elim
    (λ (l : n < size). let z : k ≡ n = e ∙ min-eq_left {n = n} {m = size} (omega arith) in omega arith)
    (λ (l : size ≤ n). let z : k ≡ size = e ∙ min-eq_right {n = size} {m = n} l in omega arith)
    (lt-or-ge n size)

module _ {A : Type 0} (d : A) (f : ℕ → A) where
  pub record Filled (size k : ℕ) (l : List A) : Type 0 where
    pub long : length l ≡ size
    pub are : (i : ℕ) → i < k → get_or l i d ≡ f i
    pub blank : (i : ℕ) → k ≤ i → i < size → get_or l i d ≡ d

  pub filled_none : (size : ℕ) → Filled size 0 (replicate size d)
  filled_none size = record { long = length-replicate size d; are = λ i h. absurd (not-suc-le-zero h); blank = λ i h p. get_or-replicate size i d d p }

  pub filled_more : (size k : ℕ) (l : List A) (x : A) → x ≡ f k → k < size → Filled size k l → Filled size (k + 1) (set l k x)
  filled_more size k l x e h w = record {
    long = length-set l k x ∙ w.long;
    are = λ i p. let m : k < length l = omega (arith, h, w.long) in ⊎_elim
        (λ (q : i ≡ k). ap (λ (v : ℕ). get_or (set l k x) v d) q ∙ get_or-set_same l k x d m ∙ e ∙ ap f (sym q))
        (λ (q : i ≡ k → ⊥). get_or-set_other l k i x d q ∙ w.are i (omega (arith, p, q)))
        (same_or i k);
    blank = λ i p q. get_or-set_other l k i x d (λ (z : i ≡ k). omega (arith, p, z)) ∙ w.blank i (omega (arith, p)) q;
  }

  -- filled up to a count, or to the end of the array
  pub filled-all : (size n k : ℕ) (l : List A) → k ≡ min n size → Filled size k l → k ≤ n → l ≡ up_to size n d f
  filled-all size n k l e w few = sym (is-from (λ i. cond (ltb i n) (f i) d) size d l w.long (λ i p. go i p (ltb i n) refl))
    where
      go : (i : ℕ) → i < size → (b : Bool) → ltb i n ≡ b → get_or l i d ≡ cond b (f i) d
      go i p true q = w.are i (below-least n size k i e (ltb-so q) p)
      go i p false q = w.blank i (omega (arith, few, ltb_no {m = i} {n = n} q)) p
