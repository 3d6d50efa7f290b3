-- A key under work is found again (docs/SPEC.md, D14, D16).
use mathlib.Core.Path.{◌≡◌, refl, ap, ◌∙◌}
use mathlib.Core.Bool.{Bool, true, false, ◌&&◌, So}
use mathlib.Core.List.{List, [], ◌∷◌}
use mathlib.Core.Option.{Option, none, some}
use Prim.Native.Nat.{ℕ, zero, suc, ◌+◌, ◌<◌}
use native.Mathlib.Omega.{arith}
use native.Mathlib.Nat.{not-suc-le-zero, le_of_suc-le-suc}
use lib.Dec.{eqb}
use lib.ListN.{length, get_or}
use lib.Seq.{get_or-append_seam}
use Rattle.spec_model.specs.Table.{Kind, sub, sup, closed, Ty, Table, no_type, size, type_at, is_ref}
use Rattle.spec_model.specs.Restriction.{is_key, find, without_new, pending, derive}
use Rattle.spec_model.proofs.Tests.{eqb-self}
use Rattle.spec_model.proofs.Rules.{both}
use Rattle.spec_model.proofs.Growth.{Grown, grown-trans}
use Rattle.law_model.proofs.Deriving.{pushed, pushed-size, pushed-grown}
use Rattle.law_model.proofs.Crossings.{known-again}
use Rattle.law_rules.proofs.Derivation.{key_of}

own_key : (d : Kind) (l r : ℕ) → So (is_key d l r (some (key_of d l r)))
own_key sub l r = both (eqb-self l) (eqb-self r)
own_key sup l r = both (eqb-self l) (eqb-self r)
own_key closed l r = both (eqb-self l) (eqb-self r)

absent : {C : Type 0} {n : ℕ} → some n ≡ none → C
absent e = let z : ◌≡◌ {A = ℕ} 0 1 = cc in absurd (omega arith)

module _ (d : Kind) (l r : ℕ) where
  -- nothing found: no type has the key
  find_none : (i : ℕ) (xs : List Ty) → find d l r i xs ≡ none → (n : ℕ) → n < length xs → is_key d l r (get_or xs n no_type).key ≡ false
  unfolding find
  find_none i [] e n h = absurd (not-suc-le-zero h)
  find_none i (x ∷ xs) e n h = go (is_key d l r x.key) refl e n h (find_none (suc i) xs)
    where
      go : (b : Bool) → is_key d l r x.key ≡ b → ◌≡◌ {A = Option ℕ} (elim b [ true ↦ some i | false ↦ find d l r (suc i) xs ]) none → (n : ℕ) → n < length (x ∷ xs)
          → (find d l r (suc i) xs ≡ none → (n : ℕ) → n < length xs → is_key d l r (get_or xs n no_type).key ≡ false) → is_key d l r (get_or (x ∷ xs) n no_type).key ≡ false
      go true q e n h rest = absent e
      go false q e zero h rest = q
      go false q e (suc n) h rest = rest e n (le_of_suc-le-suc h)

  -- the first type with the key is found
  find_first : (i : ℕ) (xs : List Ty) (n : ℕ) → n < length xs → So (is_key d l r (get_or xs n no_type).key) → ((m : ℕ) → m < n → is_key d l r (get_or xs m no_type).key ≡ false)
      → find d l r i xs ≡ some (i + n)
  unfolding find
  find_first i [] n h k f = absurd (not-suc-le-zero h)
  find_first i (x ∷ xs) zero h k f = let z : i ≡ i + 0 = omega arith in ap (λ b. elim b as (λ _. Option ℕ) [ true ↦ some i | false ↦ find d l r (suc i) xs ]) k ∙ ap some z
  find_first i (x ∷ xs) (suc n) h k f =
      let z : suc i + n ≡ i + suc n = omega arith in
      ap (λ b. elim b as (λ _. Option ℕ) [ true ↦ some i | false ↦ find d l r (suc i) xs ]) (f 0 (omega arith))
      ∙ find_first (suc i) xs n (le_of_suc-le-suc h) k (λ m q. f (suc m) (omega arith)) ∙ ap some z

  module _ (t v : Table) (g : Grown (pushed t (pending t d l r)) v) where
    -- a search that failed before the number was taken finds it from then on
    find-pending : find d l r 0 t.types ≡ none → find d l r 0 v.types ≡ some (size t)
    find-pending e =
        let n : size t < size (pushed t (pending t d l r)) = omega (arith, pushed-size t (pending t d l r)) in
        let w : type_at v (size t) ≡ pending t d l r = g.same (size t) n ∙ get_or-append_seam t.types (pending t d l r) [] no_type in
        let o = grown-trans (pushed-grown t (pending t d l r)) g in
        let z : 0 + size t ≡ size t = omega arith in
        find_first 0 v.types (size t) (omega (arith, g.more)) (rw w (own_key d l r)) (λ m q. ap (λ y. is_key d l r y.key) (o.same m q) ∙ find_none 0 t.types e m q) ∙ ap some z

-- where the short ways do not answer, the search does
searched : (a b c : Bool) → c ≡ b → (x y n : ℕ) (o p : Option ℕ) → (o ≡ none → p ≡ some n)
    → ◌≡◌ {A = Option ℕ} (elim a [ true ↦ some x | false ↦ elim b [ true ↦ o | false ↦ some y ] ]) none
    → ◌≡◌ {A = Option ℕ} (elim a [ true ↦ some x | false ↦ elim c [ true ↦ p | false ↦ some y ] ]) (some n)
searched true b c q x y n o p h e = absent e
searched false true c q x y n o p h e = ap (λ z. elim z [ true ↦ p | false ↦ some y ]) q ∙ h e
searched false false c q x y n o p h e = absent e

abbrev both_refs : Table → ℕ → ℕ → Bool
both_refs t l r = is_ref (type_at t l).rep && is_ref (type_at t r).rep

same-refs : (t v : Table) → Grown t v → (l r : ℕ) → l < size t → r < size t → both_refs v l r ≡ both_refs t l r
same-refs t v g l r i j = rw (g.same l i, g.same r j) refl

pending-known : (t : Table) (d : Kind) (l r : ℕ) → l < size t → r < size t → without_new t d l r ≡ none → (v : Table) → Grown (pushed t (pending t d l r)) v
    → without_new v d l r ≡ some (size t)
unfolding without_new
pending-known t sub l r i j e v g = searched (eqb l r) (both_refs t l r) (both_refs v l r) (same-refs t v (grown-trans (pushed-grown t (pending t sub l r)) g) l r i j) l l (size t)
    (find sub l r 0 t.types) (find sub l r 0 v.types) (find-pending sub l r t v g) e
pending-known t sup l r i j e v g = searched (eqb l r) (both_refs t l r) (both_refs v l r) (same-refs t v (grown-trans (pushed-grown t (pending t sup l r)) g) l r i j) l r (size t)
    (find sup l r 0 t.types) (find sup l r 0 v.types) (find-pending sup l r t v g) e
pending-known t closed l r i j e v g = find-pending closed l r t v g e

-- D16. From the moment a type has its number, whoever asks for its key gets that number and nothing is derived: its own signatures, and whatever these derive.
pub leads-back : (t : Table) (d : Kind) (l r : ℕ) → l < size t → r < size t → without_new t d l r ≡ none → (f : ℕ) (v : Table) → Grown (pushed t (pending t d l r)) v
    → derive f v d l r ≡ some (v, size t)
leads-back t d l r i j e f v g = known-again f v d l r (size t) (pending-known t d l r i j e v g)
