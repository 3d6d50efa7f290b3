-- The rule of all methods of two types, one by one: one law for each way in which `find_methods` returns.
use mathlib.Core.Path.{◌≡◌, refl, subst}
use mathlib.Core.Logic.{⊎_elim}
use mathlib.Core.Bool.{Bool, So}
use mathlib.Core.List.{List}
use Prim.Native.Nat.{ℕ, zero, suc, ◌+◌, ◌≤◌, ◌<◌}
use native.Mathlib.Numerals.{add-one}
use native.Mathlib.Omega.{arith}
use Rattle.spec_model.specs.Table.{Method}
use Rattle.spec_model.specs.Relations.{Relation, method_rule}
use Rattle.spec_model.proofs.Rules.{both, first, second}
use Rattle.table_record.proofs.Lists.{same_or}
use Rattle.relation_found.specs.Found.{Within, Listed, Grew, Broke}
use Rattle.relation_found.proofs.Pairs.{Mono, stay, broke-as, grew_then}
use Rattle.relation_found.proofs.Signatures.{method-up}
use Rattle.relation_search.specs.Search.{each_below}

-- Every number below m.
pub each-says : (m : ℕ) (f : ℕ → Bool) → So (each_below m f) → (j : ℕ) → j < m → So (f j)
unfolding each_below
each-says zero f w j l = let z : ⊥ = omega arith in absurd z
each-says (suc m) f w j l = ⊎_elim (λ (d : j ≡ m). rw d (second (each_below m f) _ w)) (λ (d : j ≡ m → ⊥). each-says m f (first (each_below m f) _ w) j (omega arith)) (same_or j m)

pub each-test : (m : ℕ) (f : ℕ → Bool) → ((j : ℕ) → j < m → So (f j)) → So (each_below m f)
unfolding each_below
each-test zero f h = refl
each-test (suc m) f h = both (each-test m f (λ j l. h j (omega arith))) (h m (omega arith))

each-up : (m : ℕ) (k : Relation) (x y : ℕ → Method) → Mono (λ M. each_below m (λ j. method_rule k M (x j) (y j)))
unfolding Mono Within
each-up m k x y M N i w = each-test m (λ j. method_rule k N (x j) (y j)) (λ j l. unfold Mono Within in (method-up k (x j) (y j)) M N i (each-says m (λ j. method_rule k M (x j) (y j)) w j l))

-- All methods of two types, X and Y.
module _ (n : ℕ) (k : Relation) (X Y : ℕ → Method) where
  abbrev All : ℕ → (ℕ → ℕ → Bool) → Bool
  All m M = each_below m (λ j. method_rule k M (X j) (Y j))

  pub methods-start : (s : List Bool) (l : List ℕ) (t : ℕ) → Listed n s l t → Grew n (All 0) s l t s l t
  unfolding each_below
  methods-start s l t h = stay n (All 0) s l t h refl

  pub methods-broke : (j c : ℕ) → j < c → Broke n (λ M. method_rule k M (X j) (Y j)) → Broke n (All c)
  methods-broke j c h b = broke-as n (λ M. method_rule k M (X j) (Y j)) (All c) (λ M w. each-says c (λ j. method_rule k M (X j) (Y j)) w j h) b

  pub methods-more : (j : ℕ) (s : List Bool) (l : List ℕ) (t : ℕ) (s₁ : List Bool) (l₁ : List ℕ) (t₁ : ℕ) → Grew n (All j) s l t s₁ l₁ t₁
      → (s₂ : List Bool) (l₂ : List ℕ) (t₂ : ℕ) → Grew n (λ M. method_rule k M (X j) (Y j)) s₁ l₁ t₁ s₂ l₂ t₂ → Grew n (All (j + 1)) s l t s₂ l₂ t₂
  unfolding each_below
  methods-more j s l t s₁ l₁ t₁ g s₂ l₂ t₂ m =
      rw (add-one j) (grew_then n (All j) (λ M. method_rule k M (X j) (Y j)) s l t s₁ l₁ t₁ s₂ l₂ t₂ (each-up j k X Y) g m)

  pub methods-end : (j c : ℕ) (s : List Bool) (l : List ℕ) (t : ℕ) (s₁ : List Bool) (l₁ : List ℕ) (t₁ : ℕ) → Grew n (All j) s l t s₁ l₁ t₁ → c ≤ j → j ≤ c
      → Grew n (All c) s l t s₁ l₁ t₁
  methods-end j c s l t s₁ l₁ t₁ g p q = let e : j ≡ c = omega arith in subst (λ (m : ℕ). Grew n (All m) s l t s₁ l₁ t₁) e g
