-- The codes of the records: that every counted one names something stays so. Lists of methods by their numbers, and one record stored.
use mathlib.Core.Path.{◌≡◌, refl, sym, ap, subst}
use mathlib.Core.Logic.{⊎_elim}
use mathlib.Core.Bool.{Bool, So, true, false, ◌&&◌, ◌||◌}
use mathlib.Core.List.{List, [], ◌∷◌, map}
use Prim.Native.Nat.{ℕ, zero, suc, ◌+◌, ◌≤◌, ◌<◌}
use native.Mathlib.Omega.{arith}
use lib.Dec.{ltb}
use lib.ListN.{get_or, replicate}
use Rattle.spec_model.specs.Basics.{all, every, from, ◌⇒◌}
use Rattle.spec_model.specs.Table.{is_ref, between}
use Rattle.spec_model.specs.Check.{RawMethod, RawType, no_raw_method, no_raw_type, no_raw_links, rep_of, raw_method_fits, raw_type_fits, codes_fit}
use Rattle.spec_model.proofs.Rules.{both, first, second, applied}
use Rattle.spec_model.proofs.Tests.{so-ltb}
use Rattle.table_record.specs.declared.Counts.{Counts}
use Rattle.table_record.specs.Store.{raw_method, empty_method, raw_table, types_in, links_in, with_count}
use Rattle.table_record.proofs.Lists.{same_or}
use Rattle.derive_type.specs.NewType.{Work, kind_in, new_record}
use Rattle.derive_type.proofs.Laws.{code-low}
use Rattle.spec_model.specs.Records.{kind_code}
use Rattle.derive_record.specs.Begins.{Derived}
use Rattle.std.specs.Prelude.{None, Some}
use Rattle.derive_sub_sup.specs.Link.{Coded, CodedTo, CodesStay}

-- a test of the values of a rule, by their numbers
module _ {A : Type 0} (f : ℕ → A → Bool) (g : ℕ → A) where
  from-every : (c i : ℕ) → ((j : ℕ) → i ≤ j → j < i + c → So (f j (g j))) → So (every f i (from c i g))
  unfolding from
  from-every zero i h = refl
  from-every (suc c) i h = both (h i (omega arith) (omega arith)) (from-every c (suc i) (λ j p q. h j (omega arith) (omega arith)))

  every-from : (c i : ℕ) → So (every f i (from c i g)) → (j : ℕ) → i ≤ j → j < i + c → So (f j (g j))
  unfolding from
  every-from zero i h j p q = absurd (omega arith)
  every-from (suc c) i h j p q = ⊎_elim
      (λ (e : j ≡ i). subst (λ (k : ℕ). So (f k (g k))) (sym e) (first (f i (g i)) _ h))
      (λ (e : j ≡ i → ⊥). every-from c (suc i) (second (f i (g i)) _ h) j (omega (arith, e)) (omega arith))
      (same_or j i)

all-every : {A : Type 0} (f : A → Bool) (i : ℕ) (xs : List A) → all f xs ≡ every (λ _. f) i xs
all-every f i [] = refl
all-every f i (x ∷ xs) = ap (λ (b : Bool). f x && b) (all-every f (suc i) xs)

pub denied-coded : (n j : ℕ) → So (raw_method_fits (get_or (map raw_method (replicate n empty_method)) j no_raw_method))
denied-coded zero j = refl
denied-coded (suc n) zero = refl
denied-coded (suc n) (suc j) = denied-coded n j

-- the methods of a reference type
pub methods-coded : (ms sh i : ℕ) (x : RawType) → So (is_ref (rep_of x.rep)) → So (raw_type_fits ms sh i x) → (j : ℕ) → j < ms → So (raw_method_fits (get_or x.methods j no_raw_method))
methods-coded ms sh i x r h j l =
    let f : ℕ → RawMethod = λ j. get_or x.methods j no_raw_method in
    every-from (λ _. raw_method_fits) f ms 0 (subst So (all-every raw_method_fits 0 (from ms 0 f))
    (second (ltb x.own 2) _ (applied (first (is_ref (rep_of x.rep) ⇒ _) _ (second (ltb x.rep 3) _ h)) r))) j (omega arith) (omega arith)

-- a derived type
pub new_coded : (ms sh n : ℕ) (w : Work) (zs : List RawMethod) → ((j : ℕ) → j < ms → So (raw_method_fits (get_or zs j no_raw_method)))
    → So (raw_type_fits ms sh n (new_record w zs))
new_coded ms sh n w zs h =
    both (subst So (sym (all-every raw_method_fits 0 (from ms 0 (λ j. get_or zs j no_raw_method))))
    (from-every (λ _. raw_method_fits) (λ j. get_or zs j no_raw_method) ms 0 (λ j p q. h j (omega arith)))) (go (ltb n sh))
  where
    go : (b : Bool) → So (b || ltb (kind_code (kind_in w)) 3)
    go true = refl
    go false = so-ltb (code-low (kind_in w))

-- The counted records of a table in bytes: as the check of a table asks, and by their numbers.
module _ (b l : List ℕ) (c : Counts) where
  pub codes-coded : So (codes_fit (raw_table b l c)) → Coded c c.types b
  unfolding codes_fit
  codes-coded h i p = every-from (raw_type_fits c.methods c.sheet) (λ i. get_or (types_in b) i no_raw_type) c.types 0
      (second (all (λ x. between 1 2 x.count) (from c.cats 1 (λ k. get_or (links_in l) k no_raw_links))) _ h) i (omega arith) (omega arith)

pub coded-codes : (b b' l : List ℕ) (c : Counts) (m : ℕ) → So (codes_fit (raw_table b l c)) → Coded c m b' → So (codes_fit (raw_table b' l (with_count c m)))
unfolding codes_fit
coded-codes b b' l c m h k = both (first (all (λ x. between 1 2 x.count) (from c.cats 1 (λ k. get_or (links_in l) k no_raw_links))) _ h)
    (from-every (raw_type_fits c.methods c.sheet) (λ i. get_or (types_in b') i no_raw_type) m 0 (λ i p q. k i (omega arith)))

pub codes-stay : (b b' : List ℕ) (c : Counts) (r : Derived) → (Coded c c.types b → CodedTo c b' r) → CodesStay c b b' r
codes-stay b b' c None h l k = tt
codes-stay b b' c (Some p) h l k = coded-codes b b' l c p.1 k (h (codes-coded b l c k))
