-- The search itself: what holds at each turn, and what its end says. A pair that breaks its rule refutes the first one, since every pair found is related if
-- the first one is; and where every pair found passes, they are a relation that keeps its rules, so within the largest.
use mathlib.Core.Path.{◌≡◌, refl, ap, sym, subst, ◌∙◌}
use mathlib.Core.Logic.{⊎_elim}
use mathlib.Core.Bool.{Bool, true, false, ◌&&◌, So}
use mathlib.Core.List.{List, ◌∷◌, map}
use Prim.Native.Nat.{ℕ, zero, suc, ◌+◌, ◌*◌, ◌/◌, ◌%◌, ◌≤◌, ◌<◌}
use native.Mathlib.Omega.{arith}
use lib.Dec.{leb, ltb}
use lib.ListN.{length, get_or, set, length-set, replicate, length-replicate}
use lib.Seq.{get_or-set_same, get_or-set_other}
use Rattle.spec_model.specs.Table.{Table, size, max_types}
use Rattle.spec_model.specs.Relations.{Relation, Keeps, yeses, rule, related}
use Rattle.spec_model.proofs.Tests.{so-ltb}
use Rattle.spec_model.proofs.Rules.{never, both, rule-test, rule-says}
use Rattle.spec_model.proofs.Largest.{largest, keeps-related}
use Rattle.table_record.proofs.Lists.{same_or}
use Rattle.relation_found.specs.Found.{found, Within, Pair, Listed, Grew, Broke, marks_in, queue_in, Added, max_pairs}
use Rattle.relation_search.specs.Search.{Clear}
use Rattle.relation_found.proofs.Pairs.{found-says, found-test, pair-as, yeses-set}

-- ---- no pair is found
map-replicate : {A B : Type 0} (f : A → B) (n : ℕ) (a : A) → map f (replicate n a) ≡ replicate n (f a)
map-replicate f zero a = refl
map-replicate {B = B} f (suc n) a = ap (λ (zs : List B). f a ∷ zs) (map-replicate f n a)

none_found : (n : ℕ) → marks_in (replicate n 0) ≡ replicate n false
unfolding marks_in
none_found n = map-replicate (λ (v : ℕ). leb 32768 v) n 0

none-queued : (n : ℕ) → queue_in (replicate n 0) ≡ replicate n 0
unfolding queue_in
none-queued n = map-replicate (λ (v : ℕ). v % 32768) n 0

-- ---- the root
yeses-none : (n : ℕ) → yeses (replicate n false) ≡ 0
unfolding yeses
yeses-none zero = refl
yeses-none (suc n) = let h : yeses (replicate n false) ≡ 0 = yeses-none n in omega arith

none-marked : (n p : ℕ) → So (get_or (replicate n false) p false) → ⊥
none-marked zero p h = never h
none-marked (suc n) zero h = never h
none-marked (suc n) (suc p) h = none-marked n p h

module _ (m n t s : ℕ) (l : n ≤ max_types) (lo : n * max_types ≤ m) (hi : m ≤ max_pairs) (p : t < n) (q : s < n) where
  abbrev marks₀ : List Bool
  marks₀ = set (replicate m false) (t * max_types + s) true

  abbrev queue₀ : List ℕ
  queue₀ = set (replicate m 0) 0 (t * max_types + s)

  slot : t * max_types + s < length (replicate m false)
  slot = rw length-replicate (omega arith)

  root-marked : So (get_or marks₀ (t * max_types + s) false)
  root-marked = get_or-set_same (replicate m false) (t * max_types + s) true false slot

  root-queued : get_or queue₀ 0 0 ≡ t * max_types + s
  root-queued = get_or-set_same (replicate m 0) 0 (t * max_types + s) 0 (rw length-replicate (omega arith))

  only-root : (u : ℕ) → So (get_or marks₀ u false) → u ≡ t * max_types + s
  only-root u h = ⊎_elim (λ (e : u ≡ t * max_types + s). e) (λ (e : u ≡ t * max_types + s → ⊥). absurd
      (none-marked m u (sym (get_or-set_other (replicate m false) (t * max_types + s) u true false e) ∙ h))) (same_or u (t * max_types + s))

  root-listed : Listed n marks₀ queue₀ 1
  root-listed = record {
    small = l;
    slots = let z : length marks₀ ≡ m = marks-length in omega arith;
    few = let z : length marks₀ ≡ m = marks-length in omega arith;
    room = length-set (replicate m 0) 0 (t * max_types + s) ∙ length-replicate {A = ℕ} m 0 ∙ sym marks-length;
    first = omega arith;
    tally = yeses-set (replicate m false) (t * max_types + s) slot (get_or-none (t * max_types + s)) ∙ ap suc (yeses-none m);
    inside = λ u h. (let e : u ≡ t * max_types + s = only-root u h in let o : (u / max_types < n) × (u % max_types < n) = (omega arith, omega arith) in o);
    back = λ i k. (let e : i ≡ 0 = omega arith in rw (e, root-queued) (let o : Pair n marks₀ (t * max_types + s) = record { low = omega arith; high = omega arith; known = root-marked } in o));
    forth = λ x y h. (let g = found-says n marks₀ x y h in record { place = 0; below = omega arith; there = root-queued ∙ sym (only-root (x * max_types + y) g.2) });
  }
    where
      marks-length : length marks₀ ≡ m
      marks-length = length-set (replicate m false) (t * max_types + s) true ∙ length-replicate m false

      get_or-none : (u : ℕ) → get_or (replicate m false) u false ≡ false
      get_or-none u = go (get_or (replicate m false) u false) refl
        where
          go : (b : Bool) → get_or (replicate m false) u false ≡ b → b ≡ false
          go true e = absurd (none-marked m u e)
          go false e = refl

-- ---- a turn
pub record Going (k : Relation) (T : Table) (n t s : ℕ) (marks : List Bool) (queue : List ℕ) (tail head : ℕ) : Type 0 where
  pub listed : Listed n marks queue tail
  pub within : head ≤ tail
  pub root : So (found n marks t s)
  pub done : (i : ℕ) → i < head → So (rule k T (found n marks) (get_or queue i 0 / max_types) (get_or queue i 0 % max_types))
  pub only : So (related k T t s) → Within (found n marks) (related k T)

-- the rule is monotone
pub rule-up : (k : Relation) (T : Table) (M N : ℕ → ℕ → Bool) (a b : ℕ) → a < size T → b < size T → Within M N → So (rule k T M a b) → So (rule k T N a b)
unfolding Within
rule-up k T M N a b p q i w = rule-test k T (λ x y. So (M x y)) N i a b (rule-says k T M a b p q w)

module _ (k : Relation) (T : Table) (n t s : ℕ) (e : size T ≡ n) where
  pub start : (m : ℕ) → n ≤ max_types → n * max_types ≤ m → m ≤ max_pairs → t < n → s < n → Going k T n t s (set (replicate m false) (t * max_types + s) true)
      (set (replicate m 0) 0 (t * max_types + s)) 1 0
  unfolding Within
  start m l lo hi p q = record {
    listed = root-listed m n t s l lo hi p q;
    within = omega arith;
    root = found-test n (set (replicate m false) (t * max_types + s) true) t s p q (root-marked m n t s l lo hi p q);
    done = λ i h. (let z : ⊥ = omega arith in absurd z);
    only = λ r x y h. (let g = found-says n (set (replicate m false) (t * max_types + s) true) x y h in
        let d : x * max_types + y ≡ t * max_types + s = only-root m n t s l lo hi p q (x * max_types + y) g.2 in
        let a : t ≡ x = omega (arith, g.1) in let b : s ≡ y = omega (arith, g.1) in rw (← a, ← b) r);
  }

  -- the first pair is added to an array that says nothing
  pub start-at : (a b : List ℕ) (r : ℕ) → Clear n a → (r ≡ 1) × Added a 0 (t * max_types + s) b → n ≤ max_types → t < n → s < n → Going k T n t s (marks_in b) (queue_in b) r 0
  start-at a b r z h l p q = rw (h.0, h.1.0, h.1.1, ap marks_in z.none ∙ none_found (length a), ap queue_in z.none ∙ none-queued (length a)) (start (length a) l z.long z.few p q)

  -- what is related keeps its rule, and is of the table
  kept : (a b : ℕ) → So (related k T a b) → So (rule k T (related k T) a b)
  kept a b h = rule-test k T (λ x y. So (related k T x y)) (related k T) (λ x y r. r) a b (keeps-related k T a b h)

  of-table : Within (related k T) (λ x y. ltb x n && ltb y n)
  unfolding Within
  of-table x y h = let r = keeps-related k T x y h in both (so-ltb (subst (λ (m : ℕ). x < m) e r.low)) (so-ltb (subst (λ (m : ℕ). y < m) e r.high))

  module _ (marks : List Bool) (queue : List ℕ) (tail head : ℕ) (g : Going k T n t s marks queue tail head) where
    pub next : head < tail → Pair n marks (get_or queue head 0)
    next l = g.listed.back head l

    module _ (l : head < tail) where
      abbrev Turn : (ℕ → ℕ → Bool) → Bool
      Turn M = rule k T M (get_or queue head 0 / max_types) (get_or queue head 0 % max_types)

      pub again : (marks' : List Bool) (queue' : List ℕ) (r : ℕ) → Grew n Turn marks queue tail marks' queue' r → Going k T n t s marks' queue' r (head + 1)
      unfolding Within
      again marks' queue' r w =
          record {
            listed = w.listed;
            within = omega (arith, w.longer);
            root = w.more t s g.root;
            done = λ i h. ⊎_elim
                (λ (d : i ≡ head). rw (d, w.kept head l) w.has)
                (λ (d : i ≡ head → ⊥). let o = g.listed.back i (omega arith) in rw (w.kept i (omega arith))
                (rule-up k T (found n marks) (found n marks') (get_or queue i 0 / max_types) (get_or queue i 0 % max_types) (rw e o.low) (rw e o.high) w.more
                (g.done i (omega arith))))
                (same_or i head);
            only = λ q. w.only (related k T) (kept (get_or queue head 0 / max_types) (get_or queue head 0 % max_types)
                (g.only q (get_or queue head 0 / max_types) (get_or queue head 0 % max_types) (pair-as n marks (get_or queue head 0) (next l)))) (g.only q);
          }

      pub broken : Broke n Turn → false ≡ related k T t s
      unfolding Within
      broken w = go (related k T t s) refl
        where
          go : (b : Bool) → related k T t s ≡ b → false ≡ b
          go true q = absurd (w.none (related k T) of-table (kept (get_or queue head 0 / max_types) (get_or queue head 0 % max_types)
              (unfold Within in (g.only q) (get_or queue head 0 / max_types) (get_or queue head 0 % max_types) (pair-as n marks (get_or queue head 0) (next l)))))
          go false q = refl

    pub ended : tail ≤ head → true ≡ related k T t s
    ended l = sym (largest k T (λ x y. So (found n marks x y)) keeps t s g.root)
      where
        keeps : Keeps k T (λ x y. So (found n marks x y))
        keeps x y h =
            let i = found-says n marks x y h in
            let w = g.listed.forth x y h in
            let b = w.below in
            let f = w.there in
            let a : get_or queue w.place 0 / max_types ≡ x = omega (arith, i.1, g.listed.small) in
            let c : get_or queue w.place 0 % max_types ≡ y = omega (arith, i.1, g.listed.small) in
            rule-says k T (found n marks) x y (rw e i.0) (rw e i.1) (rw (a, c) at (g.done w.place (omega arith)))

  pub out-left : n ≤ t → false ≡ related k T t s
  out-left l = go (related k T t s) refl
    where
      go : (b : Bool) → related k T t s ≡ b → false ≡ b
      go true q = let r : t < size T = (keeps-related k T t s q).low in let z : ⊥ = omega arith in absurd z
      go false q = refl

  pub out-right : n ≤ s → false ≡ related k T t s
  out-right l = go (related k T t s) refl
    where
      go : (b : Bool) → related k T t s ≡ b → false ≡ b
      go true q = let r : s < size T = (keeps-related k T t s q).high in let z : ⊥ = omega arith in absurd z
      go false q = refl
