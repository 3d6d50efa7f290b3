-- Elimination reaches the largest relation that keeps the rules.
use mathlib.Core.Path.{◌≡◌, refl, ap, sym, subst, ◌∙◌}
use mathlib.Core.Logic.{◌≢◌}
use mathlib.Core.Bool.{Bool, true, false, ◌&&◌, So}
use mathlib.Core.List.{[]}
use Prim.Native.Nat.{ℕ, zero, suc, ◌+◌, ◌*◌, ◌≤◌, ◌<◌}
use native.Mathlib.Nat.{add-zero, zero-add, not-suc-le-zero, le_of_suc-le-suc}
use native.Mathlib.Omega.{arith}
use native.Mathlib.Decide.{dec_lt}
use lib.Dec.{eqb}
use lib.ListN.{get_or}
use Rattle.spec_model.specs.Basics.{from}
use Rattle.spec_model.specs.Table.{Table, size}
use Rattle.spec_model.specs.Relations.{Relation, Largest, rule, Square, square, look, bit, yeses, round, rounds, all_pairs, related, Keeps, count}
use Rattle.spec_model.proofs.Tests.{eqb-so, eqb_no}
use Rattle.spec_model.proofs.Rules.{so-both, first, second, never, both, rule-test, rule-says}

module _ {A : Type 0} (f : ℕ → A) (d : A) where
  pub get_or-from : (c i j : ℕ) → j < c → get_or (from c i f) j d ≡ f (i + j)
  unfolding from
  get_or-from zero i j h = absurd (not-suc-le-zero h)
  get_or-from (suc c) i zero h = ap f (sym (add-zero i))
  get_or-from (suc c) i (suc j) h = get_or-from c (suc i) j (le_of_suc-le-suc h) ∙ ap f (omega arith)

  pub get_or-from-out : (c i j : ℕ) → c ≤ j → get_or (from c i f) j d ≡ d
  unfolding from
  get_or-from-out zero i j h = refl
  get_or-from-out (suc c) i zero h = absurd (not-suc-le-zero h)
  get_or-from-out (suc c) i (suc j) h = get_or-from-out c (suc i) j (le_of_suc-le-suc h)

pub look-square : (n : ℕ) (f : ℕ → ℕ → Bool) (a b : ℕ) → a < n → b < n → look (square n f) a b ≡ f a b
unfolding square
look-square n f a b p q = rw (get_or-from (λ x. from n 0 (λ y. f x y)) [] n 0 a p, get_or-from (λ y. f (0 + a) y) false n 0 b q, zero-add, zero-add)

pub look_in : (n : ℕ) (f : ℕ → ℕ → Bool) (a b : ℕ) → So (look (square n f) a b) → (a < n) × (b < n)
unfolding square
look_in n f a b h = go (dec_lt a n) (dec_lt b n)
  where
    go : Dec (a < n) → Dec (b < n) → (a < n) × (b < n)
    go (yes p) (yes q) = (p, q)
    go (yes p) (no q) = never (rw (get_or-from (λ x. from n 0 (λ y. f x y)) [] n 0 a p, get_or-from-out (λ y. f (0 + a) y) false n 0 b (omega arith)) at h)
    go (no p) q = never (rw (get_or-from-out (λ x. from n 0 (λ y. f x y)) [] n 0 a (omega arith)) at h)

-- Counting
sum_f : ℕ → ℕ → (ℕ → ℕ) → ℕ
sum_f zero i f = 0
sum_f (suc c) i f = f i + sum_f c (suc i) f

module _ (f g : ℕ → ℕ) where
  sum-le : (c i : ℕ) → ((j : ℕ) → i ≤ j → j < i + c → f j ≤ g j) → sum_f c i f ≤ sum_f c i g
  unfolding sum_f
  sum-le zero i h = omega arith
  sum-le (suc c) i h = let p = sum-le c (suc i) (λ j l u. h j (omega arith) (omega arith)) in let q = h i (omega arith) (omega arith) in omega arith

  sum-eq : (c i : ℕ) → ((j : ℕ) → i ≤ j → j < i + c → f j ≤ g j) → sum_f c i f ≡ sum_f c i g → (j : ℕ) → i ≤ j → j < i + c → f j ≡ g j
  unfolding sum_f
  sum-eq zero i h e j l u = absurd (omega arith)
  sum-eq (suc c) i h e j l u =
      let h' : (j : ℕ) → suc i ≤ j → j < suc i + c → f j ≤ g j = λ j l u. h j (omega arith) (omega arith) in
      let p = sum-le c (suc i) h' in
      let q = h i (omega arith) (omega arith) in
      go (dec_lt i j) (λ k. sum-eq c (suc i) h' (omega arith) j k (omega arith)) (omega arith)
    where
      go : Dec (i < j) → (i < j → f j ≡ g j) → f i ≡ g i → f j ≡ g j
      go (yes k) e₁ e₀ = e₁ k
      go (no k) e₁ e₀ = subst (λ x. f x ≡ g x) (omega arith) e₀

bit_le : (p q : Bool) → (So p → So q) → bit p ≤ bit q
bit_le true true h = omega arith
bit_le true false h = never (h refl)
bit_le false q h = omega arith

bit-eq : (p q : Bool) → bit p ≡ bit q → So q → So p
bit-eq true q e h = refl
bit-eq false true e h = absurd (omega arith)
bit-eq false false e h = h

yeses-from : (f : ℕ → Bool) (c i : ℕ) → yeses (from c i f) ≡ sum_f c i (λ j. bit (f j))
unfolding yeses from sum_f
yeses-from f zero i = refl
yeses-from f (suc c) i = ap (λ x. bit (f i) + x) (yeses-from f c (suc i))

-- the of_number of related pairs below n
row : ℕ → (ℕ → Bool) → ℕ
row n f = sum_f n 0 (λ b. bit (f b))

total : ℕ → (ℕ → ℕ → Bool) → ℕ
total n f = sum_f n 0 (λ a. row n (f a))

count-from : (f : ℕ → ℕ → Bool) (n c i : ℕ) → count (from c i (λ a. from n 0 (λ b. f a b))) ≡ sum_f c i (λ a. row n (f a))
unfolding count from sum_f row
count-from f n zero i = refl
count-from f n (suc c) i = rw (yeses-from (f i) n 0, count-from f n c (suc i))

count-square : (n : ℕ) (f : ℕ → ℕ → Bool) → count (square n f) ≡ total n f
unfolding square total
count-square n f = count-from f n n 0

module _ (n : ℕ) (f g : ℕ → ℕ → Bool) (le : (a b : ℕ) → a < n → b < n → So (f a b) → So (g a b)) where
  row-le : (a : ℕ) → a < n → row n (f a) ≤ row n (g a)
  unfolding row
  row-le a p = sum-le (λ b. bit (f a b)) (λ b. bit (g a b)) n 0 (λ b l u. bit_le (f a b) (g a b) (le a b p (omega arith)))

  total-le : total n f ≤ total n g
  unfolding total
  total-le = sum-le (λ a. row n (f a)) (λ a. row n (g a)) n 0 (λ a l u. row-le a (omega arith))

  total-eq : total n f ≡ total n g → (a b : ℕ) → a < n → b < n → So (g a b) → So (f a b)
  unfolding total row
  total-eq e a b p q =
      let e₁ : row n (f a) ≡ row n (g a) = sum-eq (λ a. row n (f a)) (λ a. row n (g a)) n 0 (λ a l u. row-le a (omega arith)) e a (omega arith) (omega arith) in
      bit-eq (f a b) (g a b) (sum-eq (λ b. bit (f a b)) (λ b. bit (g a b)) n 0 (λ b l u. bit_le (f a b) (g a b) (le a b p (omega arith))) e₁ b (omega arith) (omega arith))

sum_bound : (f : ℕ → ℕ) (d : ℕ) → ((j : ℕ) → f j ≤ d) → (c i : ℕ) → sum_f c i f ≤ c * d
unfolding sum_f
sum_bound f d h zero i = omega arith
sum_bound f d h (suc c) i = let p = sum_bound f d h c (suc i) in let q = h i in omega arith

total-full : (n : ℕ) → total n (λ a b. true) ≤ n * n
unfolding total row
total-full n = sum_bound _ n (λ a. let p = sum_bound (λ b. 1) 1 (λ b. omega arith) n 0 in omega arith) n 0

module _ (k : Relation) (t : Table) where
  -- one round of the square of f
  next : (ℕ → ℕ → Bool) → ℕ → ℕ → Bool
  next f a b = look (square (size t) f) a b && rule k t (look (square (size t) f)) a b

  next_le : (f : ℕ → ℕ → Bool) (a b : ℕ) → a < size t → b < size t → So (next f a b) → So (f a b)
  unfolding next
  next_le f a b p q h = rw (look-square (size t) f a b p q) at (first (look (square (size t) f) a b) _ h)

  Done : Square → Type 0
  Done g = (f : ℕ → ℕ → Bool) × (g ≡ square (size t) f) × (total (size t) (next f) ≡ total (size t) f)

  ends : (c : ℕ) (f : ℕ → ℕ → Bool) → total (size t) f ≤ c → Done (rounds c k t (square (size t) f))
  unfolding rounds Done next
  ends zero f h = (f, refl, let p = total-le (size t) (next f) f (next_le f) in omega arith)
  ends (suc c) f h = go (eqb (count (square (size t) (next f))) (count (square (size t) f))) refl (ends c (next f))
    where
      go : (b : Bool) → eqb (count (square (size t) (next f))) (count (square (size t) f)) ≡ b → (total (size t) (next f) ≤ c → Done (rounds c k t (square (size t) (next f))))
          → Done (elim b [ true ↦ square (size t) f | false ↦ rounds c k t (square (size t) (next f)) ])
      go true e ih = (f, refl, sym (count-square (size t) (next f)) ∙ eqb-so e ∙ count-square (size t) f)
      go false e ih = ih (let p = total-le (size t) (next f) f (next_le f) in
          let n : total (size t) (next f) ≢ total (size t) f = λ x. eqb_no e (count-square (size t) (next f) ∙ x ∙ sym (count-square (size t) f)) in omega arith)

  module _ (R : ℕ → ℕ → Type 0) (keeps : Keeps k t R) where
    above : (c : ℕ) (g : Square) → ((a b : ℕ) → R a b → So (look g a b)) → (a b : ℕ) → R a b → So (look (rounds c k t g) a b)
    unfolding rounds round
    above zero g h = h
    above (suc c) g h = go (eqb (count (round k t g)) (count g)) (above c (round k t g) λ a b r. let q = keeps a b r in
        rw (look-square (size t) (λ a b. look g a b && rule k t (look g) a b) a b q.low q.high) (both (h a b r) (rule-test k t R (look g) h a b q)))
      where
        go : (b : Bool) → ((a b : ℕ) → R a b → So (look (rounds c k t (round k t g)) a b)) → (a b' : ℕ) → R a b'
            → So (look (elim b [ true ↦ g | false ↦ rounds c k t (round k t g) ]) a b')
        go true ih = h
        go false ih = ih

    -- what keeps the rules lies within the computed relation
    pub largest : (a b : ℕ) → R a b → So (related k t a b)
    unfolding related all_pairs
    largest = above (size t * size t) (all_pairs t) λ a b r. let q = keeps a b r in look-square (size t) (λ a b. true) a b q.low q.high

  -- and the computed relation keeps them
  pub keeps-related : Keeps k t (λ a b. So (related k t a b))
  unfolding related all_pairs Done next
  keeps-related a b h =
      let d : Done (rounds (size t * size t) k t (all_pairs t)) = ends (size t * size t) (λ a b. true) (total-full (size t)) in
      let g = rounds (size t * size t) k t (all_pairs t) in
      let f = d.0 in
      let h' : So (look (square (size t) f) a b) = rw d.1 at h in
      let i = look_in (size t) f a b h' in
      let w : So (next f a b) = total-eq (size t) (next f) f (next_le f) d.2 a b i.0 i.1 (rw (look-square (size t) f a b i.0 i.1) at h') in
      rule-says k t (look g) a b i.0 i.1 (subst (λ x. So (rule k t (look x) a b)) (sym d.1) (second (look (square (size t) f) a b) _ w))

-- Each executable relation is the largest that keeps its rules.
pub related-largest : (k : Relation) (t : Table) → Largest k t (related k t)
related-largest k t = record { keeps = keeps-related k t; above = largest k t }

-- There is one such relation: whatever keeps the rules and has every related pair is it.
pub largest-unique : (k : Relation) (t : Table) (M : ℕ → ℕ → Bool) → Largest k t M → (a b : ℕ) → M a b ≡ related k t a b
largest-unique k t M h a b = so-both (M a b) (related k t a b) (largest k t (λ a b. So (M a b)) h.keeps a b) (h.above (λ a b. So (related k t a b)) (keeps-related k t) a b)

-- A pair outside the table is never related.
pub related-inside : (k : Relation) (t : Table) (a b : ℕ) → So (related k t a b) → (a < size t) × (b < size t)
related-inside k t a b h = let r = keeps-related k t a b h in (r.low, r.high)
