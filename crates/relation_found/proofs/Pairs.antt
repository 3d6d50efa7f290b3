-- What is found so far (specs/Found): pairs as numbers, one pair more, and steps put together.
use mathlib.Core.Path.{◌≡◌, refl, ap, sym, ◌∙◌}
use mathlib.Core.Logic.{◌⊎◌, inl, inr, ⊎_elim}
use mathlib.Core.Bool.{Bool, true, false, ◌&&◌, So}
use mathlib.Core.List.{List, [], ◌∷◌}
use Prim.Native.Nat.{ℕ, zero, suc, ◌+◌, ◌*◌, ◌/◌, ◌%◌, ◌≤◌, ◌<◌}
use native.Mathlib.Nat.{not-suc-le-zero, le_of_suc-le-suc}
use native.Mathlib.Omega.{arith}
use lib.Bits.{bit_and, bit_or, or_add_and, and_le_l, and_le_r}
use lib.Dec.{ltb}
use lib.ListN.{length, get_or, set, length-set}
use lib.Seq.{get_or-set_same, get_or-set_other}
use Rattle.spec_model.proofs.Tests.{ltb-so, so-ltb}
use Rattle.spec_model.proofs.Rules.{never, both, first, second}
use Rattle.spec_model.specs.Relations.{bit, yeses}
use Rattle.spec_model.specs.Table.{max_types}
use Rattle.table_record.proofs.Lists.{same_or}
use Rattle.std.specs.Prelude.{Option, Some, None}
use Rattle.relation_found.specs.Found.{found, Within, Queued, Pair, Listed, Grew, Broke, Met, max_pairs}

pub clash : {A : Type 0} → {b : Bool} → b ≡ true → b ≡ false → A
clash p q = never (sym q ∙ p)

-- ---- pairs as numbers
pub found-says : (n : ℕ) (s : List Bool) (x y : ℕ) → So (found n s x y) → (x < n) × (y < n) × So (get_or s (x * max_types + y) false)
found-says n s x y h =
    let g = second (ltb x n) _ h in
    (ltb-so (first (ltb x n) _ h), ltb-so (first (ltb y n) _ g), second (ltb y n) _ g)

pub found-test : (n : ℕ) (s : List Bool) (x y : ℕ) → x < n → y < n → So (get_or s (x * max_types + y) false) → So (found n s x y)
found-test n s x y p q h = both (so-ltb p) (both (so-ltb q) h)

pub pair-as : (n : ℕ) (s : List Bool) (p : ℕ) → Pair n s p → So (found n s (p / max_types) (p % max_types))
pair-as n s p h =
    let e : p / max_types * max_types + p % max_types ≡ p = omega arith in
    found-test n s (p / max_types) (p % max_types) h.low h.high (rw e h.known)

-- neither of two numbers is above x | y; so where that is below the rows of the array, the pair's number is one of its entries
pub in_rows : (x y m : ℕ) → m ≤ max_pairs → bit_or x y < m / max_types → (x < max_types) × (y < max_types) × (x * max_types + y < m)
in_rows x y m l k =
    let sum : bit_or x y + bit_and x y ≡ x + y = or_add_and x y in
    let left : bit_and x y ≤ x = and_le_l x y in
    let right : bit_and x y ≤ y = and_le_r x y in
    (omega arith, omega arith, omega arith)

pair_of : (n : ℕ) (s : List Bool) (x y : ℕ) → n ≤ max_types → x < n → y < n → So (get_or s (x * max_types + y) false) → Pair n s (x * max_types + y)
pair_of n s x y l p q h = record { low = omega arith; high = omega arith; known = h }

-- ---- counting
pub yeses-le : (s : List Bool) → yeses s ≤ length s
unfolding yeses
yeses-le [] = omega arith
yeses-le (true ∷ s) = let h = yeses-le s in omega arith
yeses-le (false ∷ s) = let h = yeses-le s in omega arith

pub yeses-set : (s : List Bool) (p : ℕ) → p < length s → get_or s p false ≡ false → yeses (set s p true) ≡ suc (yeses s)
unfolding yeses
yeses-set [] p l h = absurd (not-suc-le-zero l)
yeses-set (b ∷ s) zero l h = let e : bit b ≡ 0 = ap bit h in omega arith
yeses-set (b ∷ s) (suc p) l h = let e : yeses (set s p true) ≡ suc (yeses s) = yeses-set s p (le_of_suc-le-suc l) h in omega arith

pub counted : (n : ℕ) (s : List Bool) (l : List ℕ) (t : ℕ) → Listed n s l t → t ≤ length s
counted n s l t h = let e = yeses-le s in omega (arith, h.tally)

pub fits : (n : ℕ) (s : List Bool) (l : List ℕ) (t : ℕ) → Listed n s l t → t ≤ max_pairs
fits n s l t h = let e = counted n s l t h in omega (arith, h.few)

pub room : (n : ℕ) (s : List Bool) (l : List ℕ) (t p : ℕ) → Listed n s l t → p < length s → get_or s p false ≡ false → t < length s
room n s l t p h k e =
    let a : yeses (set s p true) ≡ suc (yeses s) = yeses-set s p k e in
    let b : yeses (set s p true) ≤ length (set s p true) = yeses-le (set s p true) in
    let c : length (set s p true) ≡ length s = length-set s p true in
    omega (arith, h.tally)

-- ---- one pair
pub stay : (n : ℕ) (W : (ℕ → ℕ → Bool) → Bool) (s : List Bool) (l : List ℕ) (t : ℕ) → Listed n s l t → So (W (found n s)) → Grew n W s l t s l t
unfolding Within
stay n W s l t h w = record { listed = h; more = λ x y k. k; kept = λ i k. refl; longer = omega arith; has = w; only = λ M k i. i }

pub pair-known : (n : ℕ) (s : List Bool) (l : List ℕ) (t x y : ℕ) → Listed n s l t → x < n → y < n → So (get_or s (x * max_types + y) false) → Grew n (λ M. M x y) s l t s l t
pair-known n s l t x y h p q k = stay n (λ M. M x y) s l t h (found-test n s x y p q k)

-- what is found is in the table, so that x and y need no test
pub pair-seen : (n : ℕ) (s : List Bool) (l : List ℕ) (t x y : ℕ) → Listed n s l t → y < max_types → So (get_or s (x * max_types + y) false) → Grew n (λ M. M x y) s l t s l t
pair-seen n s l t x y h q k =
    let i = h.inside (x * max_types + y) k in
    let a : x < n = omega (arith, i.0) in
    let b : y < n = omega (arith, i.1) in
    pair-known n s l t x y h a b k

set_more : (s : List Bool) (p q : ℕ) → So (get_or s q false) → p < length s → So (get_or (set s p true) q false)
set_more s p q h l =
    ⊎_elim
    (λ (e : q ≡ p). ap (λ (k : ℕ). get_or (set s p true) k false) e ∙ get_or-set_same s p true false l)
    (λ (e : q ≡ p → ⊥). get_or-set_other s p q true false e ∙ h)
    (same_or q p)

set-less : (s : List Bool) (p q : ℕ) → So (get_or (set s p true) q false) → (q ≡ p) ⊎ So (get_or s q false)
set-less s p q h =
    ⊎_elim
    (λ (e : q ≡ p). inl e)
    (λ (e : q ≡ p → ⊥). inr (sym (get_or-set_other s p q true false e) ∙ h))
    (same_or q p)

module _ (n : ℕ) (s : List Bool) (l : List ℕ) (t x y : ℕ) (h : Listed n s l t) (p : x < n) (q : y < n) (e : get_or s (x * max_types + y) false ≡ false) where
  at_slot : x * max_types + y < length s
  at_slot = omega (arith, h.slots, h.small)

  at_room : t < length l
  at_room = let a : t < length s = room n s l t (x * max_types + y) h at_slot e in omega (arith, h.room)

  new-back : (i : ℕ) → i < t + 1 → Pair n (set s (x * max_types + y) true) (get_or (set l t (x * max_types + y)) i 0)
  new-back i k =
      ⊎_elim
      (λ (a : i ≡ t). let b : get_or (set l t (x * max_types + y)) i 0 ≡ x * max_types + y = ap (λ (m : ℕ). get_or (set l t (x * max_types + y)) m 0) a ∙ get_or-set_same l t (x * max_types + y) 0 at_room in
      rw b (pair_of n (set s (x * max_types + y) true) x y h.small p q (get_or-set_same s (x * max_types + y) true false at_slot)))
      (λ (a : i ≡ t → ⊥). let b : get_or (set l t (x * max_types + y)) i 0 ≡ get_or l i 0 = get_or-set_other l t i (x * max_types + y) 0 a in
      let o = h.back i (omega arith) in
      rw b (record { low = o.low; high = o.high; known = set_more s (x * max_types + y) (get_or l i 0) o.known at_slot }))
      (same_or i t)

  new-forth : (u v : ℕ) → So (found n (set s (x * max_types + y) true) u v) → Queued (set l t (x * max_types + y)) (t + 1) (u * max_types + v)
  new-forth u v k =
      let g = found-says n (set s (x * max_types + y) true) u v k in
      ⊎_elim
      (λ (a : u * max_types + v ≡ x * max_types + y). let o : Queued (set l t (x * max_types + y)) (t + 1) (u * max_types + v) = record
      { place = t; below = omega arith; there = get_or-set_same l t (x * max_types + y) 0 at_room ∙ sym a } in o)
      (λ (a : So (get_or s (u * max_types + v) false)). let w = h.forth u v (found-test n s u v g.0 g.1 a) in
      let o : Queued (set l t (x * max_types + y)) (t + 1) (u * max_types + v) = record {
        place = w.place;
        below = omega (arith, w.below);
        there = get_or-set_other l t w.place (x * max_types + y) 0
            (λ z. let f = w.below in let d : w.place ≡ t = z in omega arith) ∙ w.there;
      } in o)
      (set-less s (x * max_types + y) (u * max_types + v) g.2)

  new-inside : (u : ℕ) → So (get_or (set s (x * max_types + y) true) u false) → (u / max_types < n) × (u % max_types < n)
  new-inside u k =
      ⊎_elim
      (λ (a : u ≡ x * max_types + y). let o : (u / max_types < n) × (u % max_types < n) = (omega (arith, h.small), omega (arith, h.small)) in o)
      (λ (a : So (get_or s u false)). h.inside u a)
      (set-less s (x * max_types + y) u k)

  new-listed : Listed n (set s (x * max_types + y) true) (set l t (x * max_types + y)) (t + 1)
  new-listed = record {
    small = h.small;
    slots = let z : length (set s (x * max_types + y) true) ≡ length s = length-set s (x * max_types + y) true in omega (arith, h.slots);
    few = let z : length (set s (x * max_types + y) true) ≡ length s = length-set s (x * max_types + y) true in omega (arith, h.few);
    room = length-set l t (x * max_types + y) ∙ h.room ∙ sym (length-set s (x * max_types + y) true);
    first = omega arith;
    tally = (let a = yeses-set s (x * max_types + y) at_slot e in omega (arith, h.tally));
    inside = new-inside;
    back = new-back;
    forth = new-forth;
  }

  only_one : (M : ℕ → ℕ → Bool) → So (M x y) → ((u v : ℕ) → So (found n s u v) → So (M u v)) → (u v : ℕ) → So (found n (set s (x * max_types + y) true) u v) → So (M u v)
  only_one M w i u v k =
      let g = found-says n (set s (x * max_types + y) true) u v k in
      ⊎_elim
      (λ (a : u * max_types + v ≡ x * max_types + y). let b : x ≡ u = omega (arith, h.small, g.1) in let c : y ≡ v = omega (arith, h.small, g.1) in rw (← b, ← c) w)
      (λ (a : So (get_or s (u * max_types + v) false)). i u v (found-test n s u v g.0 g.1 a))
      (set-less s (x * max_types + y) (u * max_types + v) g.2)

  pub pair-new : Grew n (λ M. M x y) s l t (set s (x * max_types + y) true) (set l t (x * max_types + y)) (t + 1)
  unfolding Within
  pair-new = record {
    listed = new-listed;
    more = λ u v k. (let g = found-says n s u v k in found-test n (set s (x * max_types + y) true) u v g.0 g.1 (set_more s (x * max_types + y) (u * max_types + v) g.2 at_slot));
    kept = λ i k. get_or-set_other l t i (x * max_types + y) 0 (λ z. let d : i ≡ t = z in omega arith);
    longer = omega arith;
    has = found-test n (set s (x * max_types + y) true) x y p q (get_or-set_same s (x * max_types + y) true false at_slot);
    only = only_one;
  }

pub pair_left : (n x y : ℕ) → n ≤ x → Broke n (λ M. M x y)
unfolding Within
pair_left n x y l = record { none = λ M i w. let a : x < n = ltb-so (first (ltb x n) _ (i x y w)) in omega arith }

pub pair-right : (n x y : ℕ) → n ≤ y → Broke n (λ M. M x y)
unfolding Within
pair-right n x y l = record { none = λ M i w. let a : y < n = ltb-so (second (ltb x n) _ (i x y w)) in omega arith }

-- ---- one after another
unfoldable pub Mono : ((ℕ → ℕ → Bool) → Bool) → Type 0
Mono W = (M N : ℕ → ℕ → Bool) → Within M N → So (W M) → So (W N)

pub broke-as : (n : ℕ) (W U : (ℕ → ℕ → Bool) → Bool) → ((M : ℕ → ℕ → Bool) → So (U M) → So (W M)) → Broke n W → Broke n U
broke-as n W U f b = record { none = λ M i v. b.none M i (f M v) }

module _ (n : ℕ) (W U : (ℕ → ℕ → Bool) → Bool) (s : List Bool) (l : List ℕ) (t : ℕ) where
  pub grew-as : (s' : List Bool) (l' : List ℕ) (r : ℕ) → ((M : ℕ → ℕ → Bool) → So (W M) → So (U M)) → ((M : ℕ → ℕ → Bool) → So (U M) → So (W M))
      → Grew n W s l t s' l' r → Grew n U s l t s' l' r
  grew-as s' l' r f g w = record { listed = w.listed; more = w.more; kept = w.kept; longer = w.longer; has = f (found n s') w.has; only = λ M v. w.only M (g M v) }

  pub met-as : (s' : List Bool) (l' : List ℕ) (r : Option ℕ) → ((M : ℕ → ℕ → Bool) → So (W M) → So (U M)) → ((M : ℕ → ℕ → Bool) → So (U M) → So (W M))
      → Met n W s l t s' l' r → Met n U s l t s' l' r
  met-as s' l' None f g b = broke-as n W U g b
  met-as s' l' (Some r) f g w = grew-as s' l' r f g w

  pub grew_then : (s₁ : List Bool) (l₁ : List ℕ) (t₁ : ℕ) (s₂ : List Bool) (l₂ : List ℕ) (t₂ : ℕ) → Mono W → Grew n W s l t s₁ l₁ t₁
      → Grew n U s₁ l₁ t₁ s₂ l₂ t₂ → Grew n
      (λ M. W M && U M) s l t s₂ l₂ t₂
  unfolding Within Mono
  grew_then s₁ l₁ t₁ s₂ l₂ t₂ m a b = record {
    listed = b.listed;
    more = λ x y k. b.more x y (a.more x y k);
    kept = λ i k. b.kept i (omega (arith, a.longer)) ∙ a.kept i k;
    longer = omega (arith, a.longer, b.longer);
    has = both (m (found n s₁) (found n s₂) b.more a.has) b.has;
    only = λ M w i. b.only M (second (W M) _ w) (a.only M (first (W M) _ w) i);
  }

  pub met-then : (s₁ : List Bool) (l₁ : List ℕ) (t₁ : ℕ) (s₂ : List Bool) (l₂ : List ℕ) (r : Option ℕ) → Mono W → Grew n W s l t s₁ l₁ t₁ → Met n U s₁ l₁ t₁ s₂ l₂ r
      → Met n (λ M. W M && U M) s l t s₂ l₂ r
  met-then s₁ l₁ t₁ s₂ l₂ None m a b = broke-as n U (λ M. W M && U M) (λ M w. second (W M) _ w) b
  met-then s₁ l₁ t₁ s₂ l₂ (Some t₂) m a b = grew_then s₁ l₁ t₁ s₂ l₂ t₂ m a b
