-- Decimals and lists of them: what is read is exactly what is written, for numbers below `top`.
use mathlib.Core.Path.{◌≡◌, refl, sym, ap, ◌∙◌, subst}
use mathlib.Core.Bool.{Bool, true, false, cond}
use mathlib.Core.List.{List, [], ◌∷◌, ◌++◌, append_assoc, append-nil}
use Prim.Native.Nat.{ℕ, zero, suc, ◌+◌, ◌-◌, ◌*◌, ◌/◌, ◌%◌, ◌≤◌, ◌<◌}
use native.Mathlib.Nat.{not-suc-le-zero, le_of_suc-le-suc, div-lt_iff_lt-mul, mul-add-div_right, div-eq_of_lt, mul-add-mod_self_right, mod-eq_of_lt, div-add-mod', mod-lt}
use native.Mathlib.Omega.{arith}
use lib.Dec.{eqb, ltb, leb}
use lib.ListN.{length}
use borrow.Author.Tests.{ltb-true, ltb-false, leb-true, eqb-true, eqb-false, lt-ltb, le-ltb, le-leb, ne_eqb}
use Rattle.spec_model.specs.Basics.{all}
use Rattle.spec_model.proofs.Rules.{both, first, second, never}
use Rattle.spec_sheet.specs.Numbers.{Scan, fail, took, bind_scan, is_digit, top, limit, digits, number, comma, numbers, decimal_in, decimal, tails}
use Rattle.spec_sheet.proofs.Steps.{cond_cases, fail-took, took-value, took-rest}

pub is_digit-low : (b : ℕ) → is_digit b ≡ true → 48 ≤ b
is_digit-low b h = leb-true 48 b (first (leb 48 b) (leb b 57) h)

pub is_digit-high : (b : ℕ) → is_digit b ≡ true → b ≤ 57
is_digit-high b h = leb-true b 57 (second (leb 48 b) (leb b 57) h)

pub is_digit-of : (b : ℕ) → 48 ≤ b → b ≤ 57 → is_digit b ≡ true
is_digit-of b l h = both (le-leb 48 b l) (le-leb b 57 h)

abbrev pub val : ℕ → List ℕ → ℕ
val a [] = a
val a (b ∷ bs) = val (a * 10 + (b - 48)) bs

val-up : (a : ℕ) (ds : List ℕ) → a ≤ val a ds
val-up a [] = omega arith
val-up a (b ∷ bs) = let h : a * 10 + (b - 48) ≤ val (a * 10 + (b - 48)) bs = val-up (a * 10 + (b - 48)) bs in omega arith

limit-low : (x n : ℕ) → limit x ≤ n → n < top → limit x ≡ x
limit-low x n h l = omega arith

pub limit_is : (x : ℕ) → x < top → limit x ≡ x
limit_is x h = omega arith

-- the digits behind the first
pub digits-sound : (a : ℕ) (l : List ℕ) (n : ℕ) (r : List ℕ) → digits a l ≡ took n r → n < top → (ds : List ℕ) × (l ≡ ds ++ r) × (all is_digit ds ≡ true) × (val a ds ≡ n)
unfolding digits
digits-sound a [] n r h l = ([], took-rest h, refl, took-value h)
digits-sound a (b ∷ bs) n r h l =
    cond_cases (is_digit b) h
    (λ e k. let i = digits-sound (limit (a * 10 + (b - 48))) bs n r k l in
    let u : limit (a * 10 + (b - 48)) ≤ n = subst (λ z. limit (a * 10 + (b - 48)) ≤ z) i.3 (val-up (limit (a * 10 + (b - 48))) i.0) in
    (b ∷ i.0, ap (λ z. b ∷ z) i.1, both e i.2, ap (λ z. val z i.0) (sym (limit-low (a * 10 + (b - 48)) n u l)) ∙ i.3))
    (λ e k. ([], took-rest k, refl, took-value k))

abbrev pub stops : List ℕ → Bool
stops [] = true
stops (b ∷ r) = cond (is_digit b) false true

stop-here : (a b : ℕ) (r : List ℕ) → stops (b ∷ r) ≡ true → digits a (b ∷ r) ≡ took a (b ∷ r)
unfolding digits
stop-here a b r h = cond_cases (is_digit b) h (λ e k. never k) (λ e k. rw e)

pub digits-full : (a : ℕ) (ds r : List ℕ) → all is_digit ds ≡ true → stops r ≡ true → val a ds < top → digits a (ds ++ r) ≡ took (val a ds) r
unfolding digits
digits-full a [] [] d s l = refl
digits-full a [] (b ∷ r) d s l = stop-here a b r s
digits-full a (b ∷ bs) r d s l =
    let e : is_digit b ≡ true = first (is_digit b) (all is_digit bs) d in
    let u : a * 10 + (b - 48) ≤ val (a * 10 + (b - 48)) bs = val-up (a * 10 + (b - 48)) bs in
    rw e (ap (λ z. digits z (bs ++ r)) (limit_is (a * 10 + (b - 48)) (omega arith)) ∙ digits-full (a * 10 + (b - 48)) bs r (second (is_digit b) (all is_digit bs) d) s l)

-- decimal: what f digits can say
abbrev pub bound : ℕ → ℕ
bound zero = 1
bound (suc f) = bound f * 10

tenth : (a d : ℕ) → d < 10 → (a * 10 + d) / 10 ≡ a
tenth a d h = mul-add-div_right (omega arith) a d ∙ ap (λ z. a + z) (div-eq_of_lt h) ∙ omega arith

unit : (a d : ℕ) → d < 10 → (a * 10 + d) % 10 ≡ d
unit a d h = mul-add-mod_self_right a 10 d ∙ mod-eq_of_lt h

part_low : (a b : ℕ) → a < b * 10 → a / 10 < b
part_low a b h = (div-lt_iff_lt-mul {k = 10} (omega arith)).1 h

digits_more : (f n : ℕ) → 10 ≤ n → decimal_in (suc f) n ≡ decimal_in f (n / 10) ++ (48 + n % 10) ∷ []
unfolding decimal_in
digits_more f n h = rw (le-ltb n 10 h)

fuel-step : (f g b : ℕ) → ((a : ℕ) → a < b → decimal_in f a ≡ decimal_in g a) → (a : ℕ) → a < b * 10 → decimal_in (suc f) a ≡ decimal_in (suc g) a
unfolding decimal_in
fuel-step f g b h a l = ap (λ z. cond (ltb a 10) ((48 + a) ∷ []) (z ++ (48 + a % 10) ∷ [])) (h (a / 10) (part_low a b l))

fuel-1 : (a : ℕ) → a < 10 → decimal_in 1 a ≡ decimal_in 2 a
unfolding decimal_in
fuel-1 a h = rw (lt-ltb a 10 h)

fuel-more : (f a : ℕ) → a < bound (suc f) → decimal_in (suc f) a ≡ decimal_in (suc (suc f)) a
fuel-more zero = fuel-1
fuel-more (suc f) = fuel-step (suc f) (suc (suc f)) (bound (suc f)) (fuel-more f)

pub decimal-one : (n : ℕ) → n < 10 → decimal n ≡ (48 + n) ∷ []
unfolding decimal_in
decimal-one n h = rw (lt-ltb n 10 h)

pub decimal-more : (n : ℕ) → 10 ≤ n → n < bound 20 → decimal n ≡ decimal (n / 10) ++ (48 + n % 10) ∷ []
decimal-more n h l = digits_more 19 n h ∙ ap (λ z. z ++ (48 + n % 10) ∷ []) (fuel-more 18 (n / 10) (part_low n (bound 19) l))

decimal_step : (a d : ℕ) → 1 ≤ a → d < 10 → a * 10 + d < top → decimal (a * 10 + d) ≡ decimal a ++ (48 + d) ∷ []
decimal_step a d p h l = decimal-more (a * 10 + d) (omega arith) (omega arith) ∙ ap (λ z. decimal z ++ (48 + (a * 10 + d) % 10) ∷ []) (tenth a d h)
    ∙ ap (λ z. decimal a ++ (48 + z) ∷ []) (unit a d h)

decimal-val : (a : ℕ) (ds : List ℕ) → 1 ≤ a → all is_digit ds ≡ true → val a ds < top → decimal (val a ds) ≡ decimal a ++ ds
decimal-val a [] p d l = sym (append-nil (decimal a))
decimal-val a (b ∷ bs) p d l =
    let e : is_digit b ≡ true = first (is_digit b) (all is_digit bs) d in
    let lo = is_digit-low b e in
    let hi = is_digit-high b e in
    let u : a * 10 + (b - 48) ≤ val (a * 10 + (b - 48)) bs = val-up (a * 10 + (b - 48)) bs in
    let q : 48 + (b - 48) ≡ b = omega arith in
    decimal-val (a * 10 + (b - 48)) bs (omega arith) (second (is_digit b) (all is_digit bs) d) l
    ∙ ap (λ z. z ++ bs) (decimal_step a (b - 48) p (omega arith) (omega arith))
    ∙ append_assoc (decimal a) ((48 + (b - 48)) ∷ []) bs
    ∙ ap (λ z. decimal a ++ z ∷ bs) q

-- one number
pub number-sound : (l : List ℕ) (n : ℕ) (r : List ℕ) → number l ≡ took n r → n < top → l ≡ decimal n ++ r
unfolding number
number-sound [] n r h l = absurd (fail-took h)
number-sound (b ∷ bs) n r h l =
    cond_cases (eqb b 48) h
    (λ e k. let q : b ≡ 48 = eqb-true b 48 e in let z : 0 ≡ n = took-value k in
    ap (λ x. x ∷ bs) q ∙ ap (λ x. 48 ∷ x) (took-rest k) ∙ ap (λ x. x ++ r) (sym (decimal-one 0 (omega arith)) ∙ ap decimal z))
    (λ e k. cond_cases (is_digit b) k
    (λ d k. let i = digits-sound (b - 48) bs n r k l in
    let ne : b ≡ 48 → ⊥ = eqb-false b 48 e in
    let lo = is_digit-low b d in
    let hi = is_digit-high b d in
    let q : 48 + (b - 48) ≡ b = omega arith in
    let w : val (b - 48) i.0 < top = subst (λ x. x < top) (sym i.3) l in
    sym (ap (λ x. decimal x ++ r) (sym i.3)
    ∙ ap (λ x. x ++ r) (decimal-val (b - 48) i.0 (omega arith) i.2 w ∙ ap (λ x. x ++ i.0) (decimal-one (b - 48) (omega arith)))
    ∙ ap (λ x. x ∷ (i.0 ++ r)) q ∙ ap (λ x. b ∷ x) (sym i.1)))
    (λ d k. absurd (fail-took k)))

abbrev Shape : ℕ → List ℕ → Type 0
Shape n l = (b : ℕ) × (ds : List ℕ) × (l ≡ b ∷ ds) × (eqb b 48 ≡ false) × (is_digit b ≡ true) × (all is_digit ds ≡ true) × (val (b - 48) ds ≡ n)

all_snoc : (ds : List ℕ) (d : ℕ) → all is_digit ds ≡ true → is_digit d ≡ true → all is_digit (ds ++ d ∷ []) ≡ true
all_snoc [] d h k = both k refl
all_snoc (x ∷ xs) d h k = both (first (is_digit x) (all is_digit xs) h) (all_snoc xs d (second (is_digit x) (all is_digit xs) h) k)

val-snoc : (a : ℕ) (ds : List ℕ) (d : ℕ) → val a (ds ++ d ∷ []) ≡ val a ds * 10 + (d - 48)
val-snoc a [] d = refl
val-snoc a (x ∷ xs) d = val-snoc (a * 10 + (x - 48)) xs d

shape : (f n : ℕ) → 1 ≤ n → n < bound f → Shape n (decimal_in f n)
unfolding decimal_in
shape zero n p h = absurd (omega arith)
shape (suc f) n p h = go (λ a q k. shape f a q k) (ltb n 10) refl
  where
    go : ((a : ℕ) → 1 ≤ a → a < bound f → Shape a (decimal_in f a)) → (t : Bool) → ltb n 10 ≡ t → Shape n (cond t ((48 + n) ∷ []) (decimal_in f (n / 10) ++ (48 + n % 10) ∷ []))
    go ih true e = let l : n < 10 = ltb-true n 10 e in
        (48 + n, [], refl, ne_eqb (48 + n) 48 (λ q. omega arith), is_digit-of (48 + n) (omega arith) (omega arith), refl, omega arith)
    go ih false e =
        let g : 10 ≤ n = ltb-false n 10 e in
        let dm : n / 10 * 10 + n % 10 ≡ n = div-add-mod' n 10 in
        let ml : n % 10 < 10 = mod-lt n {m = 10} (omega arith) in
        let i = ih (n / 10) (omega arith) (part_low n (bound f) h) in (
          i.0,
          i.1 ++ (48 + n % 10) ∷ [],
          ap (λ x. x ++ (48 + n % 10) ∷ []) i.2,
          i.3,
          i.4,
          all_snoc i.1 (48 + n % 10) i.5 (is_digit-of (48 + n % 10) (omega arith) (omega arith)),
          val-snoc (i.0 - 48) i.1 (48 + n % 10) ∙ ap (λ x. x * 10 + (48 + n % 10 - 48)) i.6 ∙ omega arith,
        )

number-pos : (n : ℕ) (r : List ℕ) → n < top → stops r ≡ true → 1 ≤ n → number (decimal n ++ r) ≡ took n r
unfolding number
number-pos n r h s p =
    let i = shape 20 n p (omega arith) in
    let w : val (i.0 - 48) i.1 < top = subst (λ x. x < top) (sym i.6) h in
    ap (λ x. number (x ++ r)) i.2
    ∙ ap (λ x. cond x (took 0 (i.1 ++ r)) (cond (is_digit i.0) (digits (i.0 - 48) (i.1 ++ r)) fail)) i.3
    ∙ ap (λ x. cond x (digits (i.0 - 48) (i.1 ++ r)) fail) i.4
    ∙ digits-full (i.0 - 48) i.1 r i.5 s w
    ∙ ap (λ x. took x r) i.6

pub number-full : (n : ℕ) (r : List ℕ) → n < top → stops r ≡ true → number (decimal n ++ r) ≡ took n r
unfolding number decimal_in
number-full n r h s = go (eqb n 0) refl
  where
    go : (t : Bool) → eqb n 0 ≡ t → number (decimal n ++ r) ≡ took n r
    go true e = let q : n ≡ 0 = eqb-true n 0 e in rw q
    go false e = let q : n ≡ 0 → ⊥ = eqb-false n 0 e in number-pos n r h s (omega arith)

pub decimal-head : (n : ℕ) → n < top → (b : ℕ) × (ds : List ℕ) × (decimal n ≡ b ∷ ds) × (is_digit b ≡ true)
decimal-head n h = go (eqb n 0) refl
  where
    go : (t : Bool) → eqb n 0 ≡ t → (b : ℕ) × (ds : List ℕ) × (decimal n ≡ b ∷ ds) × (is_digit b ≡ true)
    go true e = let q : n ≡ 0 = eqb-true n 0 e in (48, [], ap decimal q ∙ decimal-one 0 (omega arith), refl)
    go false e = let q : n ≡ 0 → ⊥ = eqb-false n 0 e in
        let i = shape 20 n (omega arith) (omega arith) in (i.0, i.1, i.2, i.4)

-- numbers with commas
abbrev pub small : ℕ → Bool
small n = ltb n top

-- what may stand behind a list of numbers
abbrev pub free : List ℕ → Bool
free [] = true
free (b ∷ r) = cond (is_digit b) false (cond (eqb b 44) false true)

free-stops : (r : List ℕ) → free r ≡ true → stops r ≡ true
free-stops [] h = refl
free-stops (b ∷ r) h = cond_cases (is_digit b) h (λ e k. never k) (λ e k. rw e)

free-comma : (b : ℕ) (r : List ℕ) → free (b ∷ r) ≡ true → eqb b 44 ≡ false
free-comma b r h = cond_cases (is_digit b) h (λ e k. never k) (λ e k. cond_cases (eqb b 44) k (λ e k. never k) (λ e k. e))

abbrev pub Listed : ℕ → List ℕ → List ℕ → List ℕ → List ℕ → Type 0
Listed k acc l ns r = (a : ℕ) × (xs : List ℕ) × (ns ≡ acc ++ a ∷ xs) × (suc (length xs) ≤ k) × (all small (a ∷ xs) ≡ true → l ≡ decimal a ++ (tails xs ++ r))

pub numbers-sound : (k : ℕ) (acc l ns r : List ℕ) → numbers k acc l ≡ took ns r → Listed k acc l ns r
unfolding numbers
numbers-sound zero acc l ns r h = absurd (fail-took h)
numbers-sound (suc k) acc l ns r h = go (λ b q h. numbers-sound k b q ns r h) (number l) refl h
  where
    last : (a : ℕ) (r₁ : List ℕ) → number l ≡ took a r₁ → r₁ ≡ r → all small (a ∷ []) ≡ true → l ≡ decimal a ++ r
    last a r₁ e q s = number-sound l a r₁ e (ltb-true a top (first (small a) true s)) ∙ ap (λ x. decimal a ++ x) q

    come : ((b q : List ℕ) → numbers k b q ≡ took ns r → Listed k b q ns r) → (a : ℕ) (r₁ : List ℕ) → number l ≡ took a r₁
        → comma (acc ++ a ∷ []) (λ q. numbers k (acc ++ a ∷ []) q) r₁ ≡ took ns r → Listed (suc k) acc l ns r
    come ih a [] e h = (a, [], sym (took-value h), omega arith, last a [] e (took-rest h))
    come ih a (b ∷ q) e h = cond_cases (eqb b 44) h
        (λ t k₁. let i = ih (acc ++ a ∷ []) q k₁ in (
          a,
          i.0 ∷ i.1,
          i.2 ∙ append_assoc acc (a ∷ []) (i.0 ∷ i.1),
          omega (arith, i.3),
          λ s. number-sound l a (b ∷ q) e (ltb-true a top (first (small a) _ s))
              ∙ ap (λ x. decimal a ++ x ∷ q) (eqb-true b 44 t) ∙ ap (λ x. decimal a ++ 44 ∷ x) (i.4 (second (small a) _ s))
              ∙ ap (λ x. decimal a ++ 44 ∷ x) (sym (append_assoc (decimal i.0) (tails i.1) r)),
        ))
        (λ t k₁. (a, [], sym (took-value k₁), omega arith, last a (b ∷ q) e (took-rest k₁)))

    go : ((b q : List ℕ) → numbers k b q ≡ took ns r → Listed k b q ns r) → (s : Scan ℕ) → number l ≡ s
        → bind_scan s (λ a r. comma (acc ++ a ∷ []) (λ q. numbers k (acc ++ a ∷ []) q) r) ≡ took ns r → Listed (suc k) acc l ns r
    go ih fail e h = absurd (fail-took h)
    go ih (took a r₁) e h = come ih a r₁ e h

comma-free : (xs : List ℕ) (k : List ℕ → Scan (List ℕ)) (r : List ℕ) → free r ≡ true → comma xs k r ≡ took xs r
comma-free xs k [] h = refl
comma-free xs k (b ∷ r) h = rw (free-comma b r h)

pub numbers-full : (k : ℕ) (acc : List ℕ) (a : ℕ) (xs r : List ℕ) → suc (length xs) ≤ k → all small (a ∷ xs) ≡ true → free r ≡ true
    → numbers k acc (decimal a ++ (tails xs ++ r)) ≡ took (acc ++ a ∷ xs) r
unfolding numbers
numbers-full zero acc a xs r h s f = absurd (not-suc-le-zero h)
numbers-full (suc k) acc a [] r h s f =
    ap (λ z. bind_scan z (λ a r. comma (acc ++ a ∷ []) (λ q. numbers k (acc ++ a ∷ []) q) r)) (number-full a r (ltb-true a top (first (small a) true s)) (free-stops r f))
    ∙ comma-free (acc ++ a ∷ []) (λ q. numbers k (acc ++ a ∷ []) q) r f
numbers-full (suc k) acc a (x ∷ xs) r h s f =
    ap (λ z. bind_scan z (λ a r. comma (acc ++ a ∷ []) (λ q. numbers k (acc ++ a ∷ []) q) r)) (number-full a (44 ∷ (decimal x ++ tails xs) ++ r) (ltb-true a top (first (small a) _ s)) refl)
    ∙ ap (λ z. numbers k (acc ++ a ∷ []) z) (append_assoc (decimal x) (tails xs) r)
    ∙ numbers-full k (acc ++ a ∷ []) x xs r (le_of_suc-le-suc h) (second (small a) _ s) f
    ∙ ap (λ z. took z r) (append_assoc acc (a ∷ []) (x ∷ xs))
