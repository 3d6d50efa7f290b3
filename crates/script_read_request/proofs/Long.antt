-- How long a line is at least that asks for something: what is printed for it has to find room (P12).
-- A number is read exactly as it is written (`number-sound`), so an operand has one byte for its space and those of its decimal.
use mathlib.Core.Path.{◌≡◌, refl, sym, ap, ◌∙◌, subst}
use mathlib.Core.Bool.{Bool, true, false, ◌&&◌, cond}
use mathlib.Core.List.{List, [], ◌∷◌, ◌++◌, append_assoc, append-nil}
use mathlib.Core.Option.{Option, none, some}
use Prim.Native.Nat.{ℕ, zero, suc, ◌+◌, ◌-◌, ◌*◌, ◌/◌, ◌%◌, ◌≤◌, ◌<◌}
use native.Mathlib.Omega.{arith}
use lib.Dec.{eqb, ltb, leb}
use lib.IntN.{ℤ, pos, negsuc}
use lib.ListN.{length, get_or, drop, length-append}
use borrow.Author.Tests.{ltb-true, leb-true, eqb-true}
use Rattle.spec_model.specs.Requests.{Request, new, move, call, answer}
use Rattle.spec_model.proofs.Rules.{first, second}
use Rattle.spec_model.specs.Coded.{by_code}
use Rattle.spec_sheet.specs.Lines.{bytes, starts, same}
use Rattle.spec_sheet.specs.Numbers.{Scan, fail, took, number, decimal_in, decimal}
use Rattle.spec_sheet.proofs.Steps.{cond_cases, fail-took, took-value, took-rest, bind_scan-took}
use Rattle.spec_sheet.proofs.Numbers.{number-sound}
use Rattle.spec_sheet.proofs.Lines.{starts-sound}
use Rattle.script_read_request.specs.Asked.{half, positive, negative, integer, operand, operands, max_operands, leftover, request_by, word, request_line}

-- the bytes of a signed decimal
abbrev pub long : ℤ → ℕ
long (pos n) = length (decimal n)
long (negsuc n) = 1 + length (decimal (suc n))

decimal-some : (n : ℕ) → 1 ≤ length (decimal n)
unfolding decimal_in
decimal-some n = go (ltb n 10)
  where
    go : (b : Bool) → 1 ≤ length (cond b ((48 + n) ∷ []) (decimal_in 19 (n / 10) ++ (48 + n % 10) ∷ []))
    go true = omega arith
    go false = let e : length (decimal_in 19 (n / 10) ++ (48 + n % 10) ∷ []) ≡ length (decimal_in 19 (n / 10)) + 1 = length-append (decimal_in 19 (n / 10)) ((48 + n % 10) ∷ []) in omega arith

long-some : (v : ℤ) → 1 ≤ long v
long-some (pos n) = decimal-some n
long-some (negsuc n) = omega arith

number-long : (l : List ℕ) (n : ℕ) (r : List ℕ) → number l ≡ took n r → n ≤ half → length l ≡ length (decimal n) + length r
number-long l n r h b = ap length (number-sound l n r h (omega arith)) ∙ length-append (decimal n) r

integer-long : (l : List ℕ) (v : ℤ) (r : List ℕ) → integer l ≡ took v r → length l ≡ long v + length r
unfolding integer
integer-long [] v r h = absurd (fail-took h)
integer-long (b ∷ bs) v r h = cond_cases (eqb b 45) h
    (λ e k. bind_scan-took (number bs) negative k (λ n q t k. cond_cases (leb 1 n && leb n half) k (λ g k. minus n q t g (took-value k) (took-rest k)) (λ g k. absurd (fail-took k))))
    (λ e k. bind_scan-took (number (b ∷ bs)) positive k (λ n q t k. cond_cases (ltb n half) k (λ g k. plus n q t g (took-value k) (took-rest k)) (λ g k. absurd (fail-took k))))
  where
    plus : (n : ℕ) (q : List ℕ) → number (b ∷ bs) ≡ took n q → ltb n half ≡ true → pos n ≡ v → q ≡ r → length (b ∷ bs) ≡ long v + length r
    plus n q t g e f =
        let u : n < half = ltb-true n half g in
        number-long (b ∷ bs) n q t (omega arith) ∙ ap (λ z. long z + length q) e ∙ ap (λ z. long v + length z) f

    minus : (n : ℕ) (q : List ℕ) → number bs ≡ took n q → (leb 1 n && leb n half) ≡ true → negsuc (n - 1) ≡ v → q ≡ r → length (b ∷ bs) ≡ long v + length r
    minus n q t g e f =
        let u : 1 ≤ n = leb-true 1 n (first (leb 1 n) (leb n half) g) in
        let w : n ≤ half = leb-true n half (second (leb 1 n) (leb n half) g) in
        let i : length bs ≡ length (decimal n) + length q = number-long bs n q t w in
        let s : n ≡ suc (n - 1) = omega arith in
        let d : length (decimal n) ≡ length (decimal (suc (n - 1))) = ap (λ z. length (decimal z)) s in
        let m : suc (length bs) ≡ long (negsuc (n - 1)) + length q = omega arith in
        m ∙ ap (λ z. long z + length q) e ∙ ap (λ z. long v + length z) f

operand-long : (l : List ℕ) (v : ℤ) (r : List ℕ) → operand l ≡ took v r → length l ≡ 1 + long v + length r
unfolding operand
operand-long [] v r h = absurd (fail-took h)
operand-long (b ∷ bs) v r h = cond_cases (eqb b 32) h (λ e k. let i : length bs ≡ long v + length r = integer-long bs v r k in omega arith) (λ e k. absurd (fail-took k))

-- operands, each behind its space
abbrev longs : List ℤ → ℕ
longs [] = 0
longs (v ∷ vs) = 1 + long v + longs vs

longs-some : (vs : List ℤ) → length vs * 2 ≤ longs vs
longs-some [] = omega arith
longs-some (v ∷ vs) = let h = longs-some vs in let k = long-some v in omega arith

third-long : (vs : List ℤ) → length vs ≡ 3 → 5 + long (get_or vs 2 (pos 0)) ≤ longs vs
third-long (a ∷ b ∷ c ∷ []) h = let i = long-some a in let j = long-some b in omega arith
third-long [] h = absurd (omega arith)
third-long (a ∷ []) h = absurd (omega arith)
third-long (a ∷ b ∷ []) h = absurd (omega arith)
third-long (a ∷ b ∷ c ∷ d ∷ vs) h = absurd (omega arith)

abbrev Told : List ℤ → List ℕ → List ℤ × List ℕ → Type 0
Told acc l x = (vs : List ℤ) × (x.0 ≡ acc ++ vs) × (length l ≡ longs vs + length x.1)

operands-long : (n : ℕ) (acc : List ℤ) (l : List ℕ) → Told acc l (operands n acc l)
unfolding operands
operands-long zero acc l = ([], sym (append-nil acc), omega arith)
operands-long (suc n) acc l = go (λ acc l. operands-long n acc l) (operand l) refl
  where
    go : ((acc : List ℤ) (l : List ℕ) → Told acc l (operands n acc l)) → (s : Scan ℤ) → operand l ≡ s →
        Told acc l (elim s [ fail ↦ (acc, l) | took v r ↦ operands n (acc ++ v ∷ []) r ])
    go ih fail e = ([], sym (append-nil acc), omega arith)
    go ih (took v r) e =
        let i = ih (acc ++ v ∷ []) r in
        let h : length l ≡ 1 + long v + length r = operand-long l v r e in
        let k : length r ≡ longs i.0 + length (operands n (acc ++ v ∷ []) r).1 = i.2 in
        (v ∷ i.0, i.1 ∙ append_assoc acc (v ∷ []) i.0, omega arith)

-- The bytes that a line has at least, by what it asks for.
abbrev pub at_least : Option Request → ℕ
at_least none = 0
at_least (some (new a b c)) = 12
at_least (some (move a b c d)) = 12
at_least (some (call a b c vs)) = 12
at_least (some (answer a b none)) = 12
at_least (some (answer a b (some v))) = 14 + long v

code-long : (k : ℕ) (ws : List ℤ) → at_least (by_code k ws) ≤ length (word k) + (longs ws + length (leftover k ws))
code-long zero ws = go (eqb (length ws) 3) refl
  where
    go : (b : Bool) → eqb (length ws) 3 ≡ b → at_least (cond b (some (new (get_or ws 0 (pos 0)) (get_or ws 1 (pos 0)) (get_or ws 2 (pos 0)))) none) ≤ 6 + (longs ws + 0)
    go true e = let n : length ws ≡ 3 = eqb-true (length ws) 3 e in let h = longs-some ws in omega arith
    go false e = omega arith
code-long (suc zero) ws = go (eqb (length ws) 4) refl
  where
    go : (b : Bool) → eqb (length ws) 4 ≡ b → at_least (cond b (some (move (get_or ws 0 (pos 0)) (get_or ws 1 (pos 0)) (get_or ws 2 (pos 0)) (get_or ws 3 (pos 0)))) none) ≤ 7 + (longs ws + 0)
    go true e = let n : length ws ≡ 4 = eqb-true (length ws) 4 e in let h = longs-some ws in omega arith
    go false e = omega arith
code-long (suc (suc zero)) ws = go (leb 3 (length ws)) refl
  where
    go : (b : Bool) → leb 3 (length ws) ≡ b → at_least (cond b (some (call (get_or ws 0 (pos 0)) (get_or ws 1 (pos 0)) (get_or ws 2 (pos 0)) (drop 3 ws))) none) ≤ 7 + (longs ws + 0)
    go true e = let n : 3 ≤ length ws = leb-true 3 (length ws) e in let h = longs-some ws in omega arith
    go false e = omega arith
code-long (suc (suc (suc zero))) ws = go (eqb (length ws) 2) refl (eqb (length ws) 3) refl
  where
    go : (a : Bool) → eqb (length ws) 2 ≡ a → (b : Bool) → eqb (length ws) 3 ≡ b →
        at_least (cond a (some (answer (get_or ws 0 (pos 0)) (get_or ws 1 (pos 0)) none)) (cond b (some (answer (get_or ws 0 (pos 0)) (get_or ws 1 (pos 0)) (some (get_or ws 2 (pos 0))))) none))
        ≤ 9 + (longs ws + length (cond a (bytes " -") []))
    go true e b f = let n : length ws ≡ 2 = eqb-true (length ws) 2 e in let h = longs-some ws in omega arith
    go false e true f = let h = third-long ws (eqb-true (length ws) 3 f) in omega arith
    go false e false f = omega arith
code-long (suc (suc (suc (suc k)))) ws = omega arith

by-long : (k : ℕ) (l : List ℕ) → at_least (request_by k l) ≤ length (word k) + length l
by-long k l = go (operands max_operands [] l) (operands-long max_operands [] l)
  where
    go : (x : List ℤ × List ℕ) → Told [] l x → at_least (cond (same (leftover k x.0) x.1) (by_code k x.0) none) ≤ length (word k) + length l
    go (ws, r) (vs, e, h) = step (same (leftover k ws) r) refl
      where
        step : (b : Bool) → same (leftover k ws) r ≡ b → at_least (cond b (by_code k ws) none) ≤ length (word k) + length l
        step true s =
            let n : length r ≡ length (leftover k ws) = eqb-true (length r) (length (leftover k ws)) (second (starts (leftover k ws) r) _ s) in
            let q : longs ws ≡ longs vs = ap longs e in
            let c = code-long k ws in
            omega arith
        step false s = omega arith

-- a line by its word
word-long : (k : ℕ) (l : List ℕ) → starts (word k) l ≡ true → at_least (request_by k (drop (length (word k)) l)) ≤ length l
word-long k l s =
    let e : length l ≡ length (word k) + length (drop (length (word k)) l) = ap length (starts-sound (word k) l s) ∙ length-append (word k) (drop (length (word k)) l) in
    let h = by-long k (drop (length (word k)) l) in
    omega arith

one_of : (b : Bool) (x y : Option Request) (n : ℕ) → (b ≡ true → at_least x ≤ n) → (b ≡ false → at_least y ≤ n) → at_least (cond b x y) ≤ n
one_of true x y n p q = p refl
one_of false x y n p q = q refl

pub line-least : (l : List ℕ) → at_least (request_line l) ≤ length l
unfolding request_line
line-least l =
    one_of (starts (word 0) l) _ _ (length l) (word-long 0 l)
    (λ a. one_of (starts (word 1) l) _ _ (length l) (word-long 1 l)
    (λ b. one_of (starts (word 2) l) _ _ (length l) (word-long 2 l)
    (λ c. one_of (starts (word 3) l) _ _ (length l) (word-long 3 l) (λ d. omega arith))))

some-least : (q : Request) → 12 ≤ at_least (some q)
some-least (new a b c) = omega arith
some-least (move a b c d) = omega arith
some-least (call a b c vs) = omega arith
some-least (answer a b none) = omega arith
some-least (answer a b (some v)) = omega arith

-- For callers: every request, and an answer that gives a value.
pub line-long : (l : List ℕ) (q : Request) → request_line l ≡ some q → 12 ≤ length l
line-long l q e =
    let h : at_least (some q) ≤ length l = subst (λ z. at_least z ≤ length l) e (line-least l) in
    let k = some-least q in
    omega arith

pub line-given : (l : List ℕ) (a b v : ℤ) → request_line l ≡ some (answer a b (some v)) → 14 + long v ≤ length l
line-given l a b v e = subst (λ z. at_least z ≤ length l) e (line-least l)
