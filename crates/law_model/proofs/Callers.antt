-- How many calls each subject made: what `made_by` says of a list of calls, and why 32 for each of n subjects are no more than 512 for all of them.
use mathlib.Core.Path.{◌≡◌, refl, ap, sym, subst, ◌∙◌}
use mathlib.Core.Bool.{Bool, true, false, So, cond}
use mathlib.Core.List.{List, [], ◌∷◌, ◌++◌}
use Prim.Native.Nat.{ℕ, zero, suc, ◌+◌, ◌*◌, ◌≤◌, ◌<◌}
use native.Mathlib.Nat.{not-suc-le-zero}
use native.Mathlib.Omega.{arith}
use native.Mathlib.Decide.{dec_lt, ℕ_discrete}
use lib.Dec.{eqb, leb}
use lib.ListN.{length, get_or, set, length-append, length-set, get_or-append}
use lib.Seq.{get_or_at, get_or-set_same, get_or-set_other}
use Rattle.spec_model.specs.Basics.{from}
use Rattle.spec_model.specs.Table.{max_subjects}
use Rattle.spec_model.specs.Requests.{Call, no_call, flagged, max_calls_each, max_calls, made_by}
use Rattle.spec_model.specs.Check.{callers_fit}
use Rattle.spec_model.proofs.Tests.{eqb-so, eqb_no, leb-so, so-leb}
use Rattle.spec_model.proofs.Lists.{length_from, from_first, all_from}
use Rattle.law_model.proofs.Fitting.{all-at}

-- ---- one more call counts one for its caller and nothing for anybody else
abbrev pub bumped : Bool → ℕ → ℕ
bumped b n = cond b (suc n) n

pub bumped-plus : (b : Bool) (x y n : ℕ) → n ≡ x + y → bumped b n ≡ bumped b x + y
bumped-plus true x y n e = omega arith
bumped-plus false x y n e = e

pub made-append : (k : ℕ) (xs ys : List Call) → made_by k (xs ++ ys) ≡ made_by k xs + made_by k ys
made-append k [] ys = omega arith
made-append k (c ∷ xs) ys = bumped-plus (eqb k c.caller) (made_by k xs) (made_by k ys) (made_by k (xs ++ ys)) (made-append k xs ys)

-- a call that is answered stays its caller's
pub made-answered : (k : ℕ) (cs : List Call) (j : ℕ) (b : Bool) → made_by k (set cs j (flagged (get_or cs j no_call) b)) ≡ made_by k cs
made-answered k [] j b = refl
made-answered k (c ∷ cs) zero b = refl
made-answered k (c ∷ cs) (suc j) b = ap (bumped (eqb k c.caller)) (made-answered k cs j b)

-- ---- a sum over the subjects
abbrev total : ℕ → (ℕ → ℕ) → ℕ
total zero f = 0
total (suc n) f = f n + total n f

total-none : (n : ℕ) → total n (λ k. 0) ≡ 0
total-none zero = refl
total-none (suc n) = let e = total-none n in omega (arith, e)

-- one summand more by one
total-past : (n c : ℕ) (f : ℕ → ℕ) → n ≤ c → total n (λ k. bumped (eqb k c) (f k)) ≡ total n f
total-past zero c f l = refl
total-past (suc n) c f l = go (eqb n c) refl (total-past n c f (omega arith))
  where
    go : (b : Bool) → eqb n c ≡ b → total n (λ k. bumped (eqb k c) (f k)) ≡ total n f → bumped b (f n) + total n (λ k. bumped (eqb k c) (f k)) ≡ f n + total n f
    go true e ih = let p : n ≡ c = eqb-so e in absurd (omega arith)
    go false e ih = ap (λ x. f n + x) ih

total-bumped : (n c : ℕ) (f : ℕ → ℕ) → c < n → total n (λ k. bumped (eqb k c) (f k)) ≡ suc (total n f)
total-bumped zero c f l = absurd (not-suc-le-zero l)
total-bumped (suc n) c f l = go (eqb n c) refl (total-bumped n c f)
  where
    go : (b : Bool) → eqb n c ≡ b → (c < n → total n (λ k. bumped (eqb k c) (f k)) ≡ suc (total n f))
        → bumped b (f n) + total n (λ k. bumped (eqb k c) (f k)) ≡ suc (f n + total n f)
    go true e ih = let p : n ≡ c = eqb-so e in let q = total-past n c f (omega arith) in omega (arith, q)
    go false e ih = let p : n ≡ c → ⊥ = eqb_no e in let q = ih (omega (arith, p)) in omega (arith, q)

total-within : (n : ℕ) (f : ℕ → ℕ) → ((k : ℕ) → f k ≤ max_calls_each) → total n f ≤ n * max_calls_each
total-within zero f h = omega arith
total-within (suc n) f h = let a = h n in let b = total-within n f h in omega (arith, a, b)

total-below : (n : ℕ) (f : ℕ → ℕ) → ((k : ℕ) → f k ≤ max_calls_each) → (k : ℕ) → k < n → f k < max_calls_each → total n f < n * max_calls_each
total-below zero f h k l u = absurd (not-suc-le-zero l)
total-below (suc n) f h k l u = go (ℕ_discrete k n) (total-below n f h k)
  where
    go : Dec (k ≡ n) → (k < n → f k < max_calls_each → total n f < n * max_calls_each) → f n + total n f < suc n * max_calls_each
    go (yes e) ih = let a : f n < max_calls_each = subst (λ j. f j < max_calls_each) e u in let b = total-within n f h in omega (arith, a, b)
    go (no e) ih = let a = h n in let b = ih (omega (arith, e)) u in omega (arith, a, b)

-- ---- calls whose callers are among n subjects, none with more than its own count
pub record Calling (n : ℕ) (cs : List Call) : Type 0 where
  pub callers : (j : ℕ) → j < length cs → (get_or cs j no_call).caller < n
  pub few : (k : ℕ) → made_by k cs ≤ max_calls_each

calls-total : (n : ℕ) (cs : List Call) → ((j : ℕ) → j < length cs → (get_or cs j no_call).caller < n) → length cs ≡ total n (λ k. made_by k cs)
calls-total n [] h = sym (total-none n)
calls-total n (c ∷ cs) h = let e = calls-total n cs (λ j l. h (suc j) (omega arith)) in ap suc e ∙ sym (total-bumped n c.caller (λ k. made_by k cs) (h 0 (omega arith)))

pub calls-few : {n : ℕ} {cs : List Call} → Calling n cs → n ≤ max_subjects → length cs ≤ max_calls
calls-few {n} {cs} w l = let e = calls-total n cs w.callers in let b = total-within n (λ k. made_by k cs) w.few in omega (arith, e, b)

pub calls-room : {n : ℕ} {cs : List Call} → Calling n cs → n ≤ max_subjects → (k : ℕ) → k < n → made_by k cs < max_calls_each → length cs < max_calls
calls-room {n} {cs} w l k q u = let e = calls-total n cs w.callers in let b = total-below n (λ j. made_by j cs) w.few k q u in omega (arith, e, b)

pub calling-none : (n : ℕ) → Calling n []
calling-none n = record { callers = λ j l. absurd (not-suc-le-zero l); few = λ k. omega arith }

pub calling-more : {n : ℕ} {cs : List Call} → Calling n cs → (c : Call) → c.caller < n → made_by c.caller cs < max_calls_each → Calling n (cs ++ (c ∷ []))
calling-more {n} {cs} w c l u = record {
  callers = λ j i. at j (dec_lt j (length cs)) (omega (arith, length-append cs (c ∷ [])));
  few = λ k. rw (made-append k cs (c ∷ [])) (own k (eqb k c.caller) refl);
}
  where
    at : (j : ℕ) → Dec (j < length cs) → j < suc (length cs) → (get_or (cs ++ (c ∷ [])) j no_call).caller < n
    at j (yes i) v = rw (get_or-append cs (c ∷ []) no_call j i) (w.callers j i)
    at j (no i) v = rw (get_or_at cs c [] no_call j (omega arith)) l

    own : (k : ℕ) (b : Bool) → eqb k c.caller ≡ b → made_by k cs + cond b 1 0 ≤ max_calls_each
    own k true e = let p : k ≡ c.caller = eqb-so e in let a : made_by k cs < max_calls_each = subst (λ j. made_by j cs < max_calls_each) (sym p) u in omega (arith, a)
    own k false e = let a = w.few k in omega (arith, a)

pub calling-answered : {n : ℕ} {cs : List Call} → Calling n cs → (j : ℕ) (b : Bool) → Calling n (set cs j (flagged (get_or cs j no_call) b))
calling-answered {n} {cs} w j b = record {
  callers = λ i l. at i (ℕ_discrete i j) (omega (arith, length-set cs j (flagged (get_or cs j no_call) b)));
  few = λ k. rw (made-answered k cs j b) (w.few k);
}
  where
    at : (i : ℕ) → Dec (i ≡ j) → i < length cs → (get_or (set cs j (flagged (get_or cs j no_call) b)) i no_call).caller < n
    at i (yes e) l = rw (e, get_or-set_same cs j (flagged (get_or cs j no_call) b) no_call (subst (λ k. k < length cs) e l)) (subst (λ k. (get_or cs k no_call).caller < n) e (w.callers i l))
    at i (no e) l = rw (get_or-set_other cs j i (flagged (get_or cs j no_call) b) no_call e) (w.callers i l)

-- who is not among the subjects made none
made-past : (n : ℕ) (cs : List Call) → ((j : ℕ) → j < length cs → (get_or cs j no_call).caller < n) → (k : ℕ) → n ≤ k → made_by k cs ≡ 0
made-past n [] h k l = refl
made-past n (c ∷ cs) h k l = go (eqb k c.caller) refl (made-past n cs (λ j i. h (suc j) (omega arith)) k l)
  where
    go : (b : Bool) → eqb k c.caller ≡ b → made_by k cs ≡ 0 → bumped b (made_by k cs) ≡ 0
    go true e z = let p : k ≡ c.caller = eqb-so e in let q = h 0 (omega arith) in absurd (omega (arith, p, q))
    go false e z = z

-- H17 asks it of the subjects alone
pub callers-fit : (n : ℕ) (cs : List Call) → ((j : ℕ) → j < length cs → (get_or cs j no_call).caller < n)
    → So (callers_fit n cs) → Calling n cs
callers-fit n cs h e = record { callers = h; few = λ k. go k (dec_lt k n) }
  where
    go : (k : ℕ) → Dec (k < n) → made_by k cs ≤ max_calls_each
    go k (yes l) = leb-so (subst (λ j. So (leb (made_by j cs) max_calls_each)) (from_first (λ j. j) n k 0 l)
        (all-at (λ j. leb (made_by j cs) max_calls_each) 0 (from n 0 (λ j. j)) e k (omega (arith, length_from (λ j. j) n 0))))
    go k (no l) = let z = made-past n cs h k (omega arith) in omega (arith, z)

pub fit-callers : (n : ℕ) (cs : List Call) → Calling n cs → So (callers_fit n cs)
fit-callers n cs w = all_from (λ k. k) (λ k. leb (made_by k cs) max_calls_each) n 0 (λ j l u. so-leb (w.few j))
