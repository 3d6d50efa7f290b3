-- A line of times, read from the left: what is read so far, and that the line is what comes of it and of the rest.
use mathlib.Core.Path.{◌≡◌, refl, ap, sym, ◌∙◌, subst}
use mathlib.Core.Bool.{Bool, true, false, cond}
use mathlib.Core.List.{List, [], ◌∷◌, ◌++◌}
use Prim.Native.Nat.{ℕ, zero, suc, ◌+◌, ◌-◌, ◌*◌, ◌≤◌, ◌<◌}
use native.Mathlib.Omega.{arith}
use native.Mathlib.Numerals.{add-one}
use lib.Dec.{eqb}
use lib.ListN.{length, take, drop, get_or, set, length-drop, length-append, length-set}
use lib.Seq.{take-suc-set}
use borrow.Author.Tests.{eq-eqb, ne_eqb}
use Rattle.spec_model.specs.Basics.{refuse, ok}
use Rattle.spec_model.specs.Refusals.{form}
use Rattle.spec_sheet.specs.Numbers.{Scan, fail, took, whole, is_digit, limit, digits, number}
use Rattle.spec_doors.specs.Times.{max_times}
use Rattle.spec_doors.specs.Input.{space, decimals, times_line}
use Rattle.text_read.proofs.Laws.{at-end, from-here}
use Rattle.doors_read.specs.View.{Stored, Gives}

-- ---- A number takes a byte at least.
abbrev Fewer : ℕ → Scan ℕ → Type 0
Fewer n fail = Unit {0}
Fewer n (took x r) = length r < n

fewer-more : (n : ℕ) (s : Scan ℕ) → Fewer n s → Fewer (suc n) s
fewer-more n fail h = tt
fewer-more n (took x r) h = omega arith

digits-fewer : (a : ℕ) (l : List ℕ) → Fewer (suc (length l)) (digits a l)
unfolding digits
digits-fewer a [] = omega arith
digits-fewer a (b ∷ bs) = let n = limit (a * 10 + (b - 48)) in go (is_digit b) (digits n bs) (digits-fewer n bs)
  where
    go : (t : Bool) (s : Scan ℕ) → Fewer (suc (length bs)) s → Fewer (suc (suc (length bs))) (cond t s (took a (b ∷ bs)))
    go true s h = fewer-more (suc (length bs)) s h
    go false s h = omega arith

number-fewer : (l : List ℕ) → Fewer (length l) (number l)
unfolding number
number-fewer [] = tt
number-fewer (b ∷ bs) = go (eqb b 48) (is_digit b)
  where
    go : (s t : Bool) → Fewer (suc (length bs)) (cond s (took 0 bs) (cond t (digits (b - 48) bs) fail))
    go true t = omega arith
    go false true = digits-fewer (b - 48) bs
    go false false = tt

-- ---- A store.
module _ (old : List ℕ) (i x : ℕ) (new : List ℕ) (k : new ≡ set old i x) (size : length old ≡ max_times) where
  pub same_size : length new ≡ max_times
  same_size = ap length k ∙ length-set old i x ∙ size

  one_more : i < max_times → take (i + 1) new ≡ take i old ++ x ∷ []
  one_more h = ap (take (i + 1)) k ∙ rw (add-one i) (take-suc-set old i x (omega arith))

-- ---- Where the loop stands: n times are read, and the rest begins at `at`.
pub record Begun (l items : List ℕ) (at n : ℕ) : Type 0 where
  pub inside : at ≤ length l
  pub few : n ≤ at
  pub size : length items ≡ max_times
  pub times : List ℕ
  pub stored : Stored times items n
  pub left : ℕ
  pub enough : length l ≤ at + left
  pub rest : times_line l ≡ whole (decimals left times (drop at l))

-- a number stands at `at`, and the line goes on at `next`
pub record Scanned (l : List ℕ) (at x next : ℕ) : Type 0 where
  pub is : took x (drop next l) ≡ number (drop at l)
  pub inside : next ≤ length l

none-stored : (items : List ℕ) → Stored [] items 0
none-stored items = record { count = refl; there = λ h. refl }

pub empty-line : (l items : List ℕ) → length l ≡ 0 → Gives (times_line l) ok items 0
unfolding times_line
empty-line [] items h = record { times = []; is = refl; stored = none-stored items }
empty-line (b ∷ bs) items h = absurd (omega arith)

pub begin : (l items : List ℕ) → (length l ≡ 0 → ⊥) → length items ≡ max_times → Begun l items 0 0
unfolding times_line
begin [] items h s = absurd (h refl)
begin (b ∷ bs) items h s = record {
  inside = omega arith;
  few = omega arith;
  size = s;
  times = [];
  stored = none-stored items;
  left = length (b ∷ bs);
  enough = omega arith;
  rest = refl;
}

module _ (l items : List ℕ) (at n : ℕ) (p : Begun l items at n) where
  pub no_number : fail ≡ number (drop at l) → times_line l ≡ refuse form
  unfolding decimals
  no_number e = p.rest ∙ go p.left
    where
      go : (f : ℕ) → whole (decimals f p.times (drop at l)) ≡ refuse form
      go zero = refl
      go (suc f) = rw (← e)

  module _ (x next : ℕ) (q : Scanned l at x next) where
    pub onward : at < next
    onward = let h : length (drop next l) < length (drop at l) = subst (Fewer (length (drop at l))) (sym q.is) (number-fewer (drop at l)) in
        omega (arith, q.inside, length-drop next l, length-drop at l)

    -- the times with this one
    abbrev all : List ℕ
    all = p.times ++ x ∷ []

    behind : times_line l ≡ whole (space all (λ r. decimals (p.left - 1) all r) (drop next l))
    unfolding decimals
    behind = p.rest ∙ go p.left (omega (arith, onward, q.inside, p.enough))
      where
        go : (f : ℕ) → 0 < f → whole (decimals f p.times (drop at l)) ≡ whole (space all (λ r. decimals (f - 1) all r) (drop next l))
        go zero h = absurd (omega arith)
        go (suc f) h = let e : suc f - 1 ≡ f = omega arith in rw (← q.is, e)

    here : next < length l → times_line l ≡ whole (cond (eqb (get_or l next 0) 32) (decimals (p.left - 1) all (drop (next + 1) l)) fail)
    here h = behind ∙ ap (λ r. whole (space all (λ z. decimals (p.left - 1) all z) r)) (from-here l next h)

    pub no-space : next < length l → (get_or l next 0 ≡ 32 → ⊥) → times_line l ≡ refuse form
    no-space h f = here h ∙ rw (ne_eqb (get_or l next 0) 32 f)

    -- the number is stored
    module _ (new : List ℕ) (k : new ≡ set items n x) where
      more : Stored all new (n + 1)
      more = record {
        count = simp length-append (omega (arith, p.stored.count));
        there = λ h. one_more items n x new k p.size (omega arith) ∙ ap (λ ys. ys ++ x ∷ []) (p.stored.there (omega arith));
      }

      pub last : next ≡ length l → Gives (times_line l) ok new (n + 1)
      last e = record { times = all; is = behind ∙ ap (λ r. whole (space all (λ z. decimals (p.left - 1) all z) r)) (at-end l next (omega arith)); stored = more }

      pub again : next < length l → get_or l next 0 ≡ 32 → Begun l new (next + 1) (n + 1)
      again h f = record {
        inside = omega arith;
        few = omega (arith, p.few, onward);
        size = same_size items n x new k p.size;
        times = all;
        stored = more;
        left = p.left - 1;
        enough = omega (arith, p.enough, onward);
        rest = here h ∙ rw (eq-eqb (get_or l next 0) 32 f);
      }
