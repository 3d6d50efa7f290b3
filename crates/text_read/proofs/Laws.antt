-- Laws over plain values: what a byte more means for a word, a decimal and a list of numbers, and what a line that is read means. The proofs of the functions cite them.
use Rattle.std.specs.Prelude.{Option, Some, None, Result, Ok, Err, IfSome}
use mathlib.Core.Path.{◌≡◌, refl, sym, ap, ◌∙◌, subst}
use mathlib.Core.Bool.{Bool, true, false, ◌&&◌, cond}
use mathlib.Core.List.{List, [], ◌∷◌, ◌++◌}
use Prim.Native.Nat.{ℕ, suc, ◌+◌, ◌-◌, ◌*◌, ◌≤◌, ◌<◌}
use native.Mathlib.Omega.{arith}
use native.Mathlib.Numerals.{add-one}
use lib.Dec.{eqb, leb, eqb-suc-suc}
use lib.ListN.{length, get_or, set, take, drop, drop_of_length-le, length-append}
use lib.Seq.{take-suc-set, get_or-set_other}
use lib.Pointwise.{pointwise}
use borrow.Author.Tests.{le-leb, lt-leb, eq-eqb, ne_eqb}
use Rattle.spec_model.specs.Basics.{Res, refuse, ok, try, need}
use Rattle.spec_model.specs.Table.{between}
use Rattle.spec_model.specs.Refusals.{form, out_of_range}
use Rattle.spec_sheet.specs.Lines.{Row, row, cut, split, refused, got, line, line_at, first_line, starts, same, keyed}
use Rattle.spec_sheet.specs.Numbers.{Scan, fail, took, bind_scan, whole, is_digit, top, limit, digits, number, comma, numbers}
use Rattle.spec_sheet.specs.Sheet.{number_line}
use Rattle.spec_sheet.proofs.Steps.{refuse-ok}
use Rattle.spec_sheet.proofs.Lines.{starts-sound}
use Rattle.base_numbers.specs.Refusal.{number_of, res_by}
use Rattle.base_numbers.specs.declared.refusal.Refusal.{Refusal}
use Rattle.text_read.specs.View.{scan_by, scan_numbers, ScanWithin, reading_by, placed_by, items_of, numbers_of, RestEmpty, NumbersWithin, max_numbers}
use Rattle.text_read.specs.declared.Numbers.{Numbers}
use Rattle.text_read.specs.declared.Malformed.{Malformed}
use Rattle.text_cursor.specs.declared.Cursor.{Cursor}
use Rattle.text_cursor.specs.View.{LineAt, past}
use Rattle.text_cursor.proofs.Laws.{past-rest}
pub use Rattle.text_cursor.proofs.Laws.{from-here}

-- Past the end nothing is left.
pub at-end : (l : List ℕ) (i : ℕ) → length l ≤ i → drop i l ≡ []
at-end l i h = drop_of_length-le l {i = i} h

-- Words: the library's tests are the definitions.
pub starts-with : (k l : List ℕ) → pointwise eqb k (take (length k) l) ≡ starts k l
unfolding starts
starts-with [] l = refl
starts-with (a ∷ k) [] = refl
starts-with (a ∷ k) (b ∷ l) = ap (λ z. eqb a b && z) (starts-with k l)

pub same-whole : (k l : List ℕ) → pointwise eqb k l ≡ same k l
unfolding starts
same-whole [] [] = refl
same-whole [] (b ∷ l) = sym (ne_eqb (length (b ∷ l)) 0 (λ e. let f : suc (length l) ≡ 0 = e in absurd (omega arith)))
same-whole (a ∷ k) [] = refl
same-whole (a ∷ k) (b ∷ l) =
    ap (λ z. eqb a b && z) (same-whole k l) ∙ and-assoc (eqb a b) (starts k l) (eqb (length l) (length k)) ∙ ap (λ z. starts (a ∷ k) (b ∷ l) && z) (sym (eqb-suc-suc (length l) (length k)))
  where
    and-assoc : (x y z : Bool) → x && (y && z) ≡ (x && y) && z
    and-assoc true y z = refl
    and-assoc false y z = refl

pub starts-length : (k l : List ℕ) → starts k l ≡ true → length k ≤ length l
starts-length k l h = let e : length l ≡ length k + length (drop (length k) l) = ap length (starts-sound k l h) ∙ length-append k (drop (length k) l) in omega arith

-- Digits: b is the byte at i
module _ (l : List ℕ) (i n b : ℕ) (h : i < length l) (e : b ≡ get_or l i 0) where
  digits-here : digits n (drop i l) ≡ cond (is_digit b) (digits (limit (n * 10 + (b - 48))) (drop (i + 1) l)) (took n (drop i l))
  unfolding digits
  digits-here =
      let d : drop i l ≡ b ∷ drop (i + 1) l = from-here l i h ∙ ap (λ z. z ∷ drop (i + 1) l) (sym e) in
      ap (digits n) d ∙ ap (λ z. cond (is_digit b) (digits (limit (n * 10 + (b - 48))) (drop (i + 1) l)) (took n z)) (sym d)

  pub digits-stop : is_digit b ≡ false → took n (drop i l) ≡ digits n (drop i l)
  digits-stop d = sym (digits-here ∙ ap (λ z. cond z (digits (limit (n * 10 + (b - 48))) (drop (i + 1) l)) (took n (drop i l))) d)

  pub digits_more : (r : ℕ) → is_digit b ≡ true → r ≡ limit (n * 10 + (b - 48)) → digits r (drop (i + 1) l) ≡ digits n (drop i l)
  digits_more r d q =
      ap (λ z. digits z (drop (i + 1) l)) q
      ∙ sym (digits-here ∙ ap (λ z. cond z (digits (limit (n * 10 + (b - 48))) (drop (i + 1) l)) (took n (drop i l))) d)

pub digits-end : (l : List ℕ) (i n : ℕ) → length l ≤ i → took n (drop i l) ≡ digits n (drop i l)
unfolding digits
digits-end l i n h = let e : drop i l ≡ [] = at-end l i h in ap (took n) e ∙ ap (digits n) (sym e)

-- One number.
pub number-none : (l : List ℕ) (at : ℕ) → at ≡ length l → fail ≡ number (drop at l)
unfolding number
number-none l at h = sym (ap number (at-end l at (omega arith)))

module _ (l : List ℕ) (at b : ℕ) (h : at < length l) (e : b ≡ get_or l at 0) where
  number-here : number (drop at l) ≡ cond (eqb b 48) (took 0 (drop (at + 1) l)) (cond (is_digit b) (digits (b - 48) (drop (at + 1) l)) fail)
  unfolding number
  number-here = ap number (from-here l at h) ∙ ap (λ z. cond (eqb z 48) (took 0 (drop (at + 1) l)) (cond (is_digit z) (digits (z - 48) (drop (at + 1) l)) fail)) (sym e)

  pub number-zero : b ≡ 48 → took 0 (drop (at + 1) l) ≡ number (drop at l)
  number-zero q = sym (number-here ∙ ap (λ z. cond z (took 0 (drop (at + 1) l)) (cond (is_digit b) (digits (b - 48) (drop (at + 1) l)) fail)) (eq-eqb b 48 q))

  other : (b ≡ 48 → ⊥) → number (drop at l) ≡ cond (is_digit b) (digits (b - 48) (drop (at + 1) l)) fail
  other q = number-here ∙ ap (λ z. cond z (took 0 (drop (at + 1) l)) (cond (is_digit b) (digits (b - 48) (drop (at + 1) l)) fail)) (ne_eqb b 48 q)

  pub number-other : (b ≡ 48 → ⊥) → is_digit b ≡ false → fail ≡ number (drop at l)
  number-other q d = sym (other q ∙ ap (λ z. cond z (digits (b - 48) (drop (at + 1) l)) fail) d)

  pub number_more : (b ≡ 48 → ⊥) → is_digit b ≡ true → digits (b - 48) (drop (at + 1) l) ≡ number (drop at l)
  number_more q d = sym (other q ∙ ap (λ z. cond z (digits (b - 48) (drop (at + 1) l)) fail) d)

-- A number scanned, by its case.
module _ {A : Type 0} (f : ℕ → A) (l : List ℕ) (t : Option (ℕ × ℕ)) (S : Scan A) (is : scan_by f l t ≡ S) where
  pub scan-wrong : t ≡ None → fail ≡ S
  scan-wrong e = ap (scan_by f l) (sym e) ∙ is

  pub scan-right : (p : ℕ × ℕ) → t ≡ Some p → took (f p.0) (drop p.1 l) ≡ S
  scan-right p e = ap (scan_by f l) (sym e) ∙ is

pub right-within : (size : ℕ) (t : Option (ℕ × ℕ)) (p : ℕ × ℕ) → t ≡ Some p → ScanWithin size t → (p.1 ≤ size) × (p.0 ≤ top)
right-within size t p e h = subst (ScanWithin size) e h

-- Several numbers scanned, by their case.
module _ (l : List ℕ) (t : Option Numbers) (S : Scan (List ℕ)) (is : scan_numbers l t ≡ S) where
  pub numbers-wrong : t ≡ None → fail ≡ S
  numbers-wrong e = ap (scan_numbers l) (sym e) ∙ is

  pub numbers-right : (x : Numbers) → t ≡ Some x → took (numbers_of x) (drop x.next l) ≡ S
  numbers-right x e = ap (scan_numbers l) (sym e) ∙ is

pub numbers-within : (size max : ℕ) (t : Option Numbers) (x : Numbers) → t ≡ Some x → IfSome t (NumbersWithin size max) → NumbersWithin size max x
numbers-within size max t x e h = subst (λ z. IfSome z (NumbersWithin size max)) e h

-- Several numbers: `count` of them are read, xs, and the rest begins at i.
module _ (l xs : List ℕ) (max count i : ℕ) (R : Scan (List ℕ)) (inv : numbers (max - count) xs (drop i l) ≡ R) where
  pub numbers-many : max ≤ count → fail ≡ R
  unfolding numbers
  numbers-many h = let e : max - count ≡ 0 = omega arith in ap (λ z. numbers z xs (drop i l)) (sym e) ∙ inv

  module _ (h : count < max) where
    numbers-step : bind_scan (number (drop i l)) (λ a r. comma (xs ++ a ∷ []) (λ q. numbers (max - (count + 1)) (xs ++ a ∷ []) q) r) ≡ R
    unfolding numbers
    numbers-step = let e : max - count ≡ suc (max - (count + 1)) = omega arith in ap (λ z. numbers z xs (drop i l)) (sym e) ∙ inv

    pub numbers-fail : fail ≡ number (drop i l) → fail ≡ R
    numbers-fail q = ap (λ z. bind_scan z (λ a r. comma (xs ++ a ∷ []) (λ q. numbers (max - (count + 1)) (xs ++ a ∷ []) q) r)) q ∙ numbers-step

    -- with one more they are ys
    module _ (ys : List ℕ) (n e : ℕ) (kept : ys ≡ xs ++ n ∷ []) (q : took n (drop e l) ≡ number (drop i l)) where
      after : comma ys (λ q. numbers (max - (count + 1)) ys q) (drop e l) ≡ R
      after =
          ap (λ z. comma z (λ q. numbers (max - (count + 1)) z q) (drop e l)) kept
          ∙ ap (λ z. bind_scan z (λ a r. comma (xs ++ a ∷ []) (λ q. numbers (max - (count + 1)) (xs ++ a ∷ []) q) r)) q ∙ numbers-step

      pub numbers-end : e ≡ length l → took ys (drop e l) ≡ R
      numbers-end b = let d : drop e l ≡ [] = at-end l e (omega arith) in ap (took ys) d ∙ ap (comma ys (λ q. numbers (max - (count + 1)) ys q)) (sym d) ∙ after

      byte : e < length l → cond (eqb (get_or l e 0) 44) (numbers (max - (count + 1)) ys (drop (e + 1) l)) (took ys (get_or l e 0 ∷ drop (e + 1) l)) ≡ R
      byte b = ap (comma ys (λ q. numbers (max - (count + 1)) ys q)) (sym (from-here l e b)) ∙ after

      pub numbers-other : e < length l → (get_or l e 0 ≡ 44 → ⊥) → took ys (drop e l) ≡ R
      numbers-other b w =
          ap (took ys) (from-here l e b)
          ∙ ap (λ z. cond z (numbers (max - (count + 1)) ys (drop (e + 1) l)) (took ys (get_or l e 0 ∷ drop (e + 1) l))) (sym (ne_eqb (get_or l e 0) 44 w)) ∙ byte b

      pub numbers-comma : e < length l → get_or l e 0 ≡ 44 → numbers (max - (count + 1)) ys (drop (e + 1) l) ≡ R
      numbers-comma b w = ap (λ z. cond z (numbers (max - (count + 1)) ys (drop (e + 1) l)) (took ys (get_or l e 0 ∷ drop (e + 1) l))) (sym (eq-eqb (get_or l e 0) 44 w)) ∙ byte b

-- One number more of those that there is room for: it stands behind the others, and what is not there is 0 as before.
module _ (t r : Numbers) (n : ℕ) (few : t.count < max_numbers) (items : items_of r ≡ set (items_of t) t.count n) (count : r.count ≡ t.count + 1) where
  pub more_numbers : numbers_of r ≡ numbers_of t ++ n ∷ []
  more_numbers = ap (λ z. take z (items_of r)) (count ∙ add-one t.count) ∙ ap (take (suc t.count)) items ∙ take-suc-set (items_of t) t.count n few

  pub more-empty : RestEmpty t → RestEmpty r
  more-empty h k e =
      ap (λ z. get_or z k 0) items ∙ get_or-set_other (items_of t) t.count k n 0 (λ q. let s : k ≡ t.count = q in omega arith) ∙ h k (omega arith)

-- A line of a key and a number.
module _ (key l : List ℕ) (low high : ℕ) where
  ranged : ℕ → Res ℕ
  ranged n = need (between low high n) out_of_range λ _. ok n

  after-key : Bool → Res ℕ
  after-key b = try (need b form λ _. ok (drop (length key) l)) λ r. try (whole (number r)) ranged

  line_of : after-key (starts key l) ≡ number_line key low high l
  unfolding number_line keyed after-key ranged
  line_of = refl

  pub number-key : starts key l ≡ false → refuse form ≡ number_line key low high l
  unfolding after-key
  number-key e = ap after-key (sym e) ∙ line_of

  module _ (h : starts key l ≡ true) where
    behind-key : try (whole (number (drop (length key) l))) ranged ≡ number_line key low high l
    unfolding after-key
    behind-key = ap after-key (sym h) ∙ line_of

    pub number-wrong : fail ≡ number (drop (length key) l) → refuse form ≡ number_line key low high l
    number-wrong e = ap (λ z. try (whole z) ranged) e ∙ behind-key

    module _ (n e : ℕ) (q : took n (drop e l) ≡ number (drop (length key) l)) where
      taken : try (whole (took n (drop e l))) ranged ≡ number_line key low high l
      taken = ap (λ z. try (whole z) ranged) q ∙ behind-key

      pub number_behind : e < length l → refuse form ≡ number_line key low high l
      number_behind k = ap (λ z. try (whole (took n z)) ranged) (sym (from-here l e k)) ∙ taken

      alone : length l ≤ e → ranged n ≡ number_line key low high l
      alone k = ap (λ z. try (whole (took n z)) ranged) (sym (at-end l e k)) ∙ taken

      pub number-below : length l ≤ e → n < low → refuse out_of_range ≡ number_line key low high l
      unfolding ranged
      number-below k j = ap (λ z. need (z && leb n high) out_of_range λ _. ok n) (sym (lt-leb low n j)) ∙ alone k

      pub number-above : length l ≤ e → low ≤ n → high < n → refuse out_of_range ≡ number_line key low high l
      unfolding ranged
      number-above k i j = ap (λ z. need z out_of_range λ _. ok n) (sym (lt-leb n high j)) ∙ ap (λ z. need (z && leb n high) out_of_range λ _. ok n) (sym (le-leb low n i)) ∙ alone k

      pub number-good : length l ≤ e → low ≤ n → n ≤ high → ok n ≡ number_line key low high l
      unfolding ranged
      number-good k i j = ap (λ z. need z out_of_range λ _. ok n) (sym (le-leb n high j)) ∙ ap (λ z. need (z && leb n high) out_of_range λ _. ok n) (sym (le-leb low n i)) ∙ alone k

-- The one law of reading a line: what f gives of the line at `at` is the reading there, for every f that refuses an empty line with 1. `next` is where the cursor is behind it.
module _ {A : Type 0} (f : List ℕ → Res A) (empty : f [] ≡ refuse form) (s : List ℕ) (at next : ℕ) (p : next ≡ past at (split (drop at s))) (l : List ℕ) (h : LineAt s at l) where
  by_first : (rs : List Row) → l ≡ first_line rs → (k : ℕ) → refuse k ≡ f l → refused k at ≡ line f at rs
  by_first [] e k q = ap (λ z. line_at z at [] []) (q ∙ ap f e ∙ empty)
  by_first (cut m ∷ rs) e k q = ap (λ z. line_at z at [] []) (q ∙ ap f e ∙ empty)
  by_first (row m ∷ rs) e k q = ap (λ z. line_at z at m rs) (q ∙ ap f e)

  pub line_refused : (k : ℕ) → refuse k ≡ f l → refused k at ≡ line f at (split (drop at s))
  line_refused k q = by_first (split (drop at s)) h.is k q

  no_line : {C : Type 0} (x : A) → ok x ≡ f l → l ≡ [] → C
  no_line x q e = refuse-ok (sym empty ∙ ap f (sym e) ∙ sym q)

  pub line-accepted : (x : A) → ok x ≡ f l → got x next (split (drop next s)) ≡ line f at (split (drop at s))
  line-accepted x q = go (split (drop at s)) refl
    where
      go : (rs : List Row) → split (drop at s) ≡ rs → got x next (split (drop next s)) ≡ line f at rs
      go [] e = no_line x q (h.is ∙ ap first_line e)
      go (cut m ∷ rs) e = no_line x q (h.is ∙ ap first_line e)
      go (row m ∷ rs) e =
          ap (λ (z : List Row). got x next z) (past-rest s at next p m rs e) ∙ ap (λ (z : ℕ). got x z rs) (p ∙ ap (past at) e)
          ∙ ap (λ z. line_at z at m rs) (q ∙ ap f (h.is ∙ ap first_line e))

-- and as the cursor goes past it; g says what the value means
module _ {T A : Type 0} (g : T → A) (f : List ℕ → Res A) (empty : f [] ≡ refuse form) (s : List ℕ) (c d : Cursor)
    (p : d.at ≡ past c.at (split (drop c.at s))) (l : List ℕ) (h : LineAt s c.at l) where
  pub line_read : (v : Result T Refusal) (r : Result (T × Cursor) Malformed) → res_by g v ≡ f l → r ≡ placed_by v c d
      → reading_by g s r ≡ line f c.at (split (drop c.at s))
  line_read (Err e) r q w = ap (reading_by g s) w ∙ line_refused f empty s c.at d.at p l h (number_of e) q
  line_read (Ok x) r q w = ap (reading_by g s) w ∙ line-accepted f empty s c.at d.at p l h (g x) q

pub number-empty : (key : List ℕ) (low high : ℕ) → number_line key low high [] ≡ refuse form
unfolding number_line keyed starts number
number-empty [] low high = refl
number-empty (b ∷ key) low high = refl
