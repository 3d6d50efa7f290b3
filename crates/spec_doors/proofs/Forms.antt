-- An input of the program that is refused is refused for its form alone (P28): no number that is read is above the range of the tolerance's line.
use mathlib.Core.Path.{◌≡◌, refl}
use mathlib.Core.Bool.{Bool, true, false, cond}
use mathlib.Core.List.{List, [], ◌∷◌}
use Prim.Native.Nat.{ℕ, ◌+◌, ◌-◌, ◌*◌, ◌≤◌}
use native.Mathlib.Omega.{arith}
use lib.Dec.{eqb}
use lib.ListN.{length, drop}
use Rattle.spec_model.specs.Basics.{Res, refuse, ok, try, need}
use Rattle.spec_model.specs.Refusals.{form, out_of_range}
use Rattle.spec_model.specs.Table.{between}
use Rattle.spec_sheet.specs.Lines.{bytes, Row, row, cut, Reading, refused, got, Reader, line, line_at, follow, end_of_input, starts, keyed}
use Rattle.spec_sheet.specs.Numbers.{Scan, fail, took, whole, is_digit, top, limit, digits, number}
use Rattle.spec_sheet.specs.Sheet.{number_line}
use Rattle.spec_sheet.proofs.LineKinds.{in_between}
use Rattle.spec_sheet.proofs.Numbers.{is_digit-high}
use Rattle.spec_doors.specs.Input.{Input, decimals, times_line, input_lines}

-- ---- A number that is read
abbrev AtMostTop : Scan ℕ → Type 0
AtMostTop fail = Unit {0}
AtMostTop (took n r) = n ≤ top

cond_top : (b : Bool) (x y : Scan ℕ) → AtMostTop x → AtMostTop y → AtMostTop (cond b x y)
cond_top true x y h k = h
cond_top false x y h k = k

digits-top : (a : ℕ) (l : List ℕ) → a ≤ top → AtMostTop (digits a l)
unfolding digits
digits-top a [] h = h
digits-top a (b ∷ bs) h = cond_top (is_digit b) _ _ (digits-top (limit (a * 10 + (b - 48))) bs (omega arith)) h

number-top : (l : List ℕ) → AtMostTop (number l)
unfolding number
number-top [] = tt
number-top (b ∷ bs) = go (eqb b 48) (is_digit b) refl
  where
    go : (z d : Bool) → is_digit b ≡ d → AtMostTop (cond z (took 0 bs) (cond d (digits (b - 48) bs) fail))
    go true d e = omega arith
    go false true e = digits-top (b - 48) bs (omega (arith, is_digit-high b e))
    go false false e = tt

-- ---- A line, and the lines
abbrev OfForm : {A : Type 0} → Res A → Type 0
OfForm (refuse n) = n ≡ form
OfForm (ok x) = Unit {0}

whole-form : {A : Type 0} (s : Scan A) → OfForm (whole s)
whole-form fail = refl
whole-form (took x []) = tt
whole-form (took x (b ∷ r)) = refl

within-form : (l : List ℕ) → OfForm (number_line (bytes "within=") 0 top l)
unfolding number_line keyed
within-form l = go (starts (bytes "within=") l)
  where
    in-range : (n : ℕ) → n ≤ top → OfForm (need (between 0 top n) out_of_range λ _. ok n)
    in-range n h = rw (in_between 0 top n (omega arith) h) tt

    scanned : (s : Scan ℕ) → AtMostTop s → OfForm (try (whole s) λ n. need (between 0 top n) out_of_range λ _. ok n)
    scanned fail h = refl
    scanned (took n []) h = in-range n h
    scanned (took n (b ∷ r)) h = refl

    go : (b : Bool) → OfForm (try (need b form λ _. ok (drop 7 l)) λ r. try (whole (number r)) λ n. need (between 0 top n) out_of_range λ _. ok n)
    go false = refl
    go true = scanned (number (drop 7 l)) (number-top (drop 7 l))

times-form : (l : List ℕ) → OfForm (times_line l)
unfolding times_line
times-form [] = tt
times-form (b ∷ bs) = whole-form (decimals (length (b ∷ bs)) [] (b ∷ bs))

abbrev pub OfForms : {A : Type 0} → Reading A → Type 0
OfForms (refused n at) = n ≡ form
OfForms (got x at rs) = Unit {0}

line-form : {A : Type 0} (f : List ℕ → Res A) → ((l : List ℕ) → OfForm (f l)) → (at : ℕ) (rs : List Row) → OfForms (line f at rs)
line-form f h at [] = refl
line-form f h at (cut l ∷ rs) = refl
line-form {A} f h at (row l ∷ rs) = go (f l) (h l)
  where
    go : (r : Res A) → OfForm r → OfForms (line_at r at l rs)
    go (refuse n) k = k
    go (ok x) k = tt

follow-form : {A B : Type 0} (r : Reading A) (k : A → Reader B) → OfForms r → ((x : A) (at : ℕ) (rs : List Row) → OfForms (k x at rs)) → OfForms (follow r k)
follow-form (refused n at) k h f = h
follow-form (got x at rs) k h f = f x at rs

end-form : (at : ℕ) (rs : List Row) → OfForms (end_of_input at rs)
end-form at [] = tt
end-form at (r ∷ rs) = refl

pub input-form : (at : ℕ) (rs : List Row) → OfForms (input_lines at rs)
unfolding input_lines
input-form at rs = follow-form (line _ at rs) _ (line-form _ within-form at rs) λ w at rs. follow-form (line _ at rs) _ (line-form _ times-form at rs)
    λ ms at rs. follow-form (line _ at rs) _ (line-form _ times-form at rs) λ xs at rs. follow-form (end_of_input at rs) _ (end-form at rs) λ _ at rs. tt

-- ---- What is accepted was read to its end.
abbrev pub Ended : {A : Type 0} → Reading A → Type 0
Ended (refused n at) = Unit {0}
Ended (got x at rs) = rs ≡ []

follow-ended : {A B : Type 0} (r : Reading A) (k : A → Reader B) → ((x : A) (at : ℕ) (rs : List Row) → r ≡ got x at rs → Ended (k x at rs)) → Ended (follow r k)
follow-ended (refused n at) k f = tt
follow-ended (got x at rs) k f = f x at rs refl

nothing-behind : (x : Input) (at : ℕ) (rs : List Row) → Ended (follow (end_of_input at rs) λ _ at rs. got x at rs)
nothing-behind x at [] = refl
nothing-behind x at (r ∷ rs) = tt

pub input-ended : (at : ℕ) (rs : List Row) → Ended (input_lines at rs)
unfolding input_lines
input-ended at rs = follow-ended (line _ at rs) _ λ w at rs _. follow-ended (line _ at rs) _ λ ms at rs _. follow-ended (line _ at rs) _ λ xs at rs _.
    nothing-behind (record { within = w; marks = ms; arrivals = xs }) at rs
