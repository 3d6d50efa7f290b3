-- Decimals (S21), read from the left of what is left of a line, and written.
use Rattle.std.specs.Prelude.{Bool, ◌&&◌, cond, List, [], ◌∷◌, ◌++◌, ℕ, zero, suc, ◌+◌, ◌-◌, ◌*◌, ◌/◌, ◌%◌, min, eqb, ltb, leb}
use Prim.Native.Char.{code}
use Rattle.spec_model.specs.Basics.{Res, refuse, ok}
use Rattle.spec_model.specs.Refusals.{form}

-- What a scan gives: a value and the bytes behind it; or the form is wrong.
pub data Scan (A : Type 0) : Type 0 where
  fail : Scan A
  took : A → List ℕ → Scan A

abbrev pub bind_scan : {A B : Type 0} → Scan A → (A → List ℕ → Scan B) → Scan B
bind_scan fail k = fail
bind_scan (took x r) k = k x r

-- A line has the right form if its scan went right and nothing is left behind it; else 1 (S28).
abbrev pub whole : {A : Type 0} → Scan A → Res A
whole fail = refuse form
whole (took x []) = ok x
whole (took x (b ∷ r)) = refuse form

-- 48 is the byte of 0, 57 that of 9
abbrev pub is_digit : ℕ → Bool
is_digit b = leb 48 b && leb b 57

-- 2 to the 63rd and one more: above every range of a sheet, and above every number of 64 bits with a sign (P9).
abbrev pub top : ℕ
top = 9223372036854775809

-- A larger number counts as `top`, so its form is right and its value outside of every range: 2 (S2).
abbrev pub limit : ℕ → ℕ
limit n = min n top

unfoldable pub digits : ℕ → List ℕ → Scan ℕ
digits a [] = took a []
digits a (b ∷ bs) = cond (is_digit b) (digits (limit (a * 10 + (b - 48))) bs) (took a (b ∷ bs))

-- A 0 is the whole number: what follows it is not its digit. No digit, or a sign, is no number (S3).
unfoldable pub number : List ℕ → Scan ℕ
unfolding digits
number [] = fail
number (b ∷ bs) = cond (eqb b 48) (took 0 bs) (cond (is_digit b) (digits (b - 48) bs) fail)

-- the numbers xs, or what k makes of the bytes behind a comma
abbrev pub comma : List ℕ → (List ℕ → Scan (List ℕ)) → List ℕ → Scan (List ℕ)
comma xs k [] = took xs []
comma xs k (b ∷ r) = cond (eqb b (code ",")) (k r) (took xs (b ∷ r))

-- One number or more with commas between, at most n of them, behind those of acc. One too many is a fault of form (S11).
unfoldable pub numbers : ℕ → List ℕ → List ℕ → Scan (List ℕ)
unfolding number
numbers zero acc l = fail
numbers (suc n) acc l = bind_scan (number l) (λ a r. comma (acc ++ a ∷ []) (λ q. numbers n (acc ++ a ∷ []) q) r)

-- The decimal of a number, with at most f digits.
unfoldable pub decimal_in : ℕ → ℕ → List ℕ
decimal_in zero n = []
decimal_in (suc f) n = cond (ltb n 10) ((48 + n) ∷ []) (decimal_in f (n / 10) ++ (48 + n % 10) ∷ [])

-- numbers of 64 bits: twenty digits are enough
abbrev pub decimal : ℕ → List ℕ
decimal n = decimal_in 20 n

-- numbers, each behind a comma; and with commas between
abbrev pub tails : List ℕ → List ℕ
tails [] = []
tails (a ∷ r) = code "," ∷ decimal a ++ tails r

abbrev pub commas : List ℕ → List ℕ
commas [] = []
commas (a ∷ r) = decimal a ++ tails r
