-- The input of the program `doors` (P27, P28).
use Rattle.std.specs.Prelude.{cond, List, [], ◌∷◌, ◌++◌, ℕ, zero, suc, eqb, length}
use Prim.Native.Char.{code}
use Rattle.spec_model.specs.Basics.{Res, ok}
use Rattle.spec_sheet.specs.Lines.{bytes, join, Reader, pure, line, bind, end_of_input, keyed}
use Rattle.spec_sheet.specs.Numbers.{Scan, fail, took, bind_scan, whole, top, number}
use Rattle.spec_sheet.specs.Sheet.{number_line}
use Rattle.spec_sheet.specs.Text.{number_text, spaced}

-- the numbers xs at the end of the line, or what k makes of the bytes behind a space; any other byte is a fault of form
abbrev pub space : List ℕ → (List ℕ → Scan (List ℕ)) → List ℕ → Scan (List ℕ)
space xs k [] = took xs []
space xs k (b ∷ r) = cond (eqb b (code " ")) (k r) fail

-- One decimal or more with single spaces between, at most n of them, behind those of acc.
unfoldable pub decimals : ℕ → List ℕ → List ℕ → Scan (List ℕ)
unfolding number
decimals zero acc l = fail
decimals (suc n) acc l = bind_scan (number l) (λ x r. space (acc ++ x ∷ []) (λ q. decimals n (acc ++ x ∷ []) q) r)

-- A line of times. Each takes a byte at least, so that the line's length bounds how many there are.
unfoldable pub times_line : List ℕ → Res (List ℕ)
unfolding decimals
times_line [] = ok []
times_line (b ∷ bs) = whole (decimals (length (b ∷ bs)) [] (b ∷ bs))

pub record Input : Type 0 where
  pub within : ℕ
  pub marks : List ℕ
  pub arrivals : List ℕ

-- The three lines. A tolerance of any size has the right form: no number that is read is above `top`.
unfoldable pub input_lines : Reader Input
unfolding keyed number number_line times_line
input_lines = bind (line (number_line (bytes "within=") 0 top)) λ w. bind (line times_line) λ ms. bind (line times_line) λ xs. bind end_of_input λ _.
    pure (record { within = w; marks = ms; arrivals = xs })

-- The text of an input. For one that fits it is the only text that is read as it (proofs/Exact).
unfoldable pub input_text : Input → List ℕ
unfolding number_text join
input_text x = join (number_text (bytes "within=") x.within ∷ spaced x.marks ∷ spaced x.arrivals ∷ [])
