-- What is claimed of the text that is printed (P21, P24, P25): `Every`. Proof: proofs/Every, which also shows that no other text keeps it.
use Rattle.std.specs.Prelude.{◌≡◌, cond, ℕ, ◌<◌, ltb, length, get_or}
use Rattle.std.proofs.Math.Bool.{So}
use mathlib.Core.List.{List, [], ◌∷◌, ◌++◌, flatten}
use Rattle.spec_model.specs.Table.{Table}
use Rattle.spec_sheet.specs.Lines.{Row, row, cut, split, join, starts, same}
use Rattle.spec_sheet.specs.Text.{end_text}
use Rattle.spec_sheet.specs.Sheet.{loaded, read}
use Rattle.spec_tiny.specs.Tiny.{is_tiny, tiny_count, tiny_bytes}
use Rattle.spec_tiny.specs.Order.{rank}

-- The sheets of rows, each up to and with its line `end=sheet`, the first behind the lines of acc; what no such line ends is left out.
unfoldable pub sheets_of_rows : List (List ℕ) → List Row → List (List ℕ)
unfolding starts join
sheets_of_rows acc [] = []
sheets_of_rows acc (cut l ∷ rs) = []
sheets_of_rows acc (row l ∷ rs) = cond (same end_text l) (join (acc ++ l ∷ []) ∷ sheets_of_rows [] rs) (sheets_of_rows (acc ++ l ∷ []) rs)

-- the sheets of a text
unfoldable pub sheets_in : List ℕ → List (List ℕ)
unfolding split sheets_of_rows
sheets_in bs = sheets_of_rows [] (split bs)

-- sheet i of a text
abbrev pub sheet_in : List ℕ → ℕ → List ℕ
sheet_in out i = get_or (sheets_in out) i []

-- bytes that the reader accepts as a tiny sheet, with what it reads (P22)
pub record TinySheet (bs : List ℕ) (t : Table) : Type 0 where
  pub accepted : read bs ≡ loaded t
  pub kind : So (is_tiny t)

-- Such a text: sheet behind sheet and nothing else, each tiny and at its rank, none twice, and every tiny sheet among them.
pub record Every (out : List ℕ) : Type 0 where
  pub whole : flatten (sheets_in out) ≡ out
  pub size : length out ≡ tiny_bytes
  pub count : length (sheets_in out) ≡ tiny_count
  pub tiny : (i : ℕ) → i < tiny_count → (t : Table) × TinySheet (sheet_in out i) t × (rank t ≡ i)
  -- 14 of one method and 116 of two
  pub methods : (i : ℕ) (t : Table) → i < tiny_count → read (sheet_in out i) ≡ loaded t → t.methods ≡ cond (ltb i 14) 1 2
  pub once : (i j : ℕ) → i < tiny_count → j < tiny_count → sheet_in out i ≡ sheet_in out j → i ≡ j
  pub all : (bs : List ℕ) (t : Table) → TinySheet bs t → (rank t < tiny_count) × (sheet_in out (rank t) ≡ bs)
