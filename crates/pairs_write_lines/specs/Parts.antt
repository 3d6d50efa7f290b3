-- The lines of the pairs as the code writes them, from the bytes of the pair table (crate `relation_compare`). That they are those of the definition is proved in
-- crates/pairs_output/proofs/Whole.antt.
use mathlib.Core.List.{List, [], ◌∷◌, ◌++◌, flatten}
use Rattle.std.specs.Prelude.{ℕ, ◌+◌, ◌*◌, ◌/◌, ◌%◌, get_or}
use Rattle.spec_model.specs.Basics.{from}
use Rattle.spec_model.specs.Table.{max_sheet_types}
use Rattle.spec_sheet.specs.Numbers.{decimal_in}
use Rattle.spec_sheet.specs.Text.{number_text, spaces, spaced}

-- the four parts of the comparison in a pair's byte (B24)
abbrev pub comparison_in : ℕ → List ℕ
comparison_in c = c % 2 ∷ c / 2 % 2 ∷ c / 4 % 2 ∷ c / 8 % 2 ∷ []

-- its parts, each behind a space, and the end of the line (P17)
unfoldable pub comparison_text : ℕ → List ℕ
unfolding number_text
comparison_text c = spaces (comparison_in c) ++ 10 ∷ []

unfoldable pub code_line : ℕ → ℕ → ℕ → List ℕ
unfolding number_text decimal_in
code_line t s c = spaced (t ∷ s ∷ comparison_in c)

-- the pairs of T with the first n types, and those of the first m types
unfoldable pub row_lines : List ℕ → ℕ → ℕ → List (List ℕ)
row_lines pairs t n = from n 0 (λ s. code_line t s (get_or pairs (t * max_sheet_types + s) 0))

unfoldable pub code_lines : List ℕ → ℕ → ℕ → List (List ℕ)
code_lines pairs n m = flatten (from m 0 (λ t. row_lines pairs t n))
