-- The program `pairs`: the bytes that it prints, for every input (P1, P16, P17).
use Rattle.std.specs.Prelude.{cond, ℕ, ltb, length}
use mathlib.Core.List.{List, [], ◌∷◌, ◌++◌, flatten}
use Rattle.spec_model.specs.Basics.{from}
use Rattle.spec_model.specs.Table.{Table}
use Rattle.spec_model.specs.Relations.{Comparison, bit, related}
use Rattle.relation_compare.specs.Comparing.{comparison_at}
use Rattle.spec_sheet.specs.Lines.{bytes, join}
use Rattle.spec_sheet.specs.Numbers.{decimal_in}
use Rattle.spec_sheet.specs.Text.{number_text, spaced}
pub use Rattle.spec_sheet.specs.Text.{max_input}
use Rattle.spec_sheet.specs.Sheet.{SheetResult, malformed, loaded, read}

-- the parts of a comparison, 1 or 0, in the order in which they are printed
abbrev pub comparison_bits : Comparison → List ℕ
comparison_bits a = bit a.subtype ∷ bit a.strict ∷ bit a.loose ∷ bit a.free ∷ []

unfoldable pub pair_line : Table → ℕ → ℕ → List ℕ
unfolding related number_text decimal_in
pair_line x t s = spaced (t ∷ s ∷ comparison_bits (comparison_at x t s))

-- a line for every pair of sheet types, T rising and within it S rising (P17)
unfoldable pub pair_lines : Table → List (List ℕ)
unfolding pair_line from flatten
pair_lines x = flatten (from x.sheet 0 (λ t. from x.sheet 0 (λ s. pair_line x t s)))

-- `no=N at=OFFSET` for a refused sheet (P16)
unfoldable pub result_lines : SheetResult → List (List ℕ)
unfolding pair_lines number_text
result_lines (malformed n at) = (number_text (bytes "no=") n ++ number_text (bytes " at=") at) ∷ []
result_lines (loaded x) = pair_lines x

-- longer input: `no=2` alone (P1)
unfoldable pub pairs_output : List ℕ → List ℕ
unfolding result_lines join read
pairs_output s = join (cond (ltb max_input (length s)) (bytes "no=2" ∷ []) (result_lines (read s)))
