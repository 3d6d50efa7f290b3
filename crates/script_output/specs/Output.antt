-- The program `script`: the bytes that it prints, for every input (P1 to P4, P11, P15).
use Rattle.std.specs.Prelude.{Bool, true, false, cond, List, [], ◌∷◌, ◌++◌, map, ℕ, ◌+◌, ltb, length, take, drop}
use Rattle.std.proofs.Math.Option.{none, some}
use Rattle.spec_model.specs.Table.{Table}
use Rattle.spec_model.specs.Requests.{Request, loaded as start, run}
use Rattle.spec_sheet.specs.Lines.{Row, row, cut, bytes, split, join, starts, same}
use Rattle.spec_sheet.specs.Text.{number_text, end_text}
pub use Rattle.spec_sheet.specs.Text.{max_input}
use Rattle.spec_sheet.specs.Sheet.{SheetResult, malformed, loaded, read}
use Rattle.script_read_request.specs.Asked.{request_line}
use Rattle.script_write_outcome.specs.Outcomes.{outcome_text}

-- What is printed is at most so many bytes longer than the input: of `no=1`, `no=2` and a refused sheet's line there is at most one (P18).
abbrev pub max_longer : ℕ
max_longer = 5

-- ---- The sheet and what is behind it (P2)
-- Where the sheet ends, of which the rows from `at` on are left: behind the first line that is `end=sheet`; where there is none, at the end.
unfoldable pub end_from : ℕ → List Row → ℕ
unfolding starts
end_from at [] = at
end_from at (cut l ∷ rs) = at + length l
end_from at (row l ∷ rs) = cond (same end_text l) (at + (length l + 1)) (end_from (at + (length l + 1)) rs)

unfoldable pub sheet_end : List ℕ → ℕ
unfolding end_from split
sheet_end s = end_from 0 (split s)

abbrev pub sheet_part : List ℕ → List ℕ
sheet_part s = take (sheet_end s) s

abbrev pub request_part : List ℕ → List ℕ
request_part s = drop (sheet_end s) s

-- ---- The requests of the lines, up to the first line that is malformed, and whether there is one (P11); a line without LF is.
unfoldable pub asked : List Row → List Request × Bool
unfolding request_line
asked [] = ([], false)
asked (cut l ∷ rs) = ([], true)
asked (row l ∷ rs) = elim (request_line l) [ none ↦ ([], true) | some q ↦ let x = asked rs in (q ∷ x.0, x.1) ]

-- ---- What is printed
-- A line for each request, served on the state that those before it left, the first on that of the loaded sheet (P4); and `no=1` for the line that ends the program.
unfoldable pub served_lines : Table → List Row → List (List ℕ)
unfolding asked run outcome_text
served_lines t rs = let x = asked rs in map outcome_text (run (start t) x.0).0 ++ cond x.1 (bytes "no=1" ∷ []) []

-- a refused sheet: its number, and nothing more (P3)
abbrev pub printed_lines : SheetResult → List Row → List (List ℕ)
printed_lines (malformed n at) rs = number_text (bytes "no=") n ∷ []
printed_lines (loaded t) rs = served_lines t rs

-- longer input: `no=2` alone (P1)
unfoldable pub script_output : List ℕ → List ℕ
unfolding sheet_end served_lines number_text split join read
script_output s = join (cond (ltb max_input (length s)) (bytes "no=2" ∷ []) (printed_lines (read (sheet_part s)) (split (request_part s))))
