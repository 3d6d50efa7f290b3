-- The reader's result for the definition's (S32, S33).
use Rattle.std.specs.Prelude.{List, ℕ, Result, Ok, Err}
use Rattle.base_numbers.specs.Refusal.{number_of}
use Rattle.table_record.specs.declared.Counts.{Counts}
use Rattle.table_record.specs.Layout.{empty_types, empty_links, empty_counts}
use Rattle.table_record.specs.Records.{type_bytes, link_bytes, counts_of}
use Rattle.spec_sheet.specs.Sheet.{SheetResult, malformed, loaded}
use Rattle.text_read.specs.declared.Malformed.{Malformed}
use Rattle.sheet_read.specs.declared.Sheet.{Sheet}

-- The reader's result for the definition's, every byte of it: the bytes that stand for the table; or number and offset of the refusal, with a table that holds nothing (B21).
abbrev pub sheet_for : SheetResult → Sheet
sheet_for (malformed n at) = record { refusal = n; at = at; types = empty_types; links = empty_links; counts = empty_counts }
sheet_for (loaded t) = record { refusal = 0; at = 0; types = type_bytes t.types; links = link_bytes t.cats; counts = counts_of t }

-- that result from its parts, where each of them is handed out by itself: number, offset, bytes and counts
abbrev pub sheet_of : ℕ → ℕ → List ℕ → List ℕ → Counts → Sheet
sheet_of n at types links counts = record { refusal = n; at = at; types = types; links = links; counts = counts }

-- that result where the bytes are lent
abbrev pub read_into_of : Result Counts Malformed → List ℕ → List ℕ → Sheet
read_into_of (Err e) types links = sheet_of (number_of e.refusal) e.at types links empty_counts
read_into_of (Ok counts) types links = sheet_of 0 0 types links counts

-- and where those of a sheet that is refused are still to be emptied
abbrev pub table_of : Result Counts Malformed → List ℕ → List ℕ → Sheet
table_of (Err e) types links = sheet_for (malformed (number_of e.refusal) e.at)
table_of (Ok counts) types links = sheet_of 0 0 types links counts
