-- What the C functions hand out that load a state, ask what it offers and run requests on it.
use Rattle.std.specs.Prelude.{◌≡◌, Result, Ok, Err, Bool, ℕ, ◌*◌, ℤ, length, replicate, take, drop}
use mathlib.Core.List.{List, ◌++◌, map, flatten}
use Rattle.std.proofs.lemmas.List.Edits.{sets}
use Rattle.spec_model.specs.Basics.{Res, refuse, ok}
use Rattle.base_numbers.specs.declared.refusal.Refusal.{Refusal}
use Rattle.base_numbers.specs.Refusal.{number_of}
use Rattle.spec_model.specs.Relations.{bit}
use Rattle.spec_model.specs.Table.{size}
use Rattle.spec_model.specs.Requests.{System, Outcome}
use Rattle.spec_model.specs.Handed.{counted, stored_from}
use Rattle.table_record.specs.Layout.{with_count, type_size}
use Rattle.table_record.specs.Records.{bytes_of}
use Rattle.state_bytes.specs.Flat.{Flat, counts_in, cell_count, place_count, call_count, raw_flat, cells_size, places_size, calls_size}
use Rattle.request_words.specs.Words.{outcome_words}
use Rattle.spec_sheet.specs.Sheet.{SheetResult}
use Rattle.sheet_read.specs.Result.{sheet_for, sheet_of}

-- the number returned and what stands beside it: what was found, or, refused, what stood there
abbrev pub found_out : ℕ → Result ℕ Refusal → ℕ × ℕ
found_out old (Ok n) = (0, n)
found_out old (Err e) = (number_of e, old)

-- the same of what is offered: 0 or 1, or, refused, what stood there
abbrev pub offered_out : ℕ → Res Bool → ℕ × ℕ
offered_out old (refuse n) = (n, old)
offered_out old (ok b) = (0, bit b)

-- so many bytes, all of them 0
unfoldable pub no_bytes : ℕ → List ℕ
no_bytes n = replicate n 0

-- Where `a` is the reader's result: number, offset and table are its parts, as `pilgonca_read` hands them out; no cell, place or call is counted, and every byte of theirs is 0.
pub record LoadedIs (a : SheetResult) (n at : ℕ) (f : Flat) : Type 0 where
  pub sheet : sheet_of n at f.types f.links (counts_in f.counts) ≡ sheet_for a
  pub cells : f.cells ≡ no_bytes cells_size
  pub places : f.places ≡ no_bytes places_size
  pub calls : f.calls ≡ no_bytes calls_size
  pub none : (cell_count f.counts ≡ 0) × (place_count f.counts ≡ 0) × (call_count f.counts ≡ 0)

-- What a caller lends to a run (U): the state, the list for its outcomes, and where the number of those served goes.
pub record LentRun : Type 0 where
  pub state : Flat
  pub answers : List ℤ
  pub served : ℕ

abbrev pub lent_run : Flat → List ℤ → ℕ → LentRun
lent_run f answers served = record { state = f; answers = answers; served = served }

-- What a run leaves of it that was taken, `os` and `m` being what the model's run comes to.
pub record RanOut (os : List Outcome) (m : System) (n : ℕ) (old new : LentRun) : Type 0 where
  pub number : n ≡ 0
  pub served : new.served ≡ length os
  -- the outcomes stand from the front on; what is behind them is as it was (U8, U9)
  pub answers : new.answers ≡ sets old.answers 0 (outcome_words os)
  -- what is counted of table, cells, places and calls is the model's: how many, and each record (U10, Q15)
  pub records : counted (raw_flat new.state) ≡ counted (stored_from (raw_flat old.state) m)
  -- the links stay, and every count of the table but that of its types
  pub links : new.state.links ≡ old.state.links
  pub counts : counts_in new.state.counts ≡ with_count (counts_in old.state.counts) (size m.table)
  -- Every counted byte of the types: those that there were, and behind them the record that stands for each new one (B22).
  pub types : take (size m.table * type_size) new.state.types
      ≡ take ((counts_in old.state.counts).types * type_size) old.state.types ++ flatten (map bytes_of (drop (counts_in old.state.counts).types m.table.types))

-- One that is refused changes nothing (Q14).
abbrev pub RunsOut : Res (List Outcome × System) → ℕ → LentRun → LentRun → Type 0
RunsOut (refuse e) n old new = (n ≡ e) × (new ≡ old)
RunsOut (ok x) n old new = RanOut x.0 x.1 n old new
