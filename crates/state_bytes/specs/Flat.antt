-- A state as it stands in arrays of bytes and counts (B25 to B29): the records of numbers that it is. All of this is believed; what only helps proofs is in Records.
use Rattle.std.specs.Prelude.{List, ℕ, ◌+◌, ◌*◌, get_or}
use Rattle.spec_model.specs.Basics.{from}
use Rattle.spec_model.specs.Requests.{Cell as Cellᵐ, max_cells, max_calls}
use Rattle.spec_model.specs.Check.{RawPlace, RawCall, RawSystem}
use Rattle.spec_model.specs.Crossing.{max_places}
use Rattle.table_record.specs.Layout.{raw_table}
pub use Rattle.table_record.specs.Layout.{counts_in}

-- all that a caller lends of a state
pub record Flat : Type 0 where
  pub types : List ℕ
  pub links : List ℕ
  pub cells : List ℕ
  pub places : List ℕ
  pub calls : List ℕ
  pub counts : List ℕ

abbrev pub flat : List ℕ → List ℕ → List ℕ → List ℕ → List ℕ → List ℕ → Flat
flat types links cells places calls counts = record { types = types; links = links; cells = cells; places = places; calls = calls; counts = counts }

-- behind the counts of its table (`counts_in`) those of cells, places and calls (B29)
abbrev pub cell_count : List ℕ → ℕ
cell_count n = get_or n 5 0

abbrev pub place_count : List ℕ → ℕ
place_count n = get_or n 6 0

abbrev pub call_count : List ℕ → ℕ
call_count n = get_or n 7 0

-- the bytes of one record: of a cell, a place and a call; and those of all of them
abbrev pub cell_size : ℕ
cell_size = 3

abbrev pub place_size : ℕ
place_size = 3

abbrev pub call_size : ℕ
call_size = 4

abbrev pub cells_size : ℕ
cells_size = max_cells * cell_size

abbrev pub places_size : ℕ
places_size = max_places * place_size

abbrev pub calls_size : ℕ
calls_size = max_calls * call_size

-- the record whose bytes start at `at` (B26 to B28)
abbrev pub raw_cell_at : List ℕ → ℕ → Cellᵐ
raw_cell_at b at = record { holder = get_or b at 0; type = get_or b (at + 1) 0; place = get_or b (at + 2) 0 }

abbrev pub raw_place_at : List ℕ → ℕ → RawPlace
raw_place_at b at = record { code = get_or b at 0; first = get_or b (at + 1) 0; second = get_or b (at + 2) 0 }

abbrev pub raw_call_at : List ℕ → ℕ → RawCall
raw_call_at b at = record { caller = get_or b at 0; cell = get_or b (at + 1) 0; method = get_or b (at + 2) 0; answered = get_or b (at + 3) 0 }

-- the records that the bytes hold
unfoldable pub raw_cells : List ℕ → List Cellᵐ
raw_cells b = from max_cells 0 (λ k. raw_cell_at b (k * cell_size))

unfoldable pub raw_places : List ℕ → List RawPlace
raw_places b = from max_places 0 (λ p. raw_place_at b (p * place_size))

unfoldable pub raw_calls : List ℕ → List RawCall
raw_calls b = from max_calls 0 (λ j. raw_call_at b (j * call_size))

-- the state that is handed in
abbrev pub raw_flat : Flat → RawSystem
raw_flat f = record {
  table = raw_table f.types f.links (counts_in f.counts);
  cells = cell_count f.counts;
  places = place_count f.counts;
  calls = call_count f.counts;
  cell_records = raw_cells f.cells;
  place_records = raw_places f.places;
  call_records = raw_calls f.calls;
}
