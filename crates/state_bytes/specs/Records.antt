-- The code's records that are read out of the bytes and written back, for the contracts of this crate: counted records, and no others.
use Rattle.std.specs.Prelude.{◌≡◌, Bool, cond, List, [], ◌∷◌, map, ℕ, zero, suc, ◌+◌, ◌*◌, eqb, ltb, get_or, drop}
use Rattle.spec_model.specs.Basics.{from, all}
use Rattle.spec_model.specs.Relations.{bit}
use Rattle.spec_model.specs.Requests.{Cell as Cellᵐ, no_cell, max_cells, max_calls}
use Rattle.spec_model.specs.Check.{RawPlace, RawCall, no_raw_place, no_raw_call, first_of}
use Rattle.spec_model.specs.Handed.{place_record, call_record}
use Rattle.spec_model.specs.Crossing.{max_places}
use Rattle.state_record.specs.declared.Cell.{Cell}
use Rattle.state_record.specs.declared.Place.{Place}
use Rattle.state_record.specs.declared.Place.TheVariants.{Object, Adapter}
use Rattle.state_record.specs.declared.PlaceRec.{PlaceRec}
use Rattle.state_record.specs.declared.Call.{Call}
use Rattle.state_record.specs.Counted.{Cells}
use Rattle.state_record.specs.Counted.{Places}
use Rattle.state_record.specs.Counted.{Calls}
use Rattle.state_record.specs.Whole.{Whole as State}
use Rattle.state_record.specs.View.{cell_of, place_of, call_of, blank_cell, blank_place, blank_call}
use Rattle.state_bytes.specs.Flat.{Flat, counts_in, cell_count, place_count, call_count, raw_cells, raw_places, raw_calls, cell_size, place_size, call_size}

-- every counted code of a place names something, and every answered flag (H2)
unfoldable pub place_codes : List ℕ → ℕ → Bool
unfolding raw_places
place_codes b n = all (λ (p : RawPlace). ltb p.code 2) (first_of n no_raw_place (raw_places b))

unfoldable pub call_codes : List ℕ → ℕ → Bool
unfolding raw_calls
call_codes b n = all (λ (c : RawCall). ltb c.answered 2) (first_of n no_raw_call (raw_calls b))

-- The code's records. A code that names nothing is read as one that does.
abbrev pub cell_from : List ℕ → ℕ → Cell
cell_from b k = record { holder = get_or b (k * cell_size) 0; ty = get_or b (k * cell_size + 1) 0; place = get_or b (k * cell_size + 2) 0 }

abbrev pub place_by : ℕ → ℕ → ℕ → Place
place_by zero first second = Object first second
place_by (suc n) first second = Adapter first second

abbrev pub place_from : List ℕ → ℕ → PlaceRec
place_from b p = record { place = place_by (get_or b (p * place_size) 0) (get_or b (p * place_size + 1) 0) (get_or b (p * place_size + 2) 0) }

abbrev pub call_from : List ℕ → ℕ → Call
call_from b j = record { caller = get_or b (j * call_size) 0; cell = get_or b (j * call_size + 1) 0; method = get_or b (j * call_size + 2) 0; answered = eqb (get_or b (j * call_size + 3) 0) 1 }

-- an array of `size`: the first n records are read, the rest is blank
abbrev pub up_to : {A : Type 0} → ℕ → ℕ → A → (ℕ → A) → List A
up_to size n blank f = from size 0 (λ k. cond (ltb k n) (f k) blank)

unfoldable pub cells_from : List ℕ → ℕ → Cells
cells_from b n = record { list = up_to max_cells n blank_cell (cell_from b); count = n }

unfoldable pub places_from : List ℕ → ℕ → Places
places_from b n = record { list = up_to max_places n blank_place (place_from b); count = n }

unfoldable pub calls_from : List ℕ → ℕ → Calls
calls_from b n = record { list = up_to max_calls n blank_call (call_from b); count = n }

abbrev pub state_from : Flat → State
state_from f = record {
  types = f.types;
  links = f.links;
  counts = counts_in f.counts;
  cells = cells_from f.cells (cell_count f.counts);
  places = places_from f.places (place_count f.counts);
  calls = calls_from f.calls (call_count f.counts);
}

-- the bytes of each of the code's records
abbrev pub cell_bytes : Cell → List ℕ
cell_bytes c = c.holder ∷ c.ty ∷ c.place ∷ []

abbrev pub place_bytes : Place → List ℕ
place_bytes (Object class owner) = 0 ∷ class ∷ owner ∷ []
place_bytes (Adapter behind closed) = 1 ∷ behind ∷ closed ∷ []

abbrev pub call_bytes : Call → List ℕ
call_bytes c = c.caller ∷ c.cell ∷ c.method ∷ bit c.answered ∷ []

-- the code's records as records of numbers (`raw_state`)
abbrev pub cell_records : Cells → List Cellᵐ
cell_records cs = map cell_of cs.list

abbrev pub place_records : Places → List RawPlace
place_records ps = map (λ p. place_record (place_of p.place)) ps.list

abbrev pub call_records : Calls → List RawCall
call_records js = map (λ c. call_record (call_of c)) js.list

-- Written into an array: the counted records are these, and every byte behind them is as it was.
pub record CellsTo (cs : Cells) (old new : List ℕ) : Type 0 where
  pub counted : first_of cs.count no_cell (raw_cells new) ≡ first_of cs.count no_cell (cell_records cs)
  pub behind : drop (cs.count * cell_size) new ≡ drop (cs.count * cell_size) old

pub record PlacesTo (ps : Places) (old new : List ℕ) : Type 0 where
  pub counted : first_of ps.count no_raw_place (raw_places new) ≡ first_of ps.count no_raw_place (place_records ps)
  pub behind : drop (ps.count * place_size) new ≡ drop (ps.count * place_size) old

pub record CallsTo (js : Calls) (old new : List ℕ) : Type 0 where
  pub counted : first_of js.count no_raw_call (raw_calls new) ≡ first_of js.count no_raw_call (call_records js)
  pub behind : drop (js.count * call_size) new ≡ drop (js.count * call_size) old
