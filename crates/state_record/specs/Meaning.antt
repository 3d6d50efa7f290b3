-- What the records of the code mean: the model's cells, places and calls (Q1, Q4, Q5), and a state as it is handed in.
use Rattle.std.specs.Prelude.{false, List, map, ℕ, replicate}
use Rattle.spec_model.specs.Crossing.{Place as Placeᵐ, object, adapter, max_places}
use Rattle.spec_model.specs.Requests.{Cell as Cellᵐ, Call as Callᵐ, System, max_cells, max_calls}
use Rattle.spec_model.specs.Check.{RawSystem, system_of}
use Rattle.spec_model.specs.Handed.{place_record, call_record}
use Rattle.table_record.specs.declared.Counts.{Counts}
use Rattle.table_record.specs.Layout.{raw_table}
use Rattle.state_record.specs.declared.Cell.{Cell}
use Rattle.state_record.specs.declared.Place.{Place}
use Rattle.state_record.specs.declared.Place.TheVariants.{Object, Adapter}
use Rattle.state_record.specs.declared.PlaceRec.{PlaceRec}
use Rattle.state_record.specs.declared.Call.{Call}
use Rattle.state_record.specs.Counted.{Cells}
use Rattle.state_record.specs.Counted.{Places}
use Rattle.state_record.specs.Counted.{Calls}
use Rattle.state_record.specs.declared.Records.{Records}
use Rattle.state_record.specs.declared.State.{State as Rest}
use Rattle.state_record.specs.Whole.{Whole as State}

abbrev pub cell_of : Cell → Cellᵐ
cell_of c = record { holder = c.holder; type = c.ty; place = c.place }

abbrev pub place_of : Place → Placeᵐ
place_of (Object class owner) = object class owner
place_of (Adapter behind closed) = adapter behind closed

abbrev pub call_of : Call → Callᵐ
call_of c = record { caller = c.caller; cell = c.cell; method = c.method; answered = c.answered }

-- what stands past the end of a list of the code's
abbrev pub blank_cell : Cell
blank_cell = record { holder = 0; ty = 0; place = 0 }

abbrev pub blank_place : PlaceRec
blank_place = record { place = Object 0 0 }

abbrev pub blank_call : Call
blank_call = record { caller = 0; cell = 0; method = 0; answered = false }

-- the state as it is handed in, in records of numbers, and what it means
abbrev pub raw_state : State → RawSystem
raw_state s = record {
  table = raw_table s.types s.links s.counts;
  cells = s.cells.count;
  places = s.places.count;
  calls = s.calls.count;
  cell_records = map cell_of s.cells.list;
  place_records = map (λ p. place_record (place_of p.place)) s.places.list;
  call_records = map (λ c. call_record (call_of c)) s.calls.list;
}

unfoldable pub system_in : State → System
unfolding system_of
system_in s = system_of (raw_state s)

-- nothing held, made or called yet (Q10)
abbrev pub none_of : {A : Type 0} → A → (n : ℕ) → Records A n
none_of d n = record { list = replicate n d; count = 0 }

abbrev pub no_cells : Cells
no_cells = none_of blank_cell max_cells

abbrev pub no_places : Places
no_places = none_of blank_place max_places

abbrev pub no_calls : Calls
no_calls = none_of blank_call max_calls

abbrev pub state_loaded : List ℕ → Counts → Rest
state_loaded links counts = record { links = links; counts = counts; cells = no_cells; places = no_places; calls = no_calls }
