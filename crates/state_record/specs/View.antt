-- The counted records, and what is added to them, as proofs and contracts of steps say it; what the records mean is passed on.
use Rattle.std.specs.Prelude.{Bool, true, false, List, ℕ, ◌+◌, get_or, set}
use Rattle.spec_model.specs.Basics.{from}
use Rattle.spec_model.specs.Crossing.{Place as Placeᵐ, object, adapter}
use Rattle.spec_model.specs.Requests.{Cell as Cellᵐ, Call as Callᵐ}
use Rattle.state_record.specs.declared.Cell.{Cell}
use Rattle.state_record.specs.declared.PlaceRec.{PlaceRec}
use Rattle.state_record.specs.declared.Call.{Call}
use Rattle.state_record.specs.Counted.{Cells}
use Rattle.state_record.specs.Counted.{Places}
use Rattle.state_record.specs.Counted.{Calls}
use Rattle.state_record.specs.declared.Records.{Records}
use Rattle.state_record.specs.declared.State.{State as Rest}
use Rattle.state_record.specs.Whole.{Whole as State}
pub use Rattle.state_record.specs.Meaning.{cell_of, place_of, call_of, blank_cell, blank_place, blank_call, raw_state, none_of, no_cells, no_places, no_calls, state_loaded}
unfoldable pub use Rattle.state_record.specs.Meaning.{system_in}

-- the counted records as the model's, each seen through f
unfoldable pub seen : {A B : Type 0} {n : ℕ} → (A → B) → A → Records A n → List B
seen f d r = from r.count 0 (λ k. f (get_or r.list k d))

abbrev pub cells_in : Cells → List Cellᵐ
cells_in cs = seen cell_of blank_cell cs

abbrev pub places_in : Places → List Placeᵐ
places_in ps = seen (λ p. place_of p.place) blank_place ps

abbrev pub calls_in : Calls → List Callᵐ
calls_in js = seen call_of blank_call js

-- an object or an adapter; what is behind an adapter
abbrev pub is_object : Placeᵐ → Bool
is_object (object class owner) = true
is_object (adapter behind closed) = false

abbrev pub behind_of : Placeᵐ → ℕ
behind_of (object class owner) = 0
behind_of (adapter behind closed) = behind

-- One record more (Q6), and a call with its flag (A11): every other stored record as it was.
abbrev pub added : {A : Type 0} {n : ℕ} → Records A n → A → Records A n
added r x = record { list = set r.list r.count x; count = r.count + 1 }

abbrev pub cell_added : Cells → Cell → Cells
cell_added = added

abbrev pub place_added : Places → PlaceRec → Places
place_added = added

abbrev pub call_added : Calls → Call → Calls
call_added = added

abbrev pub answered_as : Call → Call
answered_as c = record { caller = c.caller; cell = c.cell; method = c.method; answered = true }

abbrev pub call_answered : Calls → ℕ → Calls
call_answered js j = record { list = set js.list j (answered_as (get_or js.list j blank_call)); count = js.count }

-- other bytes beside the same rest
abbrev pub with_types : State → List ℕ → State
with_types s b = record { types = b; links = s.links; counts = s.counts; cells = s.cells; places = s.places; calls = s.calls }

-- the same rest with other calls
abbrev pub state_calls : Rest → Calls → Rest
state_calls s js = record { links = s.links; counts = s.counts; cells = s.cells; places = s.places; calls = js }
