-- What is stored of an outcome and its state, on the way to `Handed`.
use Rattle.std.specs.Prelude.{◌≡◌, Result, Ok, Err, true, false, ℕ, ◌<◌}
use Rattle.state_record.specs.Whole.{Whole as State}
use Rattle.state_bytes.specs.Flat.{Flat, counts_in, cell_count, place_count, call_count}
use Rattle.state_bytes.specs.Records.{CellsTo, PlacesTo, CallsTo}
use Rattle.base_numbers.specs.Refusal.{number_of}
use Rattle.request_common.specs.declared.Answer.{Answer}
use Rattle.request_common.specs.declared.Answer.TheVariants.{Pair, Number, Nothing}
use Rattle.request_common.specs.Served.{Done as Served}
use Rattle.request_common.specs.Outcome.{outcome_numbered}
use Rattle.request_common.specs.Back.{is_accepted}
use Rattle.request_results.specs.States.{LentState, outcome_number, outcome_values}

-- two numbers that are small enough to be signed
abbrev pub SmallAnswer : Answer → Type 0
SmallAnswer (Pair a b) = (a < 65536) × (b < 65536)
SmallAnswer (Number v) = Unit
SmallAnswer Nothing = Unit

abbrev pub Small : {E : Type 0} → Result Answer E → Type 0
Small (Err e) = Unit
Small (Ok a) = SmallAnswer a

-- the state is stored in the arrays: its counts and its counted records
pub record Stored (s : State) (old new : Flat) : Type 0 where
  pub types : new.types ≡ s.types
  pub counts : counts_in new.counts ≡ s.counts
  pub cell_number : cell_count new.counts ≡ s.cells.count
  pub place_number : place_count new.counts ≡ s.places.count
  pub call_number : call_count new.counts ≡ s.calls.count
  pub cells : CellsTo s.cells old.cells new.cells
  pub places : PlacesTo s.places old.places new.places
  pub calls : CallsTo s.calls old.calls new.calls

-- what the outcome r, with s as it is then, leaves of what was lent; `numbered` says the number of a refusal
pub record BackNumbered {E : Type 0} (numbered : E → ℕ) (r : Result Answer E) (s : State) (n : ℕ) (old new : LentState) : Type 0 where
  pub number : n ≡ outcome_number (outcome_numbered numbered r)
  pub values : new.values ≡ outcome_values old.values (outcome_numbered numbered r)
  pub refused : is_accepted r ≡ false → new.state ≡ old.state
  pub accepted : is_accepted r ≡ true → Stored s old.state new.state

abbrev pub Back : Served → ℕ → LentState → LentState → Type 0
Back r = BackNumbered number_of r.outcome r.state
