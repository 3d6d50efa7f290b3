-- What the steps of requests need to be safe, and keep: counts within their limits, every number that is used as an index below its count, and what is behind an
-- adapter below it, so that going behind ends.
use Rattle.std.specs.Prelude.{◌≡◌, false, ℕ, ◌≤◌, ◌<◌, length, get_or}
use Rattle.spec_model.specs.Crossing.{max_places, place_at, place_type}
use Rattle.spec_model.specs.Requests.{Cell as Cellᵐ, Call as Callᵐ, no_cell, no_call, max_cells, max_calls_each, made_by}
use Rattle.table_record.specs.declared.Counts.{Counts}
use Rattle.table_record.specs.Limits.{Checked}
use Rattle.table_record.specs.Layout.{types_size}
use Rattle.state_record.specs.Counted.{Places}
use Rattle.state_record.specs.Whole.{Whole as State}
use Rattle.state_record.specs.View.{cells_in, places_in, calls_in, is_object, behind_of}

-- the limit of places (Q8), and what is behind lies below (Q2)
pub record Descending (ps : Places) : Type 0 where
  pub count : ps.count ≤ max_places
  pub behind : (p : ℕ) → p < ps.count → is_object (place_at (places_in ps) p) ≡ false → behind_of (place_at (places_in ps) p) < p

-- each place's type is in the table
abbrev pub Typed : Places → Counts → Type 0
Typed ps c = (p : ℕ) → p < ps.count → place_type (place_at (places_in ps) p) < c.types

pub record CellIn (s : State) (c : Cellᵐ) : Type 0 where
  pub type : c.type < s.counts.types
  pub place : c.place < s.places.count

pub record CallIn (s : State) (c : Callᵐ) : Type 0 where
  pub caller : c.caller < s.counts.subjects
  pub cell : c.cell < s.cells.count
  pub method : c.method < s.counts.methods

-- The calls, with their callers known and none of whom made more than 32: so who made fewer has room for one more (Q9).
pub record CallsKnown (s : State) : Type 0 where
  pub each : (j : ℕ) → j < s.calls.count → CallIn s (get_or (calls_in s.calls) j no_call)
  pub few : (k : ℕ) → made_by k (calls_in s.calls) ≤ max_calls_each

-- a subject that may make one more (C7)
abbrev pub MayCall : State → ℕ → Type 0
MayCall s who = (who < s.counts.subjects) × (made_by who (calls_in s.calls) < max_calls_each)

pub record Sound (s : State) : Type 0 where
  pub long : length s.types ≡ types_size
  pub checked : Checked s.links s.counts
  pub descending : Descending s.places
  pub typed : Typed s.places s.counts
  pub cell_count : s.cells.count ≤ max_cells
  pub cells : (k : ℕ) → k < s.cells.count → CellIn s (get_or (cells_in s.cells) k no_cell)
  pub calls : CallsKnown s
