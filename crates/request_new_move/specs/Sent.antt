-- What new and move share: a reference that leaves a place, crosses, and becomes a cell.
use Rattle.std.specs.Prelude.{◌≡◌, [], ◌∷◌, ◌++◌, ℕ, ◌+◌, ◌≤◌, ◌<◌}
use Rattle.spec_model.specs.Basics.{Res, try}
use Rattle.spec_model.specs.Crossing.{object}
use Rattle.spec_model.specs.Requests.{System, Result, add_cell}
use Rattle.table_record.specs.declared.Counts.{Counts}
use Rattle.table_record.specs.Store.{table_in}
use Rattle.state_record.specs.Counted.{Places}
use Rattle.state_record.specs.Whole.{Whole as State}
use Rattle.state_record.specs.View.{places_in, system_in}
use Rattle.state_record.specs.Sound.{Descending, Typed, Sound}
use Rattle.crossing_one.specs.declared.Crossing.{Crossing}
use Rattle.crossing_one.specs.Crosses.{crossing}

-- The reference x to a place of ps crosses, and becomes a cell of its receiver.
abbrev pub sent_to : State → Places → Crossing → Res (System × Result)
sent_to s ps x = try (crossing (table_in s.types s.links s.counts) ps x) λ f. add_cell (system_in s) x.receiver f

-- what that asks: at least as many places as the state has (new has one more)
pub record Sends (s : State) (ps : Places) (x : Crossing) : Type 0 where
  pub sound : Sound s
  pub descending : Descending ps
  pub typed : Typed ps s.counts
  pub more : s.places.count ≤ ps.count
  pub place : x.place < ps.count
  pub from : x.from < s.counts.types
  pub receiver : x.receiver < 256

-- the places with an object as the next one
pub record Made (ps : Places) (class owner : ℕ) (qs : Places) : Type 0 where
  pub are : places_in qs ≡ places_in ps ++ (object class owner ∷ [])
  pub count : qs.count ≡ ps.count + 1
  pub descending : Descending qs
  pub typed : (c : Counts) → Typed ps c → class < c.types → Typed qs c
