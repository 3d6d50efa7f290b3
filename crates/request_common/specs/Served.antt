-- What a request came to and leaves, in the words of the model. A step is a request, or a part of one, on a state that is known to be sound; what it comes to is the
-- model's `m`.
use Rattle.std.specs.Prelude.{◌≡◌, Bool, ◌&&◌, List, ℕ, ◌≤◌, ◌<◌, ℤ, length, Err}
use Rattle.spec_model.specs.Basics.{Res, refuse, ok, names, named}
use Rattle.spec_model.specs.Table.{Table, type_at, is_class}
use Rattle.spec_model.specs.Crossing.{Reference}
use Rattle.spec_model.specs.Requests.{System, Result, Outcome as Outcomeᵐ, got, refused}
use Rattle.table_record.specs.Store.{table_in, with_count}
use Rattle.table_record.specs.Layout.{types_size}
use Rattle.derive_sub_sup.specs.Link.{Kept}
use Rattle.state_record.specs.Counted.{Places}
use Rattle.state_record.specs.Whole.{Whole as State}
use Rattle.state_record.specs.View.{places_in, system_in, with_types}
use Rattle.state_record.specs.Sound.{Descending, Typed, Sound}
use Rattle.crossing_meet.specs.Crossed.{Grew, reference}
use Rattle.base_numbers.specs.declared.refusal.Refusal.{Refusal}
pub use Rattle.request_common.specs.Outcome.{result_of, outcome_of, Done, done, refusal_of}

-- what the outcome and the state left say together
abbrev pub served_with : System → Outcomeᵐ → Res (System × Result)
served_with s (refused e) = refuse e
served_with s (got x) = ok (s, x)

abbrev pub served_as : Done → Res (System × Result)
served_as r = served_with (system_in r.state) (outcome_of r.outcome)

-- What is left of the table: links and counts as they were but for the count of types, every byte of the types that there were, and each new type stored as the
-- record that stands for it (B22).
pub record Stored (s s' : State) : Type 0 where
  pub links : s'.links ≡ s.links
  pub counts : s'.counts ≡ with_count s.counts s'.counts.types
  pub grew : Grew s.counts s'.counts.types s'.types
  pub kept : Kept s.counts.types s.types s'.types

-- The step's outcome is the model's; a refusal leaves all that was handed in, but for bytes of the types that are not counted (`stored`); the state left is one that the
-- next step can start from.
pub record Step (s : State) (m : Res (System × Result)) (r : Done) : Type 0 where
  pub is : served_as r ≡ m
  pub stays : (e : Refusal) → r.outcome ≡ Err e → r.state ≡ with_types s r.state.types
  pub stored : Stored s r.state
  pub sound : Sound r.state

-- A reference that has crossed and is to be a cell: the types and the places as they have become, its static type and its place.
abbrev pub arrived : State → List ℕ → ℕ → Places → ℕ → ℕ → Reference
arrived s types n ps ty place = reference (table_in types s.links (with_count s.counts n)) (places_in ps) ty place

pub record Arrives (s : State) (types : List ℕ) (n : ℕ) (ps : Places) (t p : ℕ) : Type 0 where
  pub sound : Sound s
  pub long : length types ≡ types_size
  pub grew : Grew s.counts n types
  pub kept : Kept s.counts.types s.types types
  pub descending : Descending ps
  pub typed : Typed ps (with_count s.counts n)
  pub more : s.places.count ≤ ps.count
  pub ty : t < n
  pub place : p < ps.count

-- the number of a sheet class, as `new` asks for it (N2)
abbrev pub is_sheet_class : Table → ℤ → Bool
is_sheet_class t a = names a t.sheet && is_class (type_at t (named a))
