-- What the functions find on the way to what is offered.
use Rattle.std.specs.Prelude.{Bool, ◌&&◌, cond, Option, None, Some, List, map, ℕ, suc, ◌≤◌, ◌<◌, ℤ}
use Rattle.spec_model.specs.Basics.{names, named}
use Rattle.spec_model.specs.Table.{Table, Method, type_at, method_at, is_ref, permit}
use Rattle.spec_model.specs.Records.{answer_code}
use Rattle.spec_model.specs.Chains.{permits}
use Rattle.spec_model.specs.Crossing.{max_places}
use Rattle.spec_model.specs.Requests.{max_cells}
use Rattle.table_record.specs.Limits.{Limits}
use Rattle.state_bytes.specs.Flat.{counts_in, cell_count, place_count}
use Rattle.state_bytes.specs.Records.{cell_from}
use Rattle.state_offers.specs.Chained.{methods_named}

-- a type's part in it
unfoldable pub permits_named : Table → ℕ → List ℤ → Bool
unfolding permits
permits_named t n w = methods_named t w && permits t n (map named w)

-- One method of a chain: 0 where it names none or the type does not permit it; else 1 more than the code of its answer type, which is 0 for none.
abbrev pub step_of : Bool → Bool → Method → ℕ
step_of known ref m = cond (known && (ref && permit m.state)) (suc (answer_code m.answer)) 0

abbrev pub step_code : Table → ℕ → ℤ → ℕ
step_code t n z = step_of (names z t.methods) (is_ref (type_at t n).rep) (method_at t n (named z))

-- what the code finds, as such a number
abbrev pub code_of : Option (Option ℕ) → ℕ
code_of None = 0
code_of (Some None) = 1
code_of (Some (Some k)) = suc (suc k)

-- What the check leaves to be known of a state's bytes: a cell is found in its array, and its place in that of the places.
pub record Within (cells counts : List ℕ) : Type 0 where
  pub limits : Limits (counts_in counts)
  pub cells_few : cell_count counts ≤ max_cells
  pub places_few : place_count counts ≤ max_places
  pub placed : (k : ℕ) → k < cell_count counts → (cell_from cells k).place < place_count counts
