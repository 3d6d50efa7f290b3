-- The check of one record of a state, and of how many there are, over the records as they are handed in: what the functions of this crate test. That these parts come to the
-- model's `system_accepted` is proved (state_check/proofs/Laws), so nothing here has to be believed.
use Rattle.std.specs.Prelude.{Bool, ◌&&◌, List, ℕ, ltb, leb, get_or}
use Rattle.spec_model.specs.Table.{is_settled}
use Rattle.spec_model.specs.Crossing.{Place as Placeᵐ, object, adapter, max_places}
use Rattle.spec_model.specs.Requests.{Cell as Cellᵐ, Call as Callᵐ, max_cells, max_calls}
use Rattle.spec_model.specs.Check.{RawType, no_raw_type, no_raw_method, state_of}
use Rattle.table_record.specs.declared.Counts.{Counts}
use Rattle.table_record.specs.Store.{may_stand_as}
pub use Rattle.table_record.specs.Store.{ref_as}
use Rattle.table_check_links.specs.Parts.{each_from}

-- a class (T16), as it is stored
unfoldable pub settled_as : ℕ → RawType → Bool
unfolding each_from
settled_as ms x = each_from ms 0 (λ j. is_settled (state_of (get_or x.methods j no_raw_method).state))

abbrev pub class_as : ℕ → RawType → Bool
class_as ms x = ref_as x && (may_stand_as x && settled_as ms x)

-- a cell (H9), an object, an adapter (H10) and a call (H11)
abbrev pub cell_accepted : List RawType → Counts → ℕ → Cellᵐ → Bool
cell_accepted rs c places x = ltb x.holder c.subjects && (ltb x.place places && (ltb x.type c.sheet && ref_as (get_or rs x.type no_raw_type)))

abbrev pub object_accepted : List RawType → Counts → ℕ → ℕ → Bool
object_accepted rs c class owner = ltb owner c.subjects && (ltb class c.sheet && class_as c.methods (get_or rs class no_raw_type))

abbrev pub adapter_accepted : List RawType → Counts → ℕ → ℕ → ℕ → Bool
adapter_accepted rs c p behind closed = ltb behind p && (ltb closed c.types && ref_as (get_or rs closed no_raw_type))

abbrev pub place_accepted : List RawType → Counts → ℕ → Placeᵐ → Bool
place_accepted rs c p (object class owner) = object_accepted rs c class owner
place_accepted rs c p (adapter behind closed) = adapter_accepted rs c p behind closed

abbrev pub call_accepted : Counts → ℕ → Callᵐ → Bool
call_accepted c cells x = ltb x.caller c.subjects && (ltb x.cell cells && ltb x.method c.methods)

-- the counts of cells, places and calls (H1)
abbrev pub sizes_accepted : ℕ → ℕ → ℕ → Bool
sizes_accepted cells places calls = leb cells max_cells && (leb places max_places && leb calls max_calls)
