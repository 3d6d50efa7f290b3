-- The check of a state by its parts, over the records as they are handed in: what the functions of this crate test. That the parts come to the model's `system_accepted` is
-- proved (proofs/Laws), so nothing here has to be believed.
use Rattle.std.specs.Prelude.{Bool, ◌&&◌, List, ℕ, ◌<◌, length, get_or}
use Rattle.spec_model.specs.Requests.{Call as Callᵐ, no_call}
use Rattle.spec_model.specs.Check.{RawType, callers_fit}
use Rattle.table_record.specs.declared.Counts.{Counts}
use Rattle.table_check_links.specs.Parts.{each_from}
use Rattle.state_record.specs.Counted.{Cells}
use Rattle.state_record.specs.Counted.{Places}
use Rattle.state_record.specs.Counted.{Calls}
use Rattle.state_record.specs.View.{cell_of, place_of, call_of, blank_cell, blank_place, blank_call, calls_in}
use Rattle.state_check_records.specs.Parts.{settled_as, cell_accepted, place_accepted, call_accepted}

-- the counted ones
unfoldable pub cells_accepted : List RawType → Counts → ℕ → Cells → Bool
unfolding each_from
cells_accepted rs c places cs = each_from cs.count 0 (λ k. cell_accepted rs c places (cell_of (get_or cs.list k blank_cell)))

unfoldable pub places_accepted : List RawType → Counts → Places → Bool
unfolding each_from settled_as
places_accepted rs c ps = each_from ps.count 0 (λ p. place_accepted rs c p (place_of (get_or ps.list p blank_place).place))

unfoldable pub calls_accepted : Counts → ℕ → Calls → Bool
unfolding each_from
calls_accepted c cells js = each_from js.count 0 (λ j. call_accepted c cells (call_of (get_or js.list j blank_call)))

-- their callers are among so many subjects
abbrev pub CallersBelow : ℕ → List Callᵐ → Type 0
CallersBelow n cs = (j : ℕ) → j < length cs → (get_or cs j no_call).caller < n

abbrev pub records_accepted : List RawType → Counts → Cells → Places → Calls → Bool
records_accepted rs c cs ps js = cells_accepted rs c ps.count cs && (places_accepted rs c ps && (calls_accepted c cs.count js && callers_fit c.subjects (calls_in js)))
