-- What the loops test at a number.
use mathlib.Core.Path.{◌≡◌, ap, ◌∙◌}
use mathlib.Core.Bool.{Bool}
use mathlib.Core.List.{List}
use Prim.Native.Nat.{ℕ}
use lib.ListN.{get_or}
use Rattle.table_record.specs.declared.Counts.{Counts}
use Rattle.table_record.specs.Store.{types_in}
use Rattle.state_record.specs.declared.Cell.{Cell}
use Rattle.state_record.specs.declared.PlaceRec.{PlaceRec}
use Rattle.state_record.specs.declared.Call.{Call}
use Rattle.state_record.specs.Counted.{Cells}
use Rattle.state_record.specs.Counted.{Places}
use Rattle.state_record.specs.Counted.{Calls}
use Rattle.state_record.specs.View.{cell_of, place_of, call_of, blank_cell, blank_place, blank_call}
use Rattle.state_check_records.specs.Parts.{cell_accepted, place_accepted, call_accepted}

abbrev pub CellAt : List ℕ → Counts → ℕ → Cells → ℕ → Bool
CellAt b c places cs k = cell_accepted (types_in b) c places (cell_of (get_or cs.list k blank_cell))

abbrev pub PlaceAt : List ℕ → Counts → Places → ℕ → Bool
PlaceAt b c ps p = place_accepted (types_in b) c p (place_of (get_or ps.list p blank_place).place)

abbrev pub CallAt : Counts → ℕ → Calls → ℕ → Bool
CallAt c cells js j = call_accepted c cells (call_of (get_or js.list j blank_call))

-- What was tested: the record x that was read at the number, and n of the others.
module _ (c : Counts) (r : Bool) where
  pub cell-tested : (b : List ℕ) (cs : Cells) (k n places : ℕ) (x : Cell) → n ≡ places → x ≡ get_or cs.list k blank_cell → r ≡ cell_accepted (types_in b) c n (cell_of x) → r ≡ CellAt b c places cs k
  cell-tested b cs k n places x e f h = h ∙ ap (λ (m : ℕ). cell_accepted (types_in b) c m (cell_of x)) e ∙ ap (λ (y : Cell). cell_accepted (types_in b) c places (cell_of y)) f

  pub place-tested : (b : List ℕ) (ps : Places) (p : ℕ) (x : PlaceRec) → x ≡ get_or ps.list p blank_place → r ≡ place_accepted (types_in b) c p (place_of x.place) → r ≡ PlaceAt b c ps p
  place-tested b ps p x f h = h ∙ ap (λ (y : PlaceRec). place_accepted (types_in b) c p (place_of y.place)) f

  pub call-tested : (js : Calls) (j n cells : ℕ) (x : Call) → n ≡ cells → x ≡ get_or js.list j blank_call → r ≡ call_accepted c n (call_of x) → r ≡ CallAt c cells js j
  call-tested js j n cells x e f h = h ∙ ap (λ (m : ℕ). call_accepted c m (call_of x)) e ∙ ap (λ (y : Call). call_accepted c cells (call_of y)) f
