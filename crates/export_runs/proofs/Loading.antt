-- The state of a loaded sheet stored in arrays that hold nothing: none of its records is counted, so every byte of them stays 0.
use mathlib.Core.Path.{◌≡◌, subst, ◌∙◌}
use Rattle.spec_sheet.specs.Sheet.{SheetResult}
use Rattle.sheet_read.specs.declared.Sheet.{Sheet}
use Rattle.sheet_read.specs.View.{sheet_for}
use Rattle.state_record.specs.declared.State.{State as Rest}
use Rattle.state_record.specs.Whole.{whole}
use Rattle.state_record.specs.View.{state_loaded}
use Rattle.state_bytes.specs.Flat.{Flat, cells_size, places_size, calls_size}
use Rattle.request_results.specs.Stored.{Stored}
use Rattle.export_runs.specs.Results.{no_bytes, LoadedIs}

module _ (a : SheetResult) (y : Sheet) (read : y ≡ sheet_for a) (old new : Flat) where
  pub loaded-is : (s : Rest) → s ≡ state_loaded y.links y.counts → (old.cells ≡ no_bytes cells_size) × (old.places ≡ no_bytes places_size) × (old.calls ≡ no_bytes calls_size)
      → new.links ≡ y.links → Stored (whole y.types s) old new → LoadedIs a y.refusal y.at new
  loaded-is s e none links z = go (subst (λ (x : Rest). Stored (whole y.types x) old new) e z)
    where
      go : Stored (whole y.types (state_loaded y.links y.counts)) old new → LoadedIs a y.refusal y.at new
      go w = record {
        sheet = rw (w.types, links, w.counts) read;
        cells = w.cells.behind ∙ none.0;
        places = w.places.behind ∙ none.1;
        calls = w.calls.behind ∙ none.2;
        none = (w.cell_number, w.place_number, w.call_number);
      }
