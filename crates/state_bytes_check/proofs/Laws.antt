-- The check of a state in bytes is that of the state that is read.
use mathlib.Core.Path.{◌≡◌, refl, ap, sym, ◌∙◌}
use mathlib.Core.Bool.{Bool, true, false, ◌&&◌}
use Rattle.spec_model.specs.Check.{table_accepted, system_accepted}
use Rattle.spec_model.proofs.Rules.{never}
use Rattle.law_handed.proofs.Counted.{accepted-same}
use Rattle.table_record.specs.declared.Counts.{Counts}
use Rattle.table_record.specs.Store.{types_in, raw_table}
use Rattle.state_record.specs.View.{raw_state}
use Rattle.state_check_records.specs.Parts.{sizes_accepted}
use Rattle.state_check.specs.Parts.{records_accepted}
use Rattle.state_check.proofs.Laws.{accepted-is}
use Rattle.state_bytes.specs.Flat.{Flat, counts_in, cell_count, place_count, call_count, raw_flat}
use Rattle.state_bytes.specs.Records.{cells_from, places_from, calls_from, state_from}
use Rattle.state_bytes.proofs.Laws.{codes_in, read-counted, codes-refused}

-- The parts of the check; c are the counts that were read.
module _ (f : Flat) where
  abbrev parts : Counts → Bool
  parts c =
      let cs = cells_from f.cells (cell_count f.counts) in
      let ps = places_from f.places (place_count f.counts) in
      let js = calls_from f.calls (call_count f.counts) in
      sizes_accepted cs.count ps.count js.count && (table_accepted (raw_table f.types f.links c) && records_accepted (types_in f.types) c cs ps js)

  pub bytes-are : (c : Counts) → c ≡ counts_in f.counts → system_accepted (raw_state (state_from f)) ≡ parts c
  bytes-are c e = accepted-is (state_from f) ∙ ap parts (sym e)

-- With every code the check is that of the state that is read.
module _ (f : Flat) where
  pub read-accepted : codes_in f ≡ true → system_accepted (raw_state (state_from f)) ≡ system_accepted (raw_flat f)
  read-accepted h = accepted-same (raw_state (state_from f)) (raw_flat f) (read-counted f h)

  pub accepted-codes : system_accepted (raw_flat f) ≡ true → codes_in f ≡ true
  accepted-codes h = go (codes_in f) refl
    where
      go : (b : Bool) → codes_in f ≡ b → codes_in f ≡ true
      go true e = e
      go false e = never (sym (codes-refused f e) ∙ h)
