-- The state of the sheet that was read is stored in arrays that were cleared (proofs/Loading).
use mathlib.Core.Path.{refl, ap}
use Rattle.state_record.specs.View.{state_loaded}
use Rattle.sheet_read.specs.View.{read_into_of}
use Rattle.std.specs.Prelude.{Ok, Err}
use Rattle.export_runs.proofs.Loading.{loaded-is}
use Rattle.export_runs.proofs.pilgonca_load.Goals as goal

pub returns-in-Ok : goal.returns-in-Ok
returns-in-Ok c = let r = c.read_into in
    loaded-is _ (read_into_of (Ok c.in-Ok.c) r.new.types r.new.links) c.in-Ok.ensures _ _ (state_loaded r.new.links c.in-Ok.c) refl c.clear.ensures refl
    (c.store_loaded.ensures r.new.types r.new.links)

pub returns-in-Err : goal.returns-in-Err
returns-in-Err c = let r = c.read_into in
    rw c.number.ensures (loaded-is _ (read_into_of (Err c.in-Err.e) r.new.types r.new.links) c.in-Err.ensures _ _ (state_loaded r.new.links c.empty.result)
    (ap (state_loaded r.new.links) c.empty.ensures) c.clear.ensures refl (c.store_loaded-in-Err.ensures r.new.types r.new.links))
