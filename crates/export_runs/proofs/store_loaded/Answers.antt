-- The state that is stored is the loaded one.
use Rattle.export_runs.proofs.store_loaded.Goals as goal

pub returns : goal.returns
returns c = rw c.loaded-s.ensures at c.store.ensures
