-- The invariant: the whole test is what is left of it (`rest-next`, `rest-broken`, `rest_end`).
use mathlib.Core.Path.{◌≡◌}
use Prim.Native.Nat.{◌-◌}
use lib.ListN.{get_or}
use Rattle.spec_model.specs.Check.{no_raw_type}
use Rattle.table_record.specs.Store.{types_in}
use Rattle.table_check_links.specs.Parts.{each_from}
use Rattle.state_check_records.specs.Parts.{settled_as}
use Rattle.state_check_records.proofs.Steps.{SettledAt}
use Rattle.state_check_records.proofs.settled.Given as goal

abbrev pub invariant-loop-j : goal.invariant-loop-j
invariant-loop-j l = settled_as l.methods (get_or (types_in l.b) l.i no_raw_type) ≡ each_from (l.methods - l.j) l.j (SettledAt l.b l.i)
