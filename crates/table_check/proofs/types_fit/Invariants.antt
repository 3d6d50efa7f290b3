-- The invariant: the whole test is what is left of it (`rest-next`, `rest-broken`, `rest_end`).
use mathlib.Core.Path.{◌≡◌}
use Prim.Native.Nat.{◌-◌}
use lib.ListN.{get_or}
use Rattle.table_record.specs.Store.{types_in}
use Rattle.spec_model.specs.Check.{no_raw_type}
use Rattle.table_check_links.specs.Parts.{each_from}
use Rattle.table_check.specs.Parts.{type_accepted, types_accepted}
use Rattle.table_check.proofs.types_fit.Given as goal

abbrev pub invariant-loop-i : goal.invariant-loop-i
invariant-loop-i l = types_accepted (types_in l.b) l.c ≡ each_from (l.c.types - l.i) l.i (λ k. type_accepted (types_in l.b) l.c k (get_or (types_in l.b) k no_raw_type))
