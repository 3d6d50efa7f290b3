-- The invariant: the whole test is what is left of it (`rest-next`, `rest-broken`, `rest_end`).
use mathlib.Core.Path.{◌≡◌}
use Prim.Native.Nat.{◌-◌}
use lib.ListN.{get_or}
use Rattle.table_record.specs.Store.{types_in}
use Rattle.spec_model.specs.Check.{no_raw_type, no_raw_method}
use Rattle.table_check_links.specs.Parts.{each_from}
use Rattle.table_check.specs.Parts.{method_accepted, methods_accepted}
use Rattle.table_check.proofs.methods_fit.Given as goal

abbrev pub invariant-loop-j : goal.invariant-loop-j
invariant-loop-j l = methods_accepted (types_in l.b) l.n l.methods (get_or (types_in l.b) l.i no_raw_type) ≡ each_from (l.methods - l.j) l.j
    (λ k. method_accepted (types_in l.b) l.n (get_or (get_or (types_in l.b) l.i no_raw_type).methods k no_raw_method))
