-- The invariant: the whole test is what is left of it (`all-next`, `all-broken`).
use mathlib.Core.Path.{◌≡◌}
use lib.ListN.{drop}
use Rattle.spec_model.specs.Basics.{all}
use Rattle.table_record.specs.Store.{types_in, raw_method}
use Rattle.table_check.specs.Parts.{stands_as, args_accepted}
use Rattle.table_check.proofs.args_fit.Given as goal

abbrev pub invariant-loop-x : goal.invariant-loop-x
invariant-loop-x l = args_accepted (types_in l.b) l.n (raw_method l.fn.m) ≡ all (stands_as (types_in l.b) l.n) (drop l.x-index l.x-items)
