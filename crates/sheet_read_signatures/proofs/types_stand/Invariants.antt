-- The loop has found that the first i types' signatures may stand; one that may not ends it.
use mathlib.Core.Path.{◌≡◌}
use lib.ListN.{drop}
use Rattle.spec_model.specs.Basics.{all}
use Rattle.table_record.specs.Store.{types_in, types_to}
use Rattle.sheet_read_signatures.specs.Signatures.{type_stands}
use Rattle.sheet_read_signatures.proofs.types_stand.Given as goal

abbrev pub invariant-loop-i : goal.invariant-loop-i
invariant-loop-i l = (all (type_stands (types_in l.b) l.n) (types_to l.m l.n l.n (types_in l.b)) ≡ all (type_stands (types_in l.b) l.n) (drop l.i (types_to l.m l.n l.n (types_in l.b))))
