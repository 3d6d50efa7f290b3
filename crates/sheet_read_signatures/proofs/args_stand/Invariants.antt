-- The loop has found that the first i arguments may stand; one that may not ends it (`args-broken`), and past the count all may.
use mathlib.Core.Path.{◌≡◌}
use lib.ListN.{length, take, drop}
use Rattle.spec_model.specs.Basics.{all}
use Rattle.spec_model.specs.Records.{argument_slots}
use Rattle.table_record.specs.Store.{types_in}
use Rattle.sheet_read_signatures.specs.Signatures.{stands_at}
use Rattle.sheet_read_signatures.proofs.args_stand.Given as goal

abbrev pub invariant-loop-i : goal.invariant-loop-i
invariant-loop-i l = (length l.m.args ≡ argument_slots) ×
    (all (stands_at (types_in l.b) l.n) (take l.m.count l.m.args) ≡ all (stands_at (types_in l.b) l.n) (drop l.i (take l.m.count l.m.args)))
