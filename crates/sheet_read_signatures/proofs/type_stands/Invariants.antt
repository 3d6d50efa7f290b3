-- The loop has found that the first j methods' types may stand; one that may not ends it, and a number type has no methods.
use mathlib.Core.Path.{◌≡◌}
use lib.ListN.{get_or, drop}
use Rattle.spec_model.specs.Basics.{all, from}
use Rattle.spec_model.specs.Check.{no_raw_type, no_raw_method, method_of}
use Rattle.table_record.specs.Store.{types_in}
use Rattle.spec_sheet.specs.Sheet.{stands}
use Rattle.sheet_read_signatures.specs.Signatures.{stands_at}
use Rattle.sheet_read_signatures.proofs.type_stands.Given as goal

abbrev pub invariant-loop-j : goal.invariant-loop-j
invariant-loop-j l = (all (stands (stands_at (types_in l.b) l.n)) (from l.m 0 (λ j. method_of (get_or (get_or (types_in l.b) l.i no_raw_type).methods j no_raw_method)))
    ≡ all (stands (stands_at (types_in l.b) l.n)) (drop l.j (from l.m 0 (λ j. method_of (get_or (get_or (types_in l.b) l.i no_raw_type).methods j no_raw_method)))))
