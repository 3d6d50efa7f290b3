-- The loop has read the first i types and stored their records; a refused one ends it, the others go on from its bytes (`times-stop`, `times-next`).
use mathlib.Core.List.{[]}
use mathlib.Core.Path.{◌≡◌}
use Prim.Native.Nat.{◌-◌}
use lib.ListN.{drop}
use Rattle.table_record.specs.Records.{type_bytes}
use Rattle.table_record.specs.Store.{types_in, types_to}
use Rattle.spec_sheet.specs.Lines.{split, times}
use Rattle.spec_sheet.specs.Sheet.{one_type}
use Rattle.sheet_read_type.proofs.types_into.Given as goal

abbrev pub invariant-loop-i : goal.invariant-loop-i
invariant-loop-i l = (l.b ≡ type_bytes (types_to l.m l.n l.i (types_in l.b))) ×
    (times (one_type l.m l.cats l.n) (l.n - l.i) l.i (types_to l.m l.n l.i (types_in l.b)) l.at.at (split (drop l.at.at l.s)) ≡ times (one_type l.m l.cats l.n) l.n 0 [] l.initial.at.at (split (drop l.initial.at.at l.s)))
