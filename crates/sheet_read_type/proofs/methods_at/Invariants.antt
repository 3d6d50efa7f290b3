-- The loop has read j methods, each an exact record; a refused line ends it (`times-stop`), an accepted one is one method more (`times-next`).
use mathlib.Core.List.{[], map}
use mathlib.Core.Path.{◌≡◌}
use Prim.Native.Nat.{◌-◌}
use lib.ListN.{length, drop, take}
use Rattle.spec_sheet.specs.Lines.{split, times}
use Rattle.sheet_read_type.specs.View.{method_is, MethodsExact, each_method}
use Rattle.spec_model.specs.Table.{max_methods}
use Rattle.sheet_read_type.proofs.methods_at.Given as goal

abbrev pub invariant-loop-j : goal.invariant-loop-j
invariant-loop-j l = (length l.list ≡ max_methods) × MethodsExact l.j l.list ×
    (times (each_method l.n) (l.m - l.j) l.j (map method_is (take l.j l.list)) l.at.at (split (drop l.at.at l.s)) ≡ times (each_method l.n) l.m 0 [] l.initial.at.at (split (drop l.initial.at.at l.s)))
