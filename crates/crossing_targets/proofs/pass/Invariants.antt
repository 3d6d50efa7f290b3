-- The invariant is the rest: all targets are met as those from i on.
use mathlib.Core.List.{List}
use Prim.Native.Nat.{ℕ}
use Rattle.table_record.specs.Store.{table_in}
use Rattle.crossing_targets.proofs.Laws.{PassRest}
use Rattle.crossing_targets.proofs.pass.Given as goal

abbrev pub invariant-loop-i : goal.invariant-loop-i
invariant-loop-i l = (b : List ℕ) → PassRest (table_in l.types b l.c) l.v l.targets.list l.targets.count l.i
