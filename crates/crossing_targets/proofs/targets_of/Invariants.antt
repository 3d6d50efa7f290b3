-- The invariant is the targets so far, whatever the links are.
use mathlib.Core.Path.{◌≡◌}
use mathlib.Core.List.{List, map}
use Prim.Native.Nat.{ℕ}
use lib.ListN.{length, take}
use Rattle.table_record.specs.Store.{table_in}
use Rattle.crossing_targets.specs.Targets.{option_of, slot_at, max_layers}
use Rattle.crossing_targets.proofs.targets_of.Given as goal

abbrev pub invariant-loop-i : goal.invariant-loop-i
invariant-loop-i l = (length l.list ≡ max_layers) × ((b : List ℕ) → map option_of (take l.i l.list) ≡ map (slot_at (table_in l.types b l.c) l.m l.s) (take l.i l.w.list))
