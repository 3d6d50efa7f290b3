-- Invariant: the entries before p are right.
use mathlib.Core.Path.{◌≡◌}
use Prim.Native.Nat.{ℕ, ◌/◌, ◌%◌, ◌<◌}
use lib.ListN.{length, get_or}
use Rattle.table_record.specs.Store.{table_in}
use Rattle.relation_compare.specs.Pairs.{pair_entry, pairs_size}
use Rattle.spec_model.specs.Table.{max_sheet_types}
use Rattle.relation_compare.proofs.pair_table.Given as goal

abbrev pub invariant-loop-p : goal.invariant-loop-p
invariant-loop-p l = (length l.out ≡ pairs_size) × ((k : ℕ) → k < l.p → get_or l.out k 0 ≡ pair_entry (table_in l.b l.l l.c) (k / max_sheet_types) (k % max_sheet_types))
