-- The invariant: the methods so far are those of the record. Rests on `methods-are` and `read_is`.
use mathlib.Core.Path.{◌≡◌}
use Prim.Native.Nat.{ℕ, ◌<◌}
use lib.ListN.{length, get_or}
use Rattle.spec_model.specs.Table.{max_methods}
use Rattle.table_record.specs.Store.{raw_method, raw_in}
use Rattle.table_record.proofs.Laws.{absent}
use Rattle.table_record.proofs.get_type.Given as goal

abbrev pub invariant-loop-j : goal.invariant-loop-j
invariant-loop-j l = (length l.methods ≡ max_methods)
    × ((k : ℕ) → k < l.j → raw_method (get_or l.methods k absent) ≡ raw_in l.b l.i k)
