-- The invariant: behind head and spare bytes stand the bytes of the methods so far. Rests on `run_more` and `record-parts`.
use mathlib.Core.List.{map}
use mathlib.Core.Path.{◌≡◌}
use Prim.Native.Nat.{ℕ, ◌<◌, ◌*◌, ◌+◌}
use lib.Seq.{sets}
use lib.ListN.{length, get_or, take}
use Rattle.spec_model.specs.Table.{max_methods}
use Rattle.spec_model.specs.Records.{argument_slots}
use Rattle.table_record.specs.Store.{raw_method, methods_bytes}
use Rattle.table_record.proofs.Laws.{absent}
use Rattle.table_record.specs.Layout.{type_size, head_size}
use Rattle.table_store.proofs.put_type.Given as goal

abbrev pub invariant-loop-j : goal.invariant-loop-j
invariant-loop-j l = (l.at ≡ l.i * type_size) × (length l.m-items ≡ max_methods)
    × (l.b ≡ sets l.initial.b (l.at + head_size) (methods_bytes (take l.j (map raw_method l.m-items))))
    × ((k : ℕ) → k < l.j → length (get_or l.m-items k absent).args ≡ argument_slots)
