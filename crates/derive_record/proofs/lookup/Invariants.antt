-- The invariant: the search over all types is the search from i on. Rests on `search-starts`, `search-hit`, `search-next` and `search-end`.
use mathlib.Core.Path.{◌≡◌}
use Prim.Native.Nat.{ℕ}
use Rattle.spec_model.specs.Restriction.{find}
use Rattle.table_record.specs.Store.{kind_is, types_in, types_to}
use Rattle.derive_record.proofs.Begins.{Rest}
use Rattle.derive_record.proofs.lookup.Given as goal

abbrev pub invariant-loop-i : goal.invariant-loop-i
invariant-loop-i l = (ms : ℕ) → find (kind_is l.key.kind) l.key.left l.key.right 0 (types_to ms l.fn.c.sheet l.n (types_in l.b)) ≡ Rest (kind_is l.key.kind) l.key.left
    l.key.right ms l.fn.c.sheet l.n (types_in l.b) l.i
