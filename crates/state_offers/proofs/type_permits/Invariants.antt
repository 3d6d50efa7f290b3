-- The invariant is the rest: the chain is permitted as what is left from i on is by the type that has been reached.
use mathlib.Core.List.{List}
use Prim.Native.Nat.{ℕ}
use Rattle.table_record.specs.Store.{table_in}
use Rattle.state_offers.proofs.Laws.{Rest}
use Rattle.state_offers.proofs.type_permits.Given as goal

abbrev pub invariant-loop-i : goal.invariant-loop-i
invariant-loop-i l = (b : List ℕ) → Rest (table_in l.types b l.c) l.chain l.t l.at l.i
