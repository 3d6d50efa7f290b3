-- Invariant `Going`: every pair before `head` passes its rule by what is found, and what is found is related if the first pair is.
use mathlib.Core.Path.{◌≡◌}
use Prim.Native.Nat.{◌-◌}
use lib.ListN.{length}
use Rattle.table_record.specs.Store.{table_in}
use Rattle.relation_states.specs.Asked.{relation_of}
use Rattle.relation_found.specs.Found.{marks_in, queue_in, max_pairs}
use Rattle.relation_search.proofs.Loop.{Going}
use Rattle.relation_search.proofs.search_in.Given as goal

abbrev pub invariant-loop-head : goal.invariant-loop-head
invariant-loop-head l = (length l.found ≡ length l.initial.found) × Going (relation_of l.k) (table_in l.b l.l l.c) l.c.types l.t l.s (marks_in l.found) (queue_in l.found) l.tail l.head

abbrev pub decreases-loop-head : goal.decreases-loop-head
decreases-loop-head l = max_pairs - l.head
