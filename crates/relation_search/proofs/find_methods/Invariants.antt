-- Invariant: what is found passes the first j methods. One law for each way in which it returns.
use mathlib.Core.Path.{◌≡◌}
use lib.ListN.{length}
use Rattle.spec_model.specs.Relations.{method_rule}
use Rattle.table_record.specs.Store.{method_in}
use Rattle.relation_states.specs.Asked.{relation_of}
use Rattle.relation_found.specs.Found.{Grew, marks_in, queue_in}
use Rattle.relation_search.specs.Search.{each_below}
use Rattle.relation_search.proofs.find_methods.Given as goal

abbrev pub invariant-loop-j : goal.invariant-loop-j
invariant-loop-j l =
    Grew l.n (λ M. each_below l.j (λ i. method_rule (relation_of l.k) M (method_in l.b l.a i) (method_in l.b l.d i))) (marks_in l.initial.found) (queue_in l.initial.found) l.tail (marks_in l.found) (queue_in l.found) l.t
    × (length l.found ≡ length l.initial.found)
