-- Invariant: what is found passes the first i arguments. One law for each way in which it returns.
use mathlib.Core.Path.{◌≡◌}
use lib.ListN.{length, take}
use Rattle.spec_model.specs.Relations.{args_rule}
use Rattle.table_record.specs.Store.{raw_in}
use Rattle.relation_found.specs.Found.{Grew, marks_in, queue_in}
use Rattle.relation_found.proofs.find_arguments.Given as goal

abbrev pub invariant-loop-i : goal.invariant-loop-i
invariant-loop-i l =
    Grew l.n (λ M. args_rule M (take l.i (raw_in l.b l.a l.j).args) (take l.i (raw_in l.b l.d l.j).args)) (marks_in l.initial.found) (queue_in l.initial.found) l.tail (marks_in l.found) (queue_in l.found) l.t
    × (length l.found ≡ length l.initial.found)
