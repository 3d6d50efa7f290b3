-- The invariant is what is still to come (`Going`).
use Prim.Native.Nat.{◌-◌}
use Rattle.state_record.specs.Whole.{whole}
use Rattle.request_run.specs.Ran.{room}
use Rattle.request_run.proofs.Laws.{Going}
use Rattle.request_run.proofs.run_checked.Given as goal

abbrev pub invariant-loop-served : goal.invariant-loop-served
invariant-loop-served l = Going (whole l.initial.types l.initial.s) l.words l.initial.answers (whole l.types l.s) l.answers l.served l.at l.any

abbrev pub decreases-loop-served : goal.decreases-loop-served
decreases-loop-served l = room l.initial.answers - l.served
