-- The invariant is what is still to come (`Going`).
use lib.ListN.{length}
use Prim.Native.Nat.{◌-◌}
use Rattle.script_output.proofs.Laws.{Going}
use Rattle.state_record.specs.Whole.{whole}
use Rattle.script_output.proofs.serve_lines.Given as goal

abbrev pub invariant-loop-at : goal.invariant-loop-at
invariant-loop-at l = Going (whole l.initial.types l.initial.s) l.rest l.initial.buf (whole l.types l.s) l.buf l.written l.at

abbrev pub decreases-loop-at : goal.decreases-loop-at
decreases-loop-at l = length l.rest - l.at
