-- The bytes are written row by row, up to the count or the array's end (Rows); what they then say is `calls-written`.
use Rattle.state_bytes.proofs.Rows.{Rows}
use Rattle.state_bytes.proofs.Laws.{call_row}
use Rattle.state_bytes.specs.Flat.{call_size}
use Rattle.state_bytes.proofs.calls_to.Given as goal

abbrev pub invariant-loop-j : goal.invariant-loop-j
invariant-loop-j l = Rows call_size (call_row l.js) l.initial.b l.j l.b
