-- The array is filled record by record, up to the count or the array's end (Filling).
use Rattle.state_record.specs.View.{blank_call}
use Rattle.state_bytes.specs.Records.{call_from}
use Rattle.state_bytes.proofs.Filling.{Filled}
use Rattle.spec_model.specs.Requests.{max_calls}
use Rattle.state_bytes.proofs.calls_from.Given as goal

abbrev pub invariant-loop-j : goal.invariant-loop-j
invariant-loop-j l = Filled blank_call (call_from l.b) max_calls l.j l.list
