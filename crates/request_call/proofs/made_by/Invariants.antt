-- The invariant: the calls so far are counted, as the model counts them.
use mathlib.Core.Path.{◌≡◌}
use Prim.Native.Nat.{◌≤◌}
use Rattle.spec_model.specs.Basics.{from}
use Rattle.spec_model.specs.Requests.{made_by}
use Rattle.state_record.proofs.Kept.{called}
use Rattle.request_call.proofs.made_by.Given as goal

abbrev pub invariant-loop-j : goal.invariant-loop-j
invariant-loop-j l = (l.made ≤ l.j) × (l.made ≡ made_by l.who (from l.j 0 (called l.js)))
