-- The invariant is the rest: all arguments come to what those from i on come to, as long as they are numbers.
use mathlib.Core.Path.{◌≡◌}
use Prim.Native.Nat.{ℕ}
use Rattle.state_record.specs.Whole.{Whole}
use Rattle.state_record.specs.View.{system_in}
use Rattle.crossing_targets.specs.Targets.{call_layers_in}
use Rattle.request_value.proofs.Sending.{NumbersRest}
use Rattle.request_value.specs.Sent.{arguments_of}
use Rattle.request_value.proofs.pass_numbers.Given as goal

abbrev pub invariant-loop-i : goal.invariant-loop-i
invariant-loop-i l = (s : Whole) (r : ℕ) → s.types ≡ l.types → s.counts ≡ l.c → NumbersRest (system_in s) r (call_layers_in l.w) l.m (arguments_of l.x) l.vs l.i
