-- The invariant is the rest: all arguments are sent as those from i on, by the state as it has become.
use Rattle.state_record.specs.Whole.{whole}
use Rattle.crossing_targets.specs.Targets.{call_layers_in}
use Rattle.request_value.proofs.Sending.{Sends}
use Rattle.request_value.specs.Sent.{arguments_of}
use Rattle.request_value.proofs.send_arguments.Given as goal

abbrev pub invariant-loop-i : goal.invariant-loop-i
invariant-loop-i l = Sends (whole l.initial.types l.initial.s) l.r (call_layers_in l.w) l.m (arguments_of l.x) l.vs (whole l.types l.s) l.i
