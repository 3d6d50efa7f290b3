-- The invariant is the rest: all values stand the test as those from i on.
use mathlib.Core.Path.{◌≡◌}
use lib.IntN.{ℤ}
use Rattle.state_record.specs.Whole.{whole}
use Rattle.spec_model.specs.Basics.{named}
use Rattle.state_record.specs.View.{system_in}
use Rattle.request_call.proofs.Laws.{HeldRest}
use Rattle.request_value.specs.Sent.{arguments_of}
use Rattle.request_call.proofs.arguments_held.Given as goal

abbrev pub invariant-loop-i : goal.invariant-loop-i
invariant-loop-i l = (subject : ℤ) → named subject ≡ l.who → HeldRest (system_in (whole l.types l.s)) subject (arguments_of l.x) l.vs l.i
