-- Closed derives its signatures as Sub does. The invariant is `Loop`, as for Sub and Sup.
use Rattle.spec_model.specs.Table.{closed}
use Rattle.derive_sub_sup.proofs.Ends.{Loop}
use Rattle.derive_closed.proofs.closed.Given as goal

abbrev pub invariant-loop-k : goal.invariant-loop-k
invariant-loop-k l = Loop closed l.c l.c.types l.key.left l.key.right l.w l.fn.b l.b l.bytes l.m l.k
