-- The invariant: the whole test is what is left of it (`rest-next`, `rest-broken`, `rest_end`).
use mathlib.Core.Path.{◌≡◌}
use Prim.Native.Nat.{◌-◌}
use Rattle.table_check_links.specs.Parts.{each_from}
use Rattle.state_check.specs.Parts.{calls_accepted}
use Rattle.state_check.proofs.Steps.{CallAt}
use Rattle.state_check.proofs.calls_fit.Given as goal

abbrev pub invariant-loop-j : goal.invariant-loop-j
invariant-loop-j g l = let cs = g.H.Held.calls l.h in calls_accepted l.c (g.H.Held.cells l.h).count cs ≡ each_from (cs.count - l.j) l.j (CallAt l.c (g.H.Held.cells l.h).count cs)
