-- The invariant: the whole test is what is left of it (`rest-next`, `rest-broken`, `rest_end`).
use mathlib.Core.Path.{◌≡◌}
use Prim.Native.Nat.{◌-◌}
use Rattle.table_record.specs.Store.{types_in}
use Rattle.table_check_links.specs.Parts.{each_from}
use Rattle.state_check.specs.Parts.{places_accepted}
use Rattle.state_check.proofs.Steps.{PlaceAt}
use Rattle.state_check.proofs.places_fit.Given as goal

abbrev pub invariant-loop-p : goal.invariant-loop-p
invariant-loop-p g l = let cs = g.H.Held.places l.h in places_accepted (types_in l.b) l.c cs ≡ each_from (cs.count - l.p) l.p (PlaceAt l.b l.c cs)
