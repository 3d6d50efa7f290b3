-- The invariant: the whole test is what is left of it (`rest-next`, `rest-broken`, `rest_end`).
use mathlib.Core.Path.{◌≡◌}
use Prim.Native.Nat.{◌-◌}
use Rattle.table_record.specs.Store.{types_in}
use Rattle.table_check_links.specs.Parts.{each_from}
use Rattle.state_check.specs.Parts.{cells_accepted}
use Rattle.state_check.proofs.Steps.{CellAt}
use Rattle.state_check.proofs.cells_fit.Given as goal

abbrev pub invariant-loop-k : goal.invariant-loop-k
invariant-loop-k g l = let cs = g.H.Held.cells l.h in cells_accepted (types_in l.b) l.c (g.H.Held.places l.h).count cs ≡ each_from (cs.count - l.k) l.k (CellAt l.b l.c (g.H.Held.places l.h).count cs)
