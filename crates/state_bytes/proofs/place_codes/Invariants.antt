-- The whole test is what is left of it; past the array nothing is left (`places-end`).
use Rattle.std.proofs.Common.{◌≡◌, ◌-◌}
use Rattle.table_check_links.specs.Parts.{each_from}
use Rattle.state_bytes.specs.Records.{place_codes}
use Rattle.state_bytes.proofs.Codes.{PlaceFits}
use Rattle.state_bytes.proofs.place_codes.Given as goal

abbrev pub invariant-loop-p : goal.invariant-loop-p
invariant-loop-p l = place_codes l.b l.count ≡ each_from (l.count - l.p) l.p (PlaceFits l.b)
