-- The whole test is what is left of it; past the array nothing is left (`calls-end`).
use Rattle.std.proofs.Common.{◌≡◌, ◌-◌}
use Rattle.table_check_links.specs.Parts.{each_from}
use Rattle.state_bytes.specs.Records.{call_codes}
use Rattle.state_bytes.proofs.Codes.{CallFits}
use Rattle.state_bytes.proofs.call_codes.Given as goal

abbrev pub invariant-loop-j : goal.invariant-loop-j
invariant-loop-j l = call_codes l.b l.count ≡ each_from (l.count - l.j) l.j (CallFits l.b)
