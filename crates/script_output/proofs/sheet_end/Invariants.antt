-- The invariant is what is left: the sheet ends where it ends from `at` on. The cursor either passes a row or stands in front of a last line that no LF ends.
use Rattle.spec_sheet.specs.Lines.{split}
use lib.ListN.{length, drop}
use Prim.Native.Nat.{◌-◌, ◌≤◌}
use mathlib.Core.Path.{◌≡◌}
use Rattle.script_output.specs.Output.{end_from, sheet_end}
use Rattle.script_output.proofs.sheet_end.Given as goal

abbrev pub invariant-loop-at : goal.invariant-loop-at
invariant-loop-at l = (l.at ≤ length l.s) × (sheet_end l.s ≡ end_from l.at (split (drop l.at l.s)))

abbrev pub decreases-loop-at : goal.decreases-loop-at
decreases-loop-at l = length l.s - l.at
