-- Lines that have too many times are refused as the definition refuses them; else the arrays hold the two lists.
use Rattle.std.proofs.Common.{◌≡◌, Some, rules, subst, ◌∙◌}
use Rattle.spec_sheet.specs.Lines.{split}
use Rattle.spec_doors.specs.Input.{input_lines}
use Rattle.doors_read.specs.View.{InputRead}
use Rattle.doors_output.proofs.Laws.{many-marks, many-arrivals, lists-held}
use Rattle.doors_output.proofs.hold_lines.Goals as goal
use Rattle.doors_output.proofs.hold_lines.Goals.{In_ok-x, then-x-gt-TIMES-via-then-x-gt-TIMES, then-x-gt-TIMES-via-else-x-gt-TIMES+then-x-gt-TIMES-2}

-- what was read
read : (c : In_ok-x) → InputRead (input_lines 0 (split c.args.s.now)) c.read_input.new.marks c.read_input.new.arrivals (Some c.in_ok-x.x)
read c = let e : c.read_input.result ≡ Some c.in_ok-x.x = search rules in subst (InputRead _ _ _) e c.read_input.ensures.is

pub returns-then-x-gt-TIMES : goal.returns-then-x-gt-TIMES
returns-then-x-gt-TIMES c =
    let r = read (goal.at.returns-then-x-gt-TIMES c).In_ok-x in
    elim c.then-x-gt-TIMES.branch [
      | then-x-gt-TIMES-via-then-x-gt-TIMES w ↦ many-marks _ _ _ _ r w.if-x-gt-TIMES.true
      | then-x-gt-TIMES-via-else-x-gt-TIMES+then-x-gt-TIMES-2 w ↦ many-arrivals _ _ _ _ r w.if-x-gt-TIMES-2.true
    ]

pub returns : goal.returns
returns c = c.hold.ensures ∙ lists-held _ _ _ _ (read (goal.at.returns c).In_ok-x) c.if-x-gt-TIMES.false c.if-x-gt-TIMES-2.false
