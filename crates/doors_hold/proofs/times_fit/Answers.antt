use Rattle.std.proofs.Common.{◌∙◌, true, false}
use Rattle.doors_hold.proofs.Laws.{rises, falls, too-late, none_left, as-rising}
use Rattle.doors_hold.proofs.times_fit.Goals as goal
use Rattle.doors_hold.proofs.times_fit.Goals.{then-x-low-via-then-x-low, then-x-low-via-else-x-low+then-x-gt-LAST_TIME}

pub returns-then-x-low : goal.returns-then-x-low
returns-then-x-low c =
    let xs = c.args.xs.now in
    let l = c.loop-x in
    as-rising xs c.if-xs-gt-TIMES.false false (l.invariant ∙ (elim c.then-x-low.branch [
      | then-x-low-via-then-x-low w ↦ falls xs l.low l.x-index c.loop-x-test.true w.if-x-low.true
      | then-x-low-via-else-x-low+then-x-gt-LAST_TIME w ↦ too-late xs l.low l.x-index c.loop-x-test.true w.if-x-low.false w.if-x-gt-LAST_TIME.true
    ]))

pub loop-x-preserved : goal.loop-x-preserved
loop-x-preserved c =
    let l = c.loop-x in
    l.invariant ∙ rises c.args.xs.now l.low l.x-index c.loop-x-test.true c.if-x-low.false c.if-x-gt-LAST_TIME.false

pub returns : goal.returns
returns c =
    let xs = c.args.xs.now in
    let l = c.loop-x in
    as-rising xs c.if-xs-gt-TIMES.false true (l.invariant ∙ none_left xs l.low l.x-index c.loop-x-test.false)
