use Rattle.std.proofs.Common.{arith}
use Rattle.spec_doors.proofs.Rising.{none-late}
use Rattle.doors_hold.proofs.Laws.{marks-over, arrivals-over, next-mark, next-arrival, next-pair}
use Rattle.doors_hold.proofs.count_pairs.Goals as goal

pub overflow_add-m : goal.overflow_add-m
overflow_add-m c = omega (arith, none-late 0 c.args.marks.now c.requires.0 c.loop-i.i c.loop-i-test.true, c.requires.2)

pub overflow_add-a : goal.overflow_add-a
overflow_add-a c = omega (arith, none-late 0 c.args.arrivals.now c.requires.1 c.loop-i.j c.if-arrivals-j.false, c.requires.2)

pub loop-i-preserved-then-m-within : goal.loop-i-preserved-then-m-within
loop-i-preserved-then-m-within c =
    let l = c.loop-i in
    record { few = omega arith; pairs = next-mark _ _ _ l.i l.j l.n l.invariant.pairs c.loop-i-test.true c.if-arrivals-j.false c.if-m-within.true }

pub loop-i-preserved-then-a-within : goal.loop-i-preserved-then-a-within
loop-i-preserved-then-a-within c =
    let l = c.loop-i in
    record { few = omega arith; pairs = next-arrival _ _ _ l.i l.j l.n l.invariant.pairs c.loop-i-test.true c.if-arrivals-j.false c.if-m-within.false c.if-a-within.true }

pub loop-i-preserved : goal.loop-i-preserved
loop-i-preserved c =
    let l = c.loop-i in
    record { few = omega arith; pairs = next-pair _ _ _ l.i l.j l.n l.invariant.pairs c.loop-i-test.true c.if-arrivals-j.false c.if-m-within.false c.if-a-within.false }

pub returns-then-arrivals-j : goal.returns-then-arrivals-j
returns-then-arrivals-j c = let l = c.loop-i in arrivals-over _ _ _ l.i l.j l.n l.invariant.pairs c.if-arrivals-j.true

pub returns-after-loop-i : goal.returns-after-loop-i
returns-after-loop-i c = let l = c.loop-i in marks-over _ _ _ l.i l.j l.n l.invariant.pairs c.loop-i-test.false
