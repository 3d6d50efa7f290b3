-- Rests on Ends, at each turn of the loop; Sub and Sup differ in the kind.
use mathlib.Core.Path.{refl}
use native.Mathlib.Omega.{arith}
use Rattle.spec_model.specs.Table.{sub, sup}
use Rattle.derive_sub_sup.proofs.Ends.{settled, loop-starts, empty-goes, argument-stops, argument-byte, argument-goes, answer-stops, answer-byte, answer-goes, ends}
use Rattle.derive_sub_sup.proofs.+sub_sup.Goals as goal
use Rattle.derive_sub_sup.proofs.+sub_sup.Goals.{sub-in-Empty, sub-in-Argument+in_ok-i-in-Argument, sub-in-Answer+in_ok-i-in-Answer}
use Rattle.derive_sub_sup.proofs.+sub_sup.Goals.{sup-in-Empty, sup-in-Argument+in_ok-i-in-Argument, sup-in-Answer+in_ok-i-in-Answer}

pub sub-returns-in-Some : goal.sub-returns-in-Some
sub-returns-in-Some t c = settled sub c.requires c.in-Some.is c.begin.ensures

pub sub-loop-k-init : goal.sub-loop-k-init
sub-loop-k-init t c = loop-starts c.requires refl c.in_default.is c.begin.ensures c.start-w.ensures

pub sub-returns-in_err-i-in-Argument : goal.sub-returns-in_err-i-in-Argument
sub-returns-in_err-i-in-Argument t c = rw c.from_residual.ensures (argument-stops c.loop-k.invariant (omega arith) c.slot_at.ensures c.in-Argument.is c.sup.ensures c.in_err-i-in-Argument.was)

pub sub-overflow_cast-bytes : goal.sub-overflow_cast-bytes
sub-overflow_cast-bytes t c = omega (arith, argument-byte c.loop-k.invariant (omega arith) c.slot_at.ensures c.in-Argument.is c.sup.ensures c.in_ok-i-in-Argument.was)

pub sub-returns-in_err-i-in-Answer : goal.sub-returns-in_err-i-in-Answer
sub-returns-in_err-i-in-Answer t c = rw c.from_residual-in_err-i-in-Answer.ensures (answer-stops c.loop-k.invariant (omega arith) c.slot_at.ensures c.in-Answer.is c.sub.ensures c.in_err-i-in-Answer.was)

pub sub-overflow_add-bytes : goal.sub-overflow_add-bytes
sub-overflow_add-bytes t c = omega (arith, answer-byte c.loop-k.invariant (omega arith) c.slot_at.ensures c.in-Answer.is c.sub.ensures c.in_ok-i-in-Answer.was)

pub sub-overflow_cast-bytes-in-Answer : goal.sub-overflow_cast-bytes-in-Answer
sub-overflow_cast-bytes-in-Answer t c = omega (arith, answer-byte c.loop-k.invariant (omega arith) c.slot_at.ensures c.in-Answer.is c.sub.ensures c.in_ok-i-in-Answer.was)

pub sub-loop-k-preserved : goal.sub-loop-k-preserved
sub-loop-k-preserved t c = elim c.match-slot_at.branch [
  | sub-in-Empty w ↦ rw (w.b-is, w.bytes-is, w.m-is) (empty-goes c.loop-k.invariant (omega arith) c.slot_at.ensures w.in-Empty.is)
  | sub-in-Argument+in_ok-i-in-Argument w ↦ rw (w.b-is, w.bytes-is, w.m-is)
      (argument-goes c.loop-k.invariant (omega arith) c.slot_at.ensures w.in-Argument.is w.sup.ensures w.in_ok-i-in-Argument.was)
  | sub-in-Answer+in_ok-i-in-Answer w ↦ rw (w.b-is, w.bytes-is, w.m-is)
      (answer-goes c.loop-k.invariant (omega arith) c.slot_at.ensures w.in-Answer.is w.sub.ensures w.in_ok-i-in-Answer.was)
]

pub sub-returns : goal.sub-returns
sub-returns t c = ends c.loop-k.invariant (omega arith) c.finish.ensures

pub sup-returns-in-Some : goal.sup-returns-in-Some
sup-returns-in-Some t c = settled sup c.requires c.in-Some.is c.begin.ensures

pub sup-loop-k-init : goal.sup-loop-k-init
sup-loop-k-init t c = loop-starts c.requires refl c.in_default.is c.begin.ensures c.start-w.ensures

pub sup-returns-in_err-i-in-Argument : goal.sup-returns-in_err-i-in-Argument
sup-returns-in_err-i-in-Argument t c = rw c.from_residual.ensures (argument-stops c.loop-k.invariant (omega arith) c.slot_at.ensures c.in-Argument.is c.sub.ensures c.in_err-i-in-Argument.was)

pub sup-overflow_cast-bytes : goal.sup-overflow_cast-bytes
sup-overflow_cast-bytes t c = omega (arith, argument-byte c.loop-k.invariant (omega arith) c.slot_at.ensures c.in-Argument.is c.sub.ensures c.in_ok-i-in-Argument.was)

pub sup-returns-in_err-i-in-Answer : goal.sup-returns-in_err-i-in-Answer
sup-returns-in_err-i-in-Answer t c = rw c.from_residual-in_err-i-in-Answer.ensures (answer-stops c.loop-k.invariant (omega arith) c.slot_at.ensures c.in-Answer.is c.sup.ensures c.in_err-i-in-Answer.was)

pub sup-overflow_add-bytes : goal.sup-overflow_add-bytes
sup-overflow_add-bytes t c = omega (arith, answer-byte c.loop-k.invariant (omega arith) c.slot_at.ensures c.in-Answer.is c.sup.ensures c.in_ok-i-in-Answer.was)

pub sup-overflow_cast-bytes-in-Answer : goal.sup-overflow_cast-bytes-in-Answer
sup-overflow_cast-bytes-in-Answer t c = omega (arith, answer-byte c.loop-k.invariant (omega arith) c.slot_at.ensures c.in-Answer.is c.sup.ensures c.in_ok-i-in-Answer.was)

pub sup-loop-k-preserved : goal.sup-loop-k-preserved
sup-loop-k-preserved t c = elim c.match-slot_at.branch [
  | sup-in-Empty w ↦ rw (w.b-is, w.bytes-is, w.m-is) (empty-goes c.loop-k.invariant (omega arith) c.slot_at.ensures w.in-Empty.is)
  | sup-in-Argument+in_ok-i-in-Argument w ↦ rw (w.b-is, w.bytes-is, w.m-is)
      (argument-goes c.loop-k.invariant (omega arith) c.slot_at.ensures w.in-Argument.is w.sub.ensures w.in_ok-i-in-Argument.was)
  | sup-in-Answer+in_ok-i-in-Answer w ↦ rw (w.b-is, w.bytes-is, w.m-is)
      (answer-goes c.loop-k.invariant (omega arith) c.slot_at.ensures w.in-Answer.is w.sup.ensures w.in_ok-i-in-Answer.was)
]

pub sup-returns : goal.sup-returns
sup-returns t c = ends c.loop-k.invariant (omega arith) c.finish.ensures
