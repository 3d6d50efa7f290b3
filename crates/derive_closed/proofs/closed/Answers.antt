-- Rests on Ends, as Sub and Sup do.
use mathlib.Core.Path.{refl}
use native.Mathlib.Omega.{arith}
use Rattle.spec_model.specs.Table.{closed}
use Rattle.derive_record.proofs.Begins.{closed-begins}
use Rattle.derive_sub_sup.proofs.Ends.{settled, loop-starts, empty-goes, argument-stops, argument-byte, argument-goes, answer-stops, answer-byte, answer-goes, ends}
use Rattle.derive_closed.proofs.closed.Goals as goal
use Rattle.derive_closed.proofs.closed.Goals.{in-Empty, in-Argument+in_ok-i-in-Argument, in-Answer+in_ok-i-in-Answer}

pub returns-in-Some : goal.returns-in-Some
returns-in-Some c = let a = c.args in settled closed c.requires.0 c.in-Some.is (closed-begins a.c a.c.types a.r a.v a.b.now c.search.result c.search.ensures)

pub loop-k-init : goal.loop-k-init
loop-k-init c = let a = c.args in
    loop-starts c.requires.0 refl c.in_default.is (closed-begins a.c a.c.types a.r a.v a.b.now c.search.result c.search.ensures) c.start-w.ensures

pub returns-in_err-i-in-Argument : goal.returns-in_err-i-in-Argument
returns-in_err-i-in-Argument c = rw c.from_residual.ensures
    (argument-stops c.loop-k.invariant (omega arith) c.slot_at.ensures c.in-Argument.is c.sup.ensures c.in_err-i-in-Argument.was)

pub overflow_cast-bytes : goal.overflow_cast-bytes
overflow_cast-bytes c = omega (arith, argument-byte c.loop-k.invariant (omega arith) c.slot_at.ensures c.in-Argument.is c.sup.ensures c.in_ok-i-in-Argument.was)

pub returns-in_err-i-in-Answer : goal.returns-in_err-i-in-Answer
returns-in_err-i-in-Answer c = rw c.from_residual-in_err-i-in-Answer.ensures
    (answer-stops c.loop-k.invariant (omega arith) c.slot_at.ensures c.in-Answer.is c.sub.ensures c.in_err-i-in-Answer.was)

pub overflow_add-bytes : goal.overflow_add-bytes
overflow_add-bytes c = omega (arith, answer-byte c.loop-k.invariant (omega arith) c.slot_at.ensures c.in-Answer.is c.sub.ensures c.in_ok-i-in-Answer.was)

pub overflow_cast-bytes-in-Answer : goal.overflow_cast-bytes-in-Answer
overflow_cast-bytes-in-Answer c = omega (arith, answer-byte c.loop-k.invariant (omega arith) c.slot_at.ensures c.in-Answer.is c.sub.ensures c.in_ok-i-in-Answer.was)

pub loop-k-preserved : goal.loop-k-preserved
loop-k-preserved c = elim c.match-slot_at.branch [
  | in-Empty w ↦ rw (w.b-is, w.bytes-is, w.m-is) (empty-goes c.loop-k.invariant (omega arith) c.slot_at.ensures w.in-Empty.is)
  | in-Argument+in_ok-i-in-Argument w ↦ rw (w.b-is, w.bytes-is, w.m-is)
      (argument-goes c.loop-k.invariant (omega arith) c.slot_at.ensures w.in-Argument.is w.sup.ensures w.in_ok-i-in-Argument.was)
  | in-Answer+in_ok-i-in-Answer w ↦ rw (w.b-is, w.bytes-is, w.m-is)
      (answer-goes c.loop-k.invariant (omega arith) c.slot_at.ensures w.in-Answer.is w.sub.ensures w.in_ok-i-in-Answer.was)
]

pub returns : goal.returns
returns c = ends c.loop-k.invariant (omega arith) c.finish.ensures
