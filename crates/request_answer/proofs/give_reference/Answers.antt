-- A refusal ends it (`reference-stops`); else the call is answered in the state that the crossing left.
use mir.Facts.{to_z-of_z}
use native.Mathlib.Omega.{arith}
use Rattle.std.proofs.lemmas.Result.{err_from_is_err_and}
use Rattle.state_record.specs.Whole.{whole}
use Rattle.state_record.proofs.Kept.{sound-few}
use Rattle.request_value.proofs.Sending.{went-counted}
use Rattle.crossing_targets.specs.Targets.{targets_in}
use Rattle.request_answer.proofs.Laws.{reference-stops, reference-answers}
use Rattle.request_answer.proofs.give_reference.Goals as goal

pub send-requires : goal.send-requires
send-requires c = let h = c.requires in (h.0, h.2, h.3, h.4, h.5)

pub returns-in_err-answer : goal.returns-in_err-answer
returns-in_err-answer c = let a = c.args in let s = whole a.types.now a.s.now in let q = c.send in
    let p = err_from_is_err_and c.from_residual.result c.from_residual.ensures.1 in
    rw (p.1, p.2) (reference-stops s a.j a.r a.v (targets_in a.targets) (whole q.new.types q.new.s) _ (rw (to_z-of_z c.ranges.v) at c.in_err-answer.ensures).0)

pub answered-requires : goal.answered-requires
answered-requires c = let k = c.in_ok-answer.ensures in (omega (arith, went-counted k.1, c.requires.1), sound-few _ k.0.sound)

pub returns : goal.returns
returns c = let a = c.args in let s = whole a.types.now a.s.now in let q = c.send in let k = rw (to_z-of_z c.ranges.v) at c.in_ok-answer.ensures in
    reference-answers s a.j a.r a.v (targets_in a.targets) (whole q.new.types q.new.s) _ k.0 _ (c.answered.ensures q.new.types k.0.sound)
