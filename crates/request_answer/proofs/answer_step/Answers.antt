-- The tests of A1 and A2 in their order.
use mir.Facts.{to_z-of_z}
use mathlib.Core.Path.{refl, sym, ◌∙◌}
use Rattle.crossing_targets.specs.Targets.{option_of}
use Rattle.state_record.specs.Whole.{whole}
use Rattle.request_common.specs.Served.{done}
use Rattle.request_answer.proofs.Laws.{keeps_same, step-unknown-subject, step-not-held, step-goes}
use Rattle.request_answer.proofs.answer_step.Goals as goal

pub returns-then-not-is_subject : goal.returns-then-not-is_subject
returns-then-not-is_subject c = let a = c.args in let s = whole a.types.now a.s.now in (
  step-unknown-subject s c.requires a.subject a.call (option_of a.given) (sym (rw (to_z-of_z c.ranges.subject) at (c.is_subject.ensures s refl)) ∙ c.if-not-is_subject.true)
      _ refl,
  keeps_same a.given a.types.now,
)

pub returns-then-s-j : goal.returns-then-s-j
returns-then-s-j c = let a = c.args in let s = whole a.types.now a.s.now in (
  step-not-held s c.requires a.subject a.call (option_of a.given) (sym (rw (to_z-of_z c.ranges.subject) at (c.is_subject.ensures s refl)) ∙ c.if-not-is_subject.false)
      c.index_of-j.result (rw (to_z-of_z c.ranges.call) at c.index_of-j.ensures) c.if-s-j.true
      _ refl,
  keeps_same a.given a.types.now,
)

pub answer_call-requires : goal.answer_call-requires
answer_call-requires c = (c.requires, c.if-s-j.false)

pub returns : goal.returns
returns c = let a = c.args in let s = whole a.types.now a.s.now in (
  step-goes s c.requires a.subject a.call (option_of a.given) (sym (rw (to_z-of_z c.ranges.subject) at (c.is_subject.ensures s refl)) ∙ c.if-not-is_subject.false)
      c.index_of-j.result (rw (to_z-of_z c.ranges.call) at c.index_of-j.ensures) c.if-s-j.false
      c.index_of-who.result (rw (to_z-of_z c.ranges.subject) at c.index_of-who.ensures)
      (done c.answer_call.new.types c.answer_call.new.s c.answer_call.result)
      c.answer_call.ensures.0,
  c.answer_call.ensures.1,
)
