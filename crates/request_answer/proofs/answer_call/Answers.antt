-- The tests of A2 and A3, on the records of the call and of its cell.
use native.Mathlib.Omega.{arith}
use mathlib.Core.Path.{refl}
use Rattle.crossing_targets.specs.Targets.{option_of}
use Rattle.state_record.specs.Whole.{whole}
use Rattle.state_record.proofs.Kept.{sound-few}
use Rattle.request_common.specs.Served.{done}
use Rattle.request_answer.proofs.Laws.{keeps_same, cell-low, called, owner-not-held, answered-already, call-gives}
use Rattle.request_answer.proofs.answer_call.Goals as goal

pub at-x-requires : goal.at-x-requires
at-x-requires c = omega (arith, c.requires.1, sound-few _ c.requires.0)

pub at-c-requires : goal.at-c-requires
at-c-requires c = let a = c.args in let s = whole a.types.now a.s.now in let h = c.requires in
    let l = (cell-low s h.0 a.j h.1 c.at-x.result (c.at-x.ensures.1 h.1) c.from.result c.from.ensures) in omega (arith, l, h.0.cell_count)

pub base_owner-owner-requires : goal.base_owner-owner-requires
base_owner-owner-requires c = let a = c.args in let s = whole a.types.now a.s.now in let h = c.requires in
    let k = (called s h.0 a.j h.1 c.at-x.result (c.at-x.ensures.1 h.1) c.from.result c.from.ensures c.at-c.result (c.at-c.ensures.1 (cell-low s h.0 a.j h.1 c.at-x.result (c.at-x.ensures.1 h.1) c.from.result c.from.ensures))) in (h.0.descending, omega (arith, k.place, c.from-2.ensures))

pub returns-then-owner-who : goal.returns-then-owner-who
returns-then-owner-who c = let a = c.args in let s = whole a.types.now a.s.now in let h = c.requires in (
  λ subject w.
      owner-not-held s h.0 subject a.j (option_of a.given) c.at-x.result c.at-c.result (called s h.0 a.j h.1 c.at-x.result (c.at-x.ensures.1 h.1) c.from.result c.from.ensures c.at-c.result (c.at-c.ensures.1 (cell-low s h.0 a.j h.1 c.at-x.result (c.at-x.ensures.1 h.1) c.from.result c.from.ensures))) c.from-2.result
      c.base_owner-owner.result a.who c.from-2.ensures c.base_owner-owner.ensures.0 w c.if-owner-who.true
      _ refl,
  keeps_same a.given a.types.now,
)

pub returns-then-x : goal.returns-then-x
returns-then-x c = let a = c.args in let s = whole a.types.now a.s.now in let h = c.requires in (
  λ subject w.
      answered-already s h.0 subject a.j (option_of a.given) c.at-x.result c.at-c.result (called s h.0 a.j h.1 c.at-x.result (c.at-x.ensures.1 h.1) c.from.result c.from.ensures c.at-c.result (c.at-c.ensures.1 (cell-low s h.0 a.j h.1 c.at-x.result (c.at-x.ensures.1 h.1) c.from.result c.from.ensures)))
      c.from-2.result c.base_owner-owner.result a.who c.from-2.ensures
      c.base_owner-owner.ensures.0 w c.if-owner-who.false c.if-x.true _
      refl,
  keeps_same a.given a.types.now,
)

pub give-requires : goal.give-requires
give-requires c = let a = c.args in let s = whole a.types.now a.s.now in let h = c.requires in (h.0, (called s h.0 a.j h.1 c.at-x.result (c.at-x.ensures.1 h.1) c.from.result c.from.ensures c.at-c.result (c.at-c.ensures.1 (cell-low s h.0 a.j h.1 c.at-x.result (c.at-x.ensures.1 h.1) c.from.result c.from.ensures))))

pub returns : goal.returns
returns c = let a = c.args in let s = whole a.types.now a.s.now in let h = c.requires in (
  λ subject w.
      call-gives s h.0 subject a.j (option_of a.given) c.at-x.result c.at-c.result (called s h.0 a.j h.1 c.at-x.result (c.at-x.ensures.1 h.1) c.from.result c.from.ensures c.at-c.result (c.at-c.ensures.1 (cell-low s h.0 a.j h.1 c.at-x.result (c.at-x.ensures.1 h.1) c.from.result c.from.ensures)))
      c.from-2.result c.base_owner-owner.result a.who c.from-2.ensures
      c.base_owner-owner.ensures.0 w c.if-owner-who.false c.if-x.false (done c.give.new.types c.give.new.s c.give.result)
      (c.give.ensures.0 subject w),
  c.give.ensures.1,
)
