-- Each case of what is due and what is given is a case of the model's `give`.
use mir.Syntax.{w64}
use mir.Facts.{to_z-of_z}
use Rattle.std.proofs.Common.{SFits}
use mathlib.Core.Path.{refl, sym, ap, ◌∙◌}
use Prim.Native.Nat.{ℕ}
use Rattle.std.specs.Prelude.{Some}
use borrow.Author.Rules.{rules}
use Rattle.state_record.specs.Whole.{whole}
use Rattle.request_common.specs.Served.{done}
use Rattle.state_record.proofs.Kept.{sound-few}
use Rattle.request_answer.proofs.Laws.{keeps_same, keeps-any, due-is, given-idle, given_nothing, given-lacks, given-value}
use Rattle.request_answer.proofs.give.Goals as goal

pub target_at-due-requires : goal.target_at-due-requires
target_at-due-requires c = c.requires.0.checked.limits

pub answered-requires : goal.answered-requires
answered-requires c = (c.requires.1.number, sound-few _ c.requires.0)

pub returns-in-Some-Some : goal.returns-in-Some-Some
returns-in-Some-Some c = let a = c.args in let s = whole a.types.now a.s.now in let i = c.in-Some-Some in (
  λ subject w. let z : SFits w64 i.v = search rules in
      given-value s c.requires.0 subject a.j c.target_at-due.result (due-is s a.j a.x a.c c.requires.1 c.from.result c.from-2.result c.target_at-due.result c.from.ensures c.from-2.ensures c.target_at-due.ensures)
      a.given (done c.give_value.new.types c.give_value.new.s c.give_value.result) c.from-in-Some-Some.result
      (i.is-0 ∙ ap (λ (k : ℕ). Some k) (sym c.from-in-Some-Some.ensures)) i.v i.is-1 (rw (to_z-of_z z) at (c.give_value.ensures subject w)),
  keeps-any a.given i.v i.is-1 a.types.now c.give_value.new.types,
)

pub returns-in-None-None : goal.returns-in-None-None
returns-in-None-None c = let a = c.args in let s = whole a.types.now a.s.now in (
  λ subject w. given_nothing s c.requires.0 subject a.j c.target_at-due.result (due-is s a.j a.x a.c c.requires.1 c.from.result c.from-2.result c.target_at-due.result c.from.ensures c.from-2.ensures c.target_at-due.ensures)
      a.given _ c.in-None-None.is-0 c.in-None-None.is-1 (c.answered.ensures a.types.now c.requires.0),
  keeps_same a.given a.types.now,
)

pub returns-in_default : goal.returns-in_default
returns-in_default c = let a = c.args in let s = whole a.types.now a.s.now in (
  λ subject w. given-lacks s c.requires.0 subject a.j c.target_at-due.result (due-is s a.j a.x a.c c.requires.1 c.from.result c.from-2.result c.target_at-due.result c.from.ensures c.from-2.ensures c.target_at-due.ensures)
      a.given _ _ c.in_default.is-0 c.in_default.is-1 refl,
  keeps_same a.given a.types.now,
)

pub returns-in_default-2 : goal.returns-in_default-2
returns-in_default-2 c = let a = c.args in let s = whole a.types.now a.s.now in (
  λ subject w. given-idle s c.requires.0 subject a.j c.target_at-due.result (due-is s a.j a.x a.c c.requires.1 c.from.result c.from-2.result c.target_at-due.result c.from.ensures c.from-2.ensures c.target_at-due.ensures)
      a.given _ c.in_default.is-0 _ c.in_default.is-1 refl,
  keeps_same a.given a.types.now,
)
