-- A reference must be held and crosses; a number passes.
use mir.Facts.{to_z-of_z}
use mathlib.Core.Path.{refl, sym, ◌∙◌}
use native.Mathlib.Omega.{arith}
use Rattle.std.proofs.lemmas.Result.{err_from_is_err_and}
use Rattle.state_record.specs.Whole.{whole}
use Rattle.state_record.proofs.Kept.{sound-few}
use Rattle.request_common.specs.Served.{done}
use Rattle.crossing_targets.specs.Targets.{targets_in}
use Rattle.request_answer.proofs.Laws.{value-wrong-values, value-reference, number-refused, number-answers}
use Rattle.request_answer.proofs.give_value.Goals as goal

pub answers_met-targets-requires : goal.answers_met-targets-requires
answers_met-targets-requires c = c.requires

pub names_ref-requires : goal.names_ref-requires
names_ref-requires c = c.requires.0.checked.limits.types

pub is_held-requires : goal.is_held-requires
is_held-requires c = c.requires.0.cell_count

pub returns-then-not-is_held : goal.returns-then-not-is_held
returns-then-not-is_held c = λ subject w. let a = c.args in let s = whole a.types.now a.s.now in
    value-wrong-values s c.requires.0 subject a.j a.x a.c c.requires.1 a.a a.v (targets_in c.answers_met-targets.result) c.answers_met-targets.ensures.0 c.names_ref.result c.names_ref.ensures c.if-names_ref.true
    (sym (rw (to_z-of_z c.ranges.v) at (c.is_held.ensures s subject refl w)) ∙ c.if-not-is_held.true) _ refl

pub give_reference-requires : goal.give_reference-requires
give_reference-requires c = let h = c.requires in
    (h.0, h.1.number, omega (arith, h.1.place), omega (arith, h.1.ty), omega (arith, c.from-caller.ensures), c.answers_met-targets.ensures.1)

pub returns-then-names_ref : goal.returns-then-names_ref
returns-then-names_ref c = λ subject w. let a = c.args in let s = whole a.types.now a.s.now in
    value-reference s c.requires.0 subject a.j a.x a.c c.requires.1 a.a a.v (targets_in c.answers_met-targets.result) c.answers_met-targets.ensures.0 c.names_ref.result c.names_ref.ensures c.if-names_ref.true
    (sym (rw (to_z-of_z c.ranges.v) at (c.is_held.ensures s subject refl w)) ∙ c.if-not-is_held.false) _ c.from-caller.ensures
    (done c.give_reference.new.types c.give_reference.new.s c.give_reference.result) (rw (to_z-of_z c.ranges.v) at c.give_reference.ensures)

pub pass-requires : goal.pass-requires
pass-requires c = (c.requires.0.checked.limits, c.answers_met-targets.ensures.1)

pub returns-in_err-pass : goal.returns-in_err-pass
returns-in_err-pass c = λ subject w. let a = c.args in let s = whole a.types.now a.s.now in
    let p = err_from_is_err_and c.from_residual.result c.from_residual.ensures.1 in
    rw (p.1, p.2) (number-refused s c.requires.0 subject a.j a.x a.c c.requires.1 a.a a.v (targets_in c.answers_met-targets.result) c.answers_met-targets.ensures.0 c.names_ref.result c.names_ref.ensures c.if-names_ref.false
    c.pass.result (rw (to_z-of_z c.ranges.v) at c.pass.ensures) _ c.in_err-pass.was _ refl)

pub answered-requires : goal.answered-requires
answered-requires c = (c.requires.1.number, sound-few _ c.requires.0)

pub returns : goal.returns
returns c = λ subject w. let a = c.args in let s = whole a.types.now a.s.now in
    number-answers s c.requires.0 subject a.j a.x a.c c.requires.1 a.a a.v (targets_in c.answers_met-targets.result) c.answers_met-targets.ensures.0 c.names_ref.result c.names_ref.ensures c.if-names_ref.false
    c.pass.result (rw (to_z-of_z c.ranges.v) at c.pass.ensures) _ c.in_ok-pass.was _
    (rw (to_z-of_z c.ranges.v) at (c.answered.ensures a.types.now c.requires.0))
