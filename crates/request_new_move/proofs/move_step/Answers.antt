-- One law for each test. The tests that are passed and the operands as indices are facts of their place; a signed local is kept as 64 bits, from which `to_z-of_z` reads it back.
use mathlib.Core.Path.{refl, sym, ◌∙◌}
use native.Mathlib.Omega.{arith}
use mir.Facts.{to_z-of_z}
use Rattle.state_record.specs.Whole.{whole}
use Rattle.request_common.proofs.Laws.{step-refuses, step-as, subject-at, sheet-at, held_at}
use Rattle.request_new_move.proofs.Laws.{move-unknown-subject, move-receiver, move-not-held, move-unknown-type, move-sends, move-goes}
use Rattle.request_new_move.proofs.move_step.Goals as goal

pub returns-then-not-is_subject : goal.returns-then-not-is_subject
returns-then-not-is_subject c = let a = c.args in let s = whole a.types.now a.s.now in
    step-refuses c.requires (move-unknown-subject s a.subject a.cell a.receiver a.to (sym (rw (to_z-of_z c.ranges.subject) at (c.is_subject.ensures s refl)) ∙ c.if-not-is_subject.true)) refl

pub returns-then-not-is_subject-2 : goal.returns-then-not-is_subject-2
returns-then-not-is_subject-2 c = let a = c.args in let s = whole a.types.now a.s.now in
    step-refuses c.requires (move-receiver s a.subject a.cell a.receiver a.to (sym (rw (to_z-of_z c.ranges.subject) at (c.is_subject.ensures s refl)) ∙ c.if-not-is_subject.false) (sym (rw (to_z-of_z c.ranges.receiver) at (c.is_subject-2.ensures s refl)) ∙ c.if-not-is_subject-2.true)) refl

pub is_held-requires : goal.is_held-requires
is_held-requires c = c.requires.cell_count

pub returns-then-not-is_held : goal.returns-then-not-is_held
returns-then-not-is_held c = let a = c.args in let s = whole a.types.now a.s.now in
    step-refuses c.requires (move-not-held s a.subject a.cell a.receiver a.to (sym (rw (to_z-of_z c.ranges.subject) at (c.is_subject.ensures s refl)) ∙ c.if-not-is_subject.false) (sym (rw (to_z-of_z c.ranges.receiver) at (c.is_subject-2.ensures s refl)) ∙ c.if-not-is_subject-2.false) (sym (rw (to_z-of_z c.ranges.cell) at (c.is_held.ensures s a.subject refl (sym (subject-at s a.subject _ (rw (to_z-of_z c.ranges.subject) at c.index_of-who.ensures) (sym (rw (to_z-of_z c.ranges.subject) at (c.is_subject.ensures s refl)) ∙ c.if-not-is_subject.false)).0))) ∙ c.if-not-is_held.true)) refl

pub is_sheet_ref-requires : goal.is_sheet_ref-requires
is_sheet_ref-requires c = c.requires.checked.limits

pub returns-then-not-is_sheet_ref : goal.returns-then-not-is_sheet_ref
returns-then-not-is_sheet_ref c = let a = c.args in let s = whole a.types.now a.s.now in
    step-refuses c.requires (move-unknown-type s a.subject a.cell a.receiver a.to (sym (rw (to_z-of_z c.ranges.subject) at (c.is_subject.ensures s refl)) ∙ c.if-not-is_subject.false) (sym (rw (to_z-of_z c.ranges.receiver) at (c.is_subject-2.ensures s refl)) ∙ c.if-not-is_subject-2.false) (sym (rw (to_z-of_z c.ranges.cell) at (c.is_held.ensures s a.subject refl (sym (subject-at s a.subject _ (rw (to_z-of_z c.ranges.subject) at c.index_of-who.ensures) (sym (rw (to_z-of_z c.ranges.subject) at (c.is_subject.ensures s refl)) ∙ c.if-not-is_subject.false)).0))) ∙ c.if-not-is_held.false) (sym (rw (to_z-of_z c.ranges.to) at (c.is_sheet_ref.ensures s refl refl)) ∙ c.if-not-is_sheet_ref.true)) refl

pub at-moved-requires : goal.at-moved-requires
at-moved-requires c = let a = c.args in let s = whole a.types.now a.s.now in
    omega (arith, (held_at s a.cell _ (rw (to_z-of_z c.ranges.cell) at c.index_of.ensures) a.subject (sym (rw (to_z-of_z c.ranges.cell) at (c.is_held.ensures s a.subject refl (sym (subject-at s a.subject _ (rw (to_z-of_z c.ranges.subject) at c.index_of-who.ensures) (sym (rw (to_z-of_z c.ranges.subject) at (c.is_subject.ensures s refl)) ∙ c.if-not-is_subject.false)).0))) ∙ c.if-not-is_held.false)).1, c.requires.cell_count)

pub send-requires : goal.send-requires
send-requires c = let a = c.args in let s = whole a.types.now a.s.now in
    move-sends s a.subject a.cell a.receiver a.to (sym (rw (to_z-of_z c.ranges.subject) at (c.is_subject.ensures s refl)) ∙ c.if-not-is_subject.false) (sym (rw (to_z-of_z c.ranges.receiver) at (c.is_subject-2.ensures s refl)) ∙ c.if-not-is_subject-2.false) (sym (rw (to_z-of_z c.ranges.cell) at (c.is_held.ensures s a.subject refl (sym (subject-at s a.subject _ (rw (to_z-of_z c.ranges.subject) at c.index_of-who.ensures) (sym (rw (to_z-of_z c.ranges.subject) at (c.is_subject.ensures s refl)) ∙ c.if-not-is_subject.false)).0))) ∙ c.if-not-is_held.false) (sym (rw (to_z-of_z c.ranges.to) at (c.is_sheet_ref.ensures s refl refl)) ∙ c.if-not-is_sheet_ref.false) _ (held_at s a.cell _ (rw (to_z-of_z c.ranges.cell) at c.index_of.ensures) a.subject (sym (rw (to_z-of_z c.ranges.cell) at (c.is_held.ensures s a.subject refl (sym (subject-at s a.subject _ (rw (to_z-of_z c.ranges.subject) at c.index_of-who.ensures) (sym (rw (to_z-of_z c.ranges.subject) at (c.is_subject.ensures s refl)) ∙ c.if-not-is_subject.false)).0))) ∙ c.if-not-is_held.false)).0 c.at-moved.result
    (c.at-moved.ensures.1 (held_at s a.cell _ (rw (to_z-of_z c.ranges.cell) at c.index_of.ensures) a.subject (sym (rw (to_z-of_z c.ranges.cell) at (c.is_held.ensures s a.subject refl (sym (subject-at s a.subject _ (rw (to_z-of_z c.ranges.subject) at c.index_of-who.ensures) (sym (rw (to_z-of_z c.ranges.subject) at (c.is_subject.ensures s refl)) ∙ c.if-not-is_subject.false)).0))) ∙ c.if-not-is_held.false)).1) _ _ _ _ c.from.ensures c.from-2.ensures c.requires (held_at s a.cell _ (rw (to_z-of_z c.ranges.cell) at c.index_of.ensures) a.subject (sym (rw (to_z-of_z c.ranges.cell) at (c.is_held.ensures s a.subject refl (sym (subject-at s a.subject _ (rw (to_z-of_z c.ranges.subject) at c.index_of-who.ensures) (sym (rw (to_z-of_z c.ranges.subject) at (c.is_subject.ensures s refl)) ∙ c.if-not-is_subject.false)).0))) ∙ c.if-not-is_held.false)).1 (subject-at s a.receiver _ (rw (to_z-of_z c.ranges.receiver) at c.index_of-r.ensures) (sym (rw (to_z-of_z c.ranges.receiver) at (c.is_subject-2.ensures s refl)) ∙ c.if-not-is_subject-2.false)).1

pub returns : goal.returns
returns c = let a = c.args in let s = whole a.types.now a.s.now in
    step-as (move-goes s a.subject a.cell a.receiver a.to (sym (rw (to_z-of_z c.ranges.subject) at (c.is_subject.ensures s refl)) ∙ c.if-not-is_subject.false) (sym (rw (to_z-of_z c.ranges.receiver) at (c.is_subject-2.ensures s refl)) ∙ c.if-not-is_subject-2.false) (sym (rw (to_z-of_z c.ranges.cell) at (c.is_held.ensures s a.subject refl (sym (subject-at s a.subject _ (rw (to_z-of_z c.ranges.subject) at c.index_of-who.ensures) (sym (rw (to_z-of_z c.ranges.subject) at (c.is_subject.ensures s refl)) ∙ c.if-not-is_subject.false)).0))) ∙ c.if-not-is_held.false) (sym (rw (to_z-of_z c.ranges.to) at (c.is_sheet_ref.ensures s refl refl)) ∙ c.if-not-is_sheet_ref.false) _ (held_at s a.cell _ (rw (to_z-of_z c.ranges.cell) at c.index_of.ensures) a.subject (sym (rw (to_z-of_z c.ranges.cell) at (c.is_held.ensures s a.subject refl (sym (subject-at s a.subject _ (rw (to_z-of_z c.ranges.subject) at c.index_of-who.ensures) (sym (rw (to_z-of_z c.ranges.subject) at (c.is_subject.ensures s refl)) ∙ c.if-not-is_subject.false)).0))) ∙ c.if-not-is_held.false)).0 c.at-moved.result
    (c.at-moved.ensures.1 (held_at s a.cell _ (rw (to_z-of_z c.ranges.cell) at c.index_of.ensures) a.subject (sym (rw (to_z-of_z c.ranges.cell) at (c.is_held.ensures s a.subject refl (sym (subject-at s a.subject _ (rw (to_z-of_z c.ranges.subject) at c.index_of-who.ensures) (sym (rw (to_z-of_z c.ranges.subject) at (c.is_subject.ensures s refl)) ∙ c.if-not-is_subject.false)).0))) ∙ c.if-not-is_held.false)).1) _ _ _ _ c.from.ensures c.from-2.ensures (sheet-at s a.to _ (rw (to_z-of_z c.ranges.to) at c.index_of-target.ensures) _ (sym (rw (to_z-of_z c.ranges.to) at (c.is_sheet_ref.ensures s refl refl)) ∙ c.if-not-is_sheet_ref.false)).0 (subject-at s a.receiver _ (rw (to_z-of_z c.ranges.receiver) at c.index_of-r.ensures) (sym (rw (to_z-of_z c.ranges.receiver) at (c.is_subject-2.ensures s refl)) ∙ c.if-not-is_subject-2.false)).0) c.send.ensures
