-- One law for each test. The tests that are passed and the operands as indices are facts of their place; a signed local is kept as 64 bits, from which `to_z-of_z` reads it back.
use mathlib.Core.Path.{refl, sym, ◌∙◌}
use native.Mathlib.Omega.{arith}
use mir.Facts.{to_z-of_z}
use Rattle.state_record.specs.Whole.{whole}
use Rattle.request_common.proofs.Laws.{step-refuses, step-as, subject-at, sheet-at}
use Rattle.request_new_move.proofs.Laws.{new-unknown-subject, new-class, new-type, new-places-full, new-sends, new-goes}
use Rattle.request_new_move.proofs.new_step.Goals as goal

pub returns-then-not-is_subject : goal.returns-then-not-is_subject
returns-then-not-is_subject c = let a = c.args in let s = whole a.types.now a.s.now in
    step-refuses c.requires (new-unknown-subject s a.subject a.class a.to (sym (rw (to_z-of_z c.ranges.subject) at (c.is_subject.ensures s refl)) ∙ c.if-not-is_subject.true)) refl

pub is_sheet_class-requires : goal.is_sheet_class-requires
is_sheet_class-requires c = c.requires.checked.limits

pub returns-then-not-is_sheet_class : goal.returns-then-not-is_sheet_class
returns-then-not-is_sheet_class c = let a = c.args in let s = whole a.types.now a.s.now in
    step-refuses c.requires (new-class s a.subject a.class a.to (sym (rw (to_z-of_z c.ranges.subject) at (c.is_subject.ensures s refl)) ∙ c.if-not-is_subject.false) (sym (rw (to_z-of_z c.ranges.class) at (c.is_sheet_class.ensures s refl refl)) ∙ c.if-not-is_sheet_class.true)) refl

pub is_sheet_ref-requires : goal.is_sheet_ref-requires
is_sheet_ref-requires c = c.requires.checked.limits

pub returns-then-not-is_sheet_ref : goal.returns-then-not-is_sheet_ref
returns-then-not-is_sheet_ref c = let a = c.args in let s = whole a.types.now a.s.now in
    step-refuses c.requires (new-type s a.subject a.class a.to (sym (rw (to_z-of_z c.ranges.subject) at (c.is_subject.ensures s refl)) ∙ c.if-not-is_subject.false) (sym (rw (to_z-of_z c.ranges.class) at (c.is_sheet_class.ensures s refl refl)) ∙ c.if-not-is_sheet_class.false) (sym (rw (to_z-of_z c.ranges.to) at (c.is_sheet_ref.ensures s refl refl)) ∙ c.if-not-is_sheet_ref.true)) refl

pub returns-then-ps-ge-PLACES : goal.returns-then-ps-ge-PLACES
returns-then-ps-ge-PLACES c = let a = c.args in let s = whole a.types.now a.s.now in
    step-refuses c.requires (new-places-full s a.subject a.class a.to (sym (rw (to_z-of_z c.ranges.subject) at (c.is_subject.ensures s refl)) ∙ c.if-not-is_subject.false) (sym (rw (to_z-of_z c.ranges.class) at (c.is_sheet_class.ensures s refl refl)) ∙ c.if-not-is_sheet_class.false) (sym (rw (to_z-of_z c.ranges.to) at (c.is_sheet_ref.ensures s refl refl)) ∙ c.if-not-is_sheet_ref.false) c.if-ps-ge-PLACES.true) refl

pub make-made-requires : goal.make-made-requires
make-made-requires c = let a = c.args in let s = whole a.types.now a.s.now in let h = c.requires in
    (h.descending, c.if-ps-ge-PLACES.false, omega (arith, (sheet-at s a.class _ (rw (to_z-of_z c.ranges.class) at c.index_of-ty.ensures) _ (sym (rw (to_z-of_z c.ranges.class) at (c.is_sheet_class.ensures s refl refl)) ∙ c.if-not-is_sheet_class.false)).1, h.checked.limits.sheet), omega (arith, (subject-at s a.subject _ (rw (to_z-of_z c.ranges.subject) at c.index_of-owner.ensures) (sym (rw (to_z-of_z c.ranges.subject) at (c.is_subject.ensures s refl)) ∙ c.if-not-is_subject.false)).1, h.checked.limits.subjects))

pub send-requires : goal.send-requires
send-requires c = let a = c.args in let s = whole a.types.now a.s.now in
    new-sends s a.subject a.class a.to (sym (rw (to_z-of_z c.ranges.subject) at (c.is_subject.ensures s refl)) ∙ c.if-not-is_subject.false) (sym (rw (to_z-of_z c.ranges.class) at (c.is_sheet_class.ensures s refl refl)) ∙ c.if-not-is_sheet_class.false) (sym (rw (to_z-of_z c.ranges.to) at (c.is_sheet_ref.ensures s refl refl)) ∙ c.if-not-is_sheet_ref.false) c.requires c.if-ps-ge-PLACES.false _ _ _ (subject-at s a.subject _ (rw (to_z-of_z c.ranges.subject) at c.index_of-owner.ensures) (sym (rw (to_z-of_z c.ranges.subject) at (c.is_subject.ensures s refl)) ∙ c.if-not-is_subject.false)).1 (sheet-at s a.class _ (rw (to_z-of_z c.ranges.class) at c.index_of-ty.ensures) _ (sym (rw (to_z-of_z c.ranges.class) at (c.is_sheet_class.ensures s refl refl)) ∙ c.if-not-is_sheet_class.false)).1 _ c.make-made.ensures

pub returns : goal.returns
returns c = let a = c.args in let s = whole a.types.now a.s.now in
    step-as (new-goes s a.subject a.class a.to (sym (rw (to_z-of_z c.ranges.subject) at (c.is_subject.ensures s refl)) ∙ c.if-not-is_subject.false) (sym (rw (to_z-of_z c.ranges.class) at (c.is_sheet_class.ensures s refl refl)) ∙ c.if-not-is_sheet_class.false) (sym (rw (to_z-of_z c.ranges.to) at (c.is_sheet_ref.ensures s refl refl)) ∙ c.if-not-is_sheet_ref.false) c.if-ps-ge-PLACES.false _ _ _ (subject-at s a.subject _ (rw (to_z-of_z c.ranges.subject) at c.index_of-owner.ensures) (sym (rw (to_z-of_z c.ranges.subject) at (c.is_subject.ensures s refl)) ∙ c.if-not-is_subject.false)).0 (sheet-at s a.class _ (rw (to_z-of_z c.ranges.class) at c.index_of-ty.ensures) _ (sym (rw (to_z-of_z c.ranges.class) at (c.is_sheet_class.ensures s refl refl)) ∙ c.if-not-is_sheet_class.false)).0 (sheet-at s a.to _ (rw (to_z-of_z c.ranges.to) at c.index_of-target.ensures) _ (sym (rw (to_z-of_z c.ranges.to) at (c.is_sheet_ref.ensures s refl refl)) ∙ c.if-not-is_sheet_ref.false)).0 _ c.make-made.ensures) c.send.ensures
