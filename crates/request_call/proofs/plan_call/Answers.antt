-- The tests of C1 to C3 in their order; what passed names the subject, the cell and the method.
use mir.Facts.{to_z-of_z}
use mathlib.Core.Path.{refl, sym, ◌∙◌}
use Rattle.state_record.specs.Whole.{whole}
use Rattle.request_call.proofs.Calling.{planned-as, asked-unknown-subject, who-named, asked-not-held, cell-here, asked-not-callable, asked-goes}
use Rattle.request_call.proofs.plan_call.Goals as goal

pub returns-then-not-is_subject : goal.returns-then-not-is_subject
returns-then-not-is_subject c = let a = c.args in let s = whole a.types.now a.s.now in let f = c.ranges in
    (asked-unknown-subject s c.requires a.subject a.cell a.method a.arguments.now
    (sym (rw (to_z-of_z f.subject) at (c.is_subject.ensures s refl)) ∙ c.if-not-is_subject.true))

pub is_held-requires : goal.is_held-requires
is_held-requires c = c.requires.cell_count

pub returns-then-not-is_held : goal.returns-then-not-is_held
returns-then-not-is_held c =
    let a = c.args in let s = whole a.types.now a.s.now in let f = c.ranges in
    let known = sym (rw (to_z-of_z f.subject) at (c.is_subject.ensures s refl))
    ∙ c.if-not-is_subject.false in
    let who = rw (to_z-of_z f.subject) at c.index_of-who.ensures in
    let w = who-named s c.requires a.subject a.cell a.method a.arguments.now known
    c.index_of-who.result who in
    (asked-not-held s c.requires a.subject a.cell a.method a.arguments.now known
    c.index_of-who.result who
    (sym (rw (to_z-of_z f.cell) at (c.is_held.ensures s a.subject refl w.0)) ∙ c.if-not-is_held.true))

pub returns-then-counts-m : goal.returns-then-counts-m
returns-then-counts-m c =
    let a = c.args in let s = whole a.types.now a.s.now in let f = c.ranges in
    let known = sym (rw (to_z-of_z f.subject) at (c.is_subject.ensures s refl))
    ∙ c.if-not-is_subject.false in
    let who = rw (to_z-of_z f.subject) at c.index_of-who.ensures in
    let w = who-named s c.requires a.subject a.cell a.method a.arguments.now
    known c.index_of-who.result who in
    let has = sym (rw (to_z-of_z f.cell) at (c.is_held.ensures s a.subject refl w.0))
    ∙ c.if-not-is_held.false in
    (asked-not-callable s c.requires a.subject a.cell a.method a.arguments.now known
    c.index_of-who.result who has
    c.index_of-k.result (rw (to_z-of_z f.cell) at c.index_of-k.ensures)
    c.index_of-m.result (rw (to_z-of_z f.method) at c.index_of-m.ensures) c.if-counts-m.true)

pub plan_held-requires : goal.plan_held-requires
plan_held-requires c =
    let a = c.args in let s = whole a.types.now a.s.now in let f = c.ranges in
    let known = sym (rw (to_z-of_z f.subject) at (c.is_subject.ensures s refl))
    ∙ c.if-not-is_subject.false in
    let who = rw (to_z-of_z f.subject) at c.index_of-who.ensures in
    let w = who-named s c.requires a.subject a.cell a.method a.arguments.now known
    c.index_of-who.result who in
    let has = sym (rw (to_z-of_z f.cell) at (c.is_held.ensures s a.subject refl w.0))
    ∙ c.if-not-is_held.false in
    let k = cell-here s c.requires a.subject a.cell a.method a.arguments.now known
    c.index_of-who.result who has
    c.index_of-k.result (rw (to_z-of_z f.cell) at c.index_of-k.ensures)
    c.index_of-m.result (rw (to_z-of_z f.method) at c.index_of-m.ensures) in
    (c.requires, w.1, k.1, c.if-counts-m.false)

pub returns : goal.returns
returns c =
    let a = c.args in let s = whole a.types.now a.s.now in let f = c.ranges in
    let known = sym (rw (to_z-of_z f.subject) at (c.is_subject.ensures s refl))
    ∙ c.if-not-is_subject.false in
    let who = rw (to_z-of_z f.subject) at c.index_of-who.ensures in
    let w = who-named s c.requires a.subject a.cell a.method a.arguments.now
    known c.index_of-who.result who in
    let has = sym (rw (to_z-of_z f.cell) at (c.is_held.ensures s a.subject refl w.0))
    ∙ c.if-not-is_held.false in
    planned-as s a.arguments.now
    (asked-goes s c.requires a.subject a.cell a.method a.arguments.now known
    c.index_of-who.result who has
    c.index_of-k.result (rw (to_z-of_z f.cell) at c.index_of-k.ensures)
    c.index_of-m.result (rw (to_z-of_z f.method) at c.index_of-m.ensures) c.if-counts-m.false)
    c.plan_held.result (c.plan_held.ensures a.subject w.0)
