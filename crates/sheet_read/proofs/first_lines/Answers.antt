-- The first four lines in turn: a refusal of one is that of all (`step-no`), an accepted one hands on to the next (`step_ok`).
use mathlib.Core.Path.{◌≡◌, ap, ◌∙◌}
use Prim.Native.Nat.{ℕ}
use lib.ListN.{drop}
use Rattle.std.proofs.Common.{rules}
use Rattle.std.specs.Prelude.{Ok, Err}
use Rattle.spec_sheet.specs.Lines.{bytes, split, line}
use Rattle.spec_sheet.specs.Sheet.{number_line}
use Rattle.text_read.specs.View.{reading_by}
use Rattle.sheet_read_type.proofs.Readings.{read_no, read_ok, step-no, step_ok}
use Rattle.sheet_read.proofs.Readings.{first_of, after_subjects_line, after_methods_line, after_cats_line}
use Rattle.sheet_read.specs.View.{first₁}
use Rattle.sheet_read.proofs.first_lines.Goals as goal

pub returns-in_err-c-clause-is : goal.returns-in_err-c-clause-is
returns-in_err-c-clause-is c =
    let s = c.args.s.now in
    let guide = c.next_number.ensures.is ∙ ap (λ (z : ℕ). line (number_line (bytes "guide=") 1 1) z (split (drop z s))) c.start-c.ensures in
    let e = c.in_err-c.field-0.0 in
    let w : c.from_residual.result ≡ Err e = search rules in
    ap (reading_by (λ f. f) s) w
    ∙ step-no first₁
    (first_of 0 (split s))
    (read_no (λ n. n) s c.next_number.result _ guide e c.in_err-c.was)

pub returns-in_err-subjects-clause-is : goal.returns-in_err-subjects-clause-is
returns-in_err-subjects-clause-is c =
    let s = c.args.s.now in
    let guide = c.next_number.ensures.is ∙ ap (λ (z : ℕ). line (number_line (bytes "guide=") 1 1) z (split (drop z s))) c.start-c.ensures in
    let e0 : c.next_number.result ≡ Ok (c.in_ok-c.field-0-0, c.in_ok-c.c) = search rules in
    let e = c.in_err-subjects.field-0.0 in
    let w : c.from_residual-in_err-subjects.result ≡ Err e = search rules in
    ap (reading_by (λ f. f) s) w
    ∙ step-no after_subjects_line
    (step_ok first₁ (first_of 0 (split s)) (read_ok (λ n. n) s c.next_number.result _ guide _ _ e0))
    (read_no (λ n. n) s c.next_number-2.result _ c.next_number-2.ensures.is e c.in_err-subjects.was)

pub returns-in_err-methods-clause-is : goal.returns-in_err-methods-clause-is
returns-in_err-methods-clause-is c =
    let s = c.args.s.now in
    let guide = c.next_number.ensures.is ∙ ap (λ (z : ℕ). line (number_line (bytes "guide=") 1 1) z (split (drop z s))) c.start-c.ensures in
    let e0 : c.next_number.result ≡ Ok (c.in_ok-c.field-0-0, c.in_ok-c.c) = search rules in
    let e1 : c.next_number-2.result ≡ Ok (c.in_ok-subjects.subjects, c.in_ok-subjects.c) = search rules in
    let e = c.in_err-methods.field-0.0 in
    let w : c.from_residual-in_err-methods.result ≡ Err e = search rules in
    ap (reading_by (λ f. f) s) w
    ∙ step-no (after_methods_line c.in_ok-subjects.subjects)
    (step_ok after_subjects_line (step_ok first₁ (first_of 0 (split s)) (read_ok (λ n. n) s c.next_number.result _ guide _ _ e0)) (read_ok (λ n. n) s c.next_number-2.result _ c.next_number-2.ensures.is _ _ e1))
    (read_no (λ n. n) s c.next_number-3.result _ c.next_number-3.ensures.is e c.in_err-methods.was)

pub returns-in_err-cats-clause-is : goal.returns-in_err-cats-clause-is
returns-in_err-cats-clause-is c =
    let s = c.args.s.now in
    let guide = c.next_number.ensures.is ∙ ap (λ (z : ℕ). line (number_line (bytes "guide=") 1 1) z (split (drop z s))) c.start-c.ensures in
    let e0 : c.next_number.result ≡ Ok (c.in_ok-c.field-0-0, c.in_ok-c.c) = search rules in
    let e1 : c.next_number-2.result ≡ Ok (c.in_ok-subjects.subjects, c.in_ok-subjects.c) = search rules in
    let e2 : c.next_number-3.result ≡ Ok (c.in_ok-methods.methods, c.in_ok-methods.c) = search rules in
    let e = c.in_err-cats.field-0.0 in
    let w : c.from_residual-in_err-cats.result ≡ Err e = search rules in
    ap (reading_by (λ f. f) s) w
    ∙ step-no (after_cats_line c.in_ok-subjects.subjects c.in_ok-methods.methods)
    (step_ok (after_methods_line c.in_ok-subjects.subjects) (step_ok after_subjects_line (step_ok first₁ (first_of 0 (split s)) (read_ok (λ n. n) s c.next_number.result _ guide _ _ e0)) (read_ok (λ n. n) s c.next_number-2.result _ c.next_number-2.ensures.is _ _ e1)) (read_ok (λ n. n) s c.next_number-3.result _ c.next_number-3.ensures.is _ _ e2))
    (read_no (λ n. n) s c.next_number-4.result _ c.next_number-4.ensures.is e c.in_err-cats.was)

pub returns-clause-is : goal.returns-clause-is
returns-clause-is c =
    let s = c.args.s.now in
    let guide = c.next_number.ensures.is ∙ ap (λ (z : ℕ). line (number_line (bytes "guide=") 1 1) z (split (drop z s))) c.start-c.ensures in
    let e0 : c.next_number.result ≡ Ok (c.in_ok-c.field-0-0, c.in_ok-c.c) = search rules in
    let e1 : c.next_number-2.result ≡ Ok (c.in_ok-subjects.subjects, c.in_ok-subjects.c) = search rules in
    let e2 : c.next_number-3.result ≡ Ok (c.in_ok-methods.methods, c.in_ok-methods.c) = search rules in
    let e3 : c.next_number-4.result ≡ Ok (c.in_ok-cats.cats, c.in_ok-cats.c) = search rules in
    step_ok (after_cats_line c.in_ok-subjects.subjects c.in_ok-methods.methods) (step_ok (after_methods_line c.in_ok-subjects.subjects) (step_ok after_subjects_line (step_ok first₁ (first_of 0 (split s)) (read_ok (λ n. n) s c.next_number.result _ guide _ _ e0)) (read_ok (λ n. n) s c.next_number-2.result _ c.next_number-2.ensures.is _ _ e1)) (read_ok (λ n. n) s c.next_number-3.result _ c.next_number-3.ensures.is _ _ e2)) (read_ok (λ n. n) s c.next_number-4.result _ c.next_number-4.ensures.is _ _ e3)
