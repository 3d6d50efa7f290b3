-- The three lines of a type in turn (`step-no`, `step_ok`), then the members by the representation: the record that is stored means the definition's type, exactly.
use mathlib.Core.Path.{◌≡◌, ap, ◌∙◌}
use lib.ListN.{drop}
use Rattle.std.proofs.Common.{rules}
use Rattle.std.specs.Prelude.{Ok, Err}
use Rattle.spec_model.specs.Check.{rep_of, type_of}
use Rattle.spec_model.specs.Table.{Ty}
use Rattle.table_record.specs.Store.{raw_of}
use Rattle.spec_sheet.specs.Lines.{split, got}
use Rattle.spec_sheet.specs.Sheet.{members}
use Rattle.text_read.specs.View.{reading_by}
use Rattle.sheet_read_type.proofs.Readings.{read_no, read_ok, type-of, after_number, after_rep, step-no, step_ok, members-ref, members-number}
use Rattle.sheet_read_type.proofs.one_type.Goals as goal

pub returns-in_err-c-clause-is : goal.returns-in_err-c-clause-is
returns-in_err-c-clause-is c =
    let a = c.args in
    let s = a.s.now in
    let x = c.next_number in
    let e = c.in_err-c.field-0.0 in
    let w : c.from_residual.result ≡ Err e = search rules in
    ap (reading_by (λ t. type_of a.m a.n a.i (raw_of t)) s) w
    ∙ step-no (after_number a.m a.cats a.n) (type-of a.m a.cats a.n a.i a.c.at (split (drop a.c.at s))) (read_no (λ n. n) s x.result _ x.ensures.is e c.in_err-c.was)

pub returns-in_err-rep-clause-is : goal.returns-in_err-rep-clause-is
returns-in_err-rep-clause-is c =
    let a = c.args in
    let s = a.s.now in
    let x = c.next_number in
    let xe : x.result ≡ Ok (c.in_ok-c.field-0-0, c.in_ok-c.c) = search rules in
    let y = c.next_rep in
    let e = c.in_err-rep.field-0.0 in
    let w : c.from_residual-in_err-rep.result ≡ Err e = search rules in
    ap (reading_by (λ t. type_of a.m a.n a.i (raw_of t)) s) w
    ∙ step-no (after_rep a.m a.cats a.n)
    (step_ok (after_number a.m a.cats a.n) (type-of a.m a.cats a.n a.i a.c.at (split (drop a.c.at s))) (read_ok (λ n. n) s x.result _ x.ensures.is _ _ xe))
    (read_no rep_of s y.result _ y.ensures.is e c.in_err-rep.was)

pub returns-in_err-cat-clause-is : goal.returns-in_err-cat-clause-is
returns-in_err-cat-clause-is c =
    let a = c.args in
    let s = a.s.now in
    let x = c.next_number in
    let xe : x.result ≡ Ok (c.in_ok-c.field-0-0, c.in_ok-c.c) = search rules in
    let y = c.next_rep in
    let ye : y.result ≡ Ok (c.in_ok-rep.rep, c.in_ok-rep.c) = search rules in
    let z = c.next_number-2 in
    let e = c.in_err-cat.field-0.0 in
    let w : c.from_residual-in_err-cat.result ≡ Err e = search rules in
    ap (reading_by (λ t. type_of a.m a.n a.i (raw_of t)) s) w
    ∙ step-no (members a.m a.n (rep_of c.in_ok-rep.rep))
    (step_ok (after_rep a.m a.cats a.n)
    (step_ok (after_number a.m a.cats a.n) (type-of a.m a.cats a.n a.i a.c.at (split (drop a.c.at s))) (read_ok (λ n. n) s x.result _ x.ensures.is _ _ xe))
    (read_ok rep_of s y.result _ y.ensures.is _ _ ye))
    (read_no (λ n. n) s z.result _ z.ensures.is e c.in_err-cat.was)

pub returns-then-rep-eq-REF-clause-is : goal.returns-then-rep-eq-REF-clause-is
returns-then-rep-eq-REF-clause-is c =
    let a = c.args in
    let s = a.s.now in
    let x = c.next_number in
    let xe : x.result ≡ Ok (c.in_ok-c.field-0-0, c.in_ok-c.c) = search rules in
    let y = c.next_rep in
    let rep = c.in_ok-rep.rep in
    let ye : y.result ≡ Ok (rep, c.in_ok-rep.c) = search rules in
    let z = c.next_number-2 in
    let ze : z.result ≡ Ok (c.in_ok-cat.cat, c.in_ok-cat.c) = search rules in
    let at = c.in_ok-cat.c.at in
    c.ref_type.ensures.is a.i c.requires.0 ∙ members-ref a.m a.n rep c.in_ok-cat.cat at (split (drop at s)) c.if-rep-eq-REF.true
    ∙ step_ok (members a.m a.n (rep_of rep))
    (step_ok (after_rep a.m a.cats a.n)
    (step_ok (after_number a.m a.cats a.n) (type-of a.m a.cats a.n a.i a.c.at (split (drop a.c.at s))) (read_ok (λ n. n) s x.result _ x.ensures.is _ _ xe))
    (read_ok rep_of s y.result _ y.ensures.is _ _ ye))
    (read_ok (λ n. n) s z.result _ z.ensures.is _ _ ze)

pub returns-clause-is : goal.returns-clause-is
returns-clause-is c =
    let a = c.args in
    let s = a.s.now in
    let x = c.next_number in
    let xe : x.result ≡ Ok (c.in_ok-c.field-0-0, c.in_ok-c.c) = search rules in
    let y = c.next_rep in
    let rep = c.in_ok-rep.rep in
    let ye : y.result ≡ Ok (rep, c.in_ok-rep.c) = search rules in
    let z = c.next_number-2 in
    let ze : z.result ≡ Ok (c.in_ok-cat.cat, c.in_ok-cat.c) = search rules in
    let at = c.in_ok-cat.c.at in
    ap (λ (t : Ty). got t at (split (drop at s))) (c.number_type.ensures.is a.m a.n a.i c.requires.0)
    ∙ members-number a.m a.n rep c.in_ok-cat.cat at (split (drop at s)) c.if-rep-eq-REF.false
    ∙ step_ok (members a.m a.n (rep_of rep))
    (step_ok (after_rep a.m a.cats a.n)
    (step_ok (after_number a.m a.cats a.n) (type-of a.m a.cats a.n a.i a.c.at (split (drop a.c.at s))) (read_ok (λ n. n) s x.result _ x.ensures.is _ _ xe))
    (read_ok rep_of s y.result _ y.ensures.is _ _ ye))
    (read_ok (λ n. n) s z.result _ z.ensures.is _ _ ze)
