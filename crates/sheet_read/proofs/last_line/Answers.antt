-- The last line, the end of the input and only then the signatures: every return is the definition's case that the tests before it left (S6, S10, S13).
use mathlib.Core.Bool.{not}
use mathlib.Core.Path.{◌≡◌, ap, sym, ◌∙◌}
use Rattle.std.proofs.Common.{rules}
use Rattle.std.specs.Prelude.{Ok, Err}
use borrow.Author.Tests.{not-true}
use Rattle.table_record.specs.Store.{types_in}
use Rattle.sheet_read_type.specs.View.{done_by}
use Rattle.sheet_read_type.proofs.Readings.{read_no, read_ok}
use Rattle.sheet_read.proofs.Readings.{ending-no, ending-more, ending-own, ending-good}
use Rattle.sheet_read_signatures.proofs.Laws.{table-stands}
use Rattle.sheet_read.proofs.last_line.Goals as goal

pub returns-in_err-next : goal.returns-in_err-next
returns-in_err-next c =
    let a = c.args in
    let s = a.s.now in
    let g = c.next_end in
    let e = c.in_err-next.field-0.0 in
    let w : c.from_residual.result ≡ Err e = search rules in
    λ t q. ap (done_by s t) w ∙ ending-no t s a.c.at _ e.at (read_no (λ u. u) s g.result _ g.ensures e c.in_err-next.was)

pub returns-then-next-s : goal.returns-then-next-s
returns-then-next-s c =
    let a = c.args in
    let s = a.s.now in
    let g = c.next_end in
    let next = c.in_ok-next.next in
    let w : g.result ≡ Ok (c.in_ok-next.field-0-0, next) = search rules in
    λ t q. ending-more t s a.c.at next.at (read_ok (λ u. u) s g.result _ g.ensures _ next w) c.if-next-s.true

pub returns-then-not-types_stand : goal.returns-then-not-types_stand
returns-then-not-types_stand c =
    let a = c.args in
    let s = a.s.now in
    let g = c.next_end in
    let next = c.in_ok-next.next in
    let w : g.result ≡ Ok (c.in_ok-next.field-0-0, next) = search rules in
    λ t q. ending-own t s a.c.at next.at (read_ok (λ u. u) s g.result _ g.ensures _ next w) c.if-next-s.false
    (table-stands t a.m a.n (types_in a.b.now) q ∙ sym c.types_stand.ensures ∙ not-true c.types_stand.result (ap not c.if-not-types_stand.true))

pub returns : goal.returns
returns c =
    let a = c.args in
    let s = a.s.now in
    let g = c.next_end in
    let next = c.in_ok-next.next in
    let w : g.result ≡ Ok (c.in_ok-next.field-0-0, next) = search rules in
    λ t q. ending-good t s a.c.at next.at (read_ok (λ u. u) s g.result _ g.ensures _ next w) c.if-next-s.false
    (table-stands t a.m a.n (types_in a.b.now) q ∙ sym c.types_stand.ensures ∙ c.if-not-types_stand.false)
