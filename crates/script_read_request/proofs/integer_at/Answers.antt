-- A signed number at a place of a line: nothing there, a `-` first, or digits (P9).
use Rattle.std.proofs.Common.{◌≡◌, ◌<◌, ◌∙◌, ap, length, drop, None, arith, rules, w64}
use mir.Facts.{to_z-of_z}
use mir.Val.{SFits}
use Rattle.spec_sheet.specs.Numbers.{bind_scan}
use Rattle.script_read_request.specs.Asked.{positive, negative}
use Rattle.script_read_request.proofs.Laws.{integer-none, integer-minus, integer-plus}
use Rattle.script_read_request.proofs.integer_at.Goals as goal

pub returns-then-at-l-clause-is : goal.returns-then-at-l-clause-is
returns-then-at-l-clause-is c = integer-none _ _ c.if-at-l.true

pub returns-in_err-n-clause-is : goal.returns-in_err-n-clause-is
returns-in_err-n-clause-is c =
    let e : c.from_residual.result ≡ None = search rules in
    let h : c.args.at < length c.args.l.now = omega arith in
    rw e (ap (λ z. bind_scan z negative) c.in_err-n.ensures.is ∙ integer-minus _ _ h c.if-l-at-eq45.true)

pub returns-in_err-v-clause-is : goal.returns-in_err-v-clause-is
returns-in_err-v-clause-is c =
    let e : c.from_residual-in_err-v.result ≡ None = search rules in
    let h : c.args.at < length c.args.l.now = omega arith in
    rw e (c.in_err-v.ensures (drop c.in_ok-n.next c.args.l.now) ∙ ap (λ z. bind_scan z negative) c.in_ok-n.ensures.is ∙ integer-minus _ _ h c.if-l-at-eq45.true)

pub returns-then-l-at-eq45-clause-is : goal.returns-then-l-at-eq45-clause-is
returns-then-l-at-eq45-clause-is c =
    let z : SFits w64 c.in_ok-v.v = search rules in
    let h : c.args.at < length c.args.l.now = omega arith in
    rw (to_z-of_z z) (c.in_ok-v.ensures (drop c.in_ok-n.next c.args.l.now) ∙ ap (λ z. bind_scan z negative) c.in_ok-n.ensures.is ∙ integer-minus _ _ h c.if-l-at-eq45.true)

pub returns-in_err-n-2-clause-is : goal.returns-in_err-n-2-clause-is
returns-in_err-n-2-clause-is c =
    let e : c.from_residual-in_err-n-2.result ≡ None = search rules in
    let h : c.args.at < length c.args.l.now = omega arith in
    rw e (ap (λ z. bind_scan z positive) c.in_err-n-2.ensures.is ∙ integer-plus _ _ h c.if-l-at-eq45.false)

pub returns-in_err-v-2-clause-is : goal.returns-in_err-v-2-clause-is
returns-in_err-v-2-clause-is c =
    let e : c.from_residual-in_err-v-2.result ≡ None = search rules in
    let h : c.args.at < length c.args.l.now = omega arith in
    rw e (c.in_err-v-2.ensures (drop c.in_ok-n-2.next c.args.l.now) ∙ ap (λ z. bind_scan z positive) c.in_ok-n-2.ensures.is ∙ integer-plus _ _ h c.if-l-at-eq45.false)

pub returns-clause-is : goal.returns-clause-is
returns-clause-is c =
    let z : SFits w64 c.in_ok-v-2.v = search rules in
    let h : c.args.at < length c.args.l.now = omega arith in
    rw (to_z-of_z z) (c.in_ok-v-2.ensures (drop c.in_ok-n-2.next c.args.l.now) ∙ ap (λ z. bind_scan z positive) c.in_ok-n-2.ensures.is ∙ integer-plus _ _ h c.if-l-at-eq45.false)
