-- Nothing between the brackets, or numbers and the bracket that closes them: the definition's cases.
use mathlib.Core.Path.{◌≡◌, ap, ◌∙◌}
use Prim.Native.Nat.{◌<◌}
use native.Mathlib.Omega.{arith}
use lib.ListN.{length, drop}
use Rattle.std.proofs.Common.{rules}
use Rattle.std.specs.Prelude.{None, Some}
use Rattle.spec_sheet.specs.Numbers.{took}
use Rattle.text_read.specs.declared.Numbers.{Numbers}
use Rattle.text_read.specs.View.{scan_numbers, numbers_of}
use Rattle.text_read.proofs.Laws.{numbers-wrong, numbers-right, numbers-within}
use Rattle.sheet_read_method.proofs.Laws.{args_none, args-empty, args-wrong, args-open, args-other, args-closed}
use Rattle.sheet_read_method.proofs.args_at.Goals as goal
use Rattle.sheet_read_method.proofs.args_at.Goals.{then-e-l-via-then-e-l, then-e-l-via-else-e-l+then-l-e-ne41}

pub returns-then-at-l-clause-is : goal.returns-then-at-l-clause-is
returns-then-at-l-clause-is c = args_none _ _ c.if-at-l.true

pub returns-then-l-at-eq41-clause-is : goal.returns-then-l-at-eq41-clause-is
returns-then-l-at-eq41-clause-is c =
    let l = c.args.l.now in
    let h : c.args.at < length l = omega arith in
    ap (λ (t : Numbers). took (numbers_of t) (drop t.next l)) c.no_numbers.ensures ∙ args-empty l _ h c.if-l-at-eq41.true

pub returns-in_err-t-clause-is : goal.returns-in_err-t-clause-is
returns-in_err-t-clause-is c =
    let a = c.args in
    let h : a.at < length a.l.now = omega arith in
    let t = c.numbers_at in
    let n : t.result ≡ None = search rules in
    let e : c.from_residual.result ≡ None = search rules in
    ap (scan_numbers a.l.now) e ∙ args-wrong _ _ h c.if-l-at-eq41.false (numbers-wrong a.l.now t.result _ t.ensures.is n)

pub returns-then-e-l-clause-is : goal.returns-then-e-l-clause-is
returns-then-e-l-clause-is c =
    let a = c.args in
    let h : a.at < length a.l.now = omega arith in
    let t = c.numbers_at in
    let x = c.in_ok-t.t in
    let e : t.result ≡ Some x = search rules in
    let s = numbers-right a.l.now t.result _ t.ensures.is x e in
    let w = numbers-within _ _ t.result x e t.ensures.within in
    elim c.then-e-l.branch [
      | then-e-l-via-then-e-l b ↦ args-open _ _ h c.if-l-at-eq41.false _ _ s b.if-e-l.true
      | then-e-l-via-else-e-l+then-l-e-ne41 b ↦ args-other _ _ h c.if-l-at-eq41.false _ _ s (omega (arith, w.0, b.if-e-l.false)) b.if-l-e-ne41.true
    ]

pub returns-clause-is : goal.returns-clause-is
returns-clause-is c =
    let a = c.args in
    let h : a.at < length a.l.now = omega arith in
    let t = c.numbers_at in
    let x = c.in_ok-t.t in
    let e : t.result ≡ Some x = search rules in
    let w = numbers-within _ _ t.result x e t.ensures.within in
    args-closed _ _ h c.if-l-at-eq41.false _ _ (numbers-right a.l.now t.result _ t.ensures.is x e) (omega (arith, w.0, c.if-e-l.false)) c.if-l-e-ne41.false
