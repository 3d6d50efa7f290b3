use mathlib.Core.Path.{◌≡◌, ap, ◌∙◌}
use Prim.Native.Nat.{◌+◌, ◌-◌}
use native.Mathlib.Omega.{arith}
use lib.ListN.{drop}
use Rattle.std.proofs.Common.{rules}
use Rattle.std.specs.Prelude.{Some, None}
use Rattle.spec_sheet.specs.Numbers.{numbers, took}
use Rattle.text_read.specs.View.{numbers_of, scan_numbers}
use Rattle.text_read.proofs.Laws.{scan-wrong, scan-right, right-within, numbers-many, numbers-fail, numbers-end, numbers-other, numbers-comma, more_numbers, more-empty}
use Rattle.text_read.proofs.numbers_at.Goals as goal
use Rattle.text_read.proofs.numbers_at.Goals.{then-next-l-via-then-next-l, then-next-l-via-else-next-l+then-l-next-ne44}

pub returns-in_err-n-clause-is : goal.returns-in_err-n-clause-is
returns-in_err-n-clause-is c =
    let a = c.args in
    let p = c.loop-t in
    let w = c.number_at in
    let n : w.result ≡ None = search rules in
    let e : c.from_residual.result ≡ None = search rules in
    ap (scan_numbers a.l.now) e
    ∙ numbers-fail a.l.now (numbers_of p.t) a.max p.t.count p.i _ p.invariant.3 c.loop-t-test.true (scan-wrong (λ n. n) a.l.now w.result _ w.ensures.is n)

pub returns-then-next-l-clause-is : goal.returns-then-next-l-clause-is
returns-then-next-l-clause-is c =
    let a = c.args in
    let p = c.loop-t in
    let w = c.number_at in
    let r = c.with_number-t in
    let x = c.in_ok-n in
    let e : w.result ≡ Some (x.n, x.next) = search rules in
    let v = right-within _ w.result _ e w.ensures.within in
    let m = more_numbers p.t r.result _ (omega arith) r.ensures.0 r.ensures.1 in
    let taken = scan-right (λ n. n) a.l.now w.result _ w.ensures.is _ e in
    ap (λ z. took (numbers_of r.result) (drop z a.l.now)) r.ensures.2
    ∙ elim c.then-next-l.branch [
      | then-next-l-via-then-next-l w ↦
          numbers-end a.l.now (numbers_of p.t) a.max p.t.count p.i _ p.invariant.3 c.loop-t-test.true (numbers_of r.result) _ _ m taken w.if-next-l.true
      | then-next-l-via-else-next-l+then-l-next-ne44 w ↦
          numbers-other a.l.now (numbers_of p.t) a.max p.t.count p.i _ p.invariant.3 c.loop-t-test.true (numbers_of r.result) _ _ m taken
          (omega (arith, v, w.if-next-l.false)) w.if-l-next-ne44.true
    ]

pub returns-then-next-l-clause-within : goal.returns-then-next-l-clause-within
returns-then-next-l-clause-within c =
    let p = c.loop-t in
    let w = c.number_at in
    let r = c.with_number-t in
    let e : w.result ≡ Some (c.in_ok-n.n, c.in_ok-n.next) = search rules in
    let v = right-within _ w.result _ e w.ensures.within in
    (omega (arith, r.ensures.2, v), omega (arith, r.ensures.1), omega (arith, r.ensures.1), more-empty p.t r.result _ (omega arith) r.ensures.0 r.ensures.1 p.invariant.2)

pub loop-t-preserved : goal.loop-t-preserved
loop-t-preserved c =
    let a = c.args in
    let p = c.loop-t in
    let w = c.number_at in
    let r = c.with_number-t in
    let x = c.in_ok-n in
    let e : w.result ≡ Some (x.n, x.next) = search rules in
    let v = right-within _ w.result _ e w.ensures.within in
    let m = more_numbers p.t r.result _ (omega arith) r.ensures.0 r.ensures.1 in (
      omega (arith, v, c.if-next-l.false),
      omega (arith, r.ensures.1),
      more-empty p.t r.result _ (omega arith) r.ensures.0 r.ensures.1 p.invariant.2,
      ap (λ z. numbers (a.max - z) (numbers_of r.result) (drop (x.next + 1) a.l.now)) r.ensures.1
          ∙ numbers-comma a.l.now (numbers_of p.t) a.max p.t.count p.i _ p.invariant.3 c.loop-t-test.true (numbers_of r.result) _ _ m
          (scan-right (λ n. n) a.l.now w.result _ w.ensures.is _ e) (omega (arith, v, c.if-next-l.false)) c.if-l-next-ne44.false,
    )

pub returns-clause-is : goal.returns-clause-is
returns-clause-is c =
    let a = c.args in
    let p = c.loop-t in
    numbers-many a.l.now (numbers_of p.t) a.max p.t.count p.i _ p.invariant.3 c.loop-t-test.false
