-- A dash, or a number: the definition's cases.
use mathlib.Core.Path.{◌≡◌, ap, ◌∙◌}
use Prim.Native.Nat.{◌<◌}
use native.Mathlib.Omega.{arith}
use lib.ListN.{length}
use Rattle.std.proofs.Common.{rules}
use Rattle.std.specs.Prelude.{None, Some}
use Rattle.spec_model.specs.Check.{answer_of}
use Rattle.text_read.specs.View.{scan_by}
use Rattle.text_read.proofs.Laws.{scan-wrong, scan-right}
use Rattle.sheet_read_method.proofs.Laws.{answer-none, answer-dash, answer-wrong, answer-took}
use Rattle.sheet_read_method.proofs.answer_at.Goals as goal

pub returns-then-at-l : goal.returns-then-at-l
returns-then-at-l c = answer-none _ _ c.if-at-l.true

pub returns-then-l-at-eq45 : goal.returns-then-l-at-eq45
returns-then-l-at-eq45 c =
    let h : c.args.at < length c.args.l.now = omega arith in
    answer-dash _ _ h c.if-l-at-eq45.true

pub returns-in_err-n : goal.returns-in_err-n
returns-in_err-n c =
    let a = c.args in
    let h : a.at < length a.l.now = omega arith in
    let t = c.number_at in
    let n : t.result ≡ None = search rules in
    let e : c.from_residual.result ≡ None = search rules in
    ap (scan_by answer_of a.l.now) e ∙ answer-wrong _ _ h c.if-l-at-eq45.false (scan-wrong (λ n. n) a.l.now t.result _ t.ensures.is n)

pub returns : goal.returns
returns c =
    let a = c.args in
    let h : a.at < length a.l.now = omega arith in
    let t = c.number_at in
    let e : t.result ≡ Some (c.in_ok-n.n, c.in_ok-n.next) = search rules in
    answer-took _ _ h c.if-l-at-eq45.false _ _ (scan-right (λ n. n) a.l.now t.result _ t.ensures.is _ e)
