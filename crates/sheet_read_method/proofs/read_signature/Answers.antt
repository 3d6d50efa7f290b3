-- Arguments, answer and nothing behind them, then the bounds: every return is the case of the definition that the tests before it left (S5).
use mathlib.Core.Bool.{not}
use mathlib.Core.Path.{◌≡◌, refl, ap, sym, ◌∙◌}
use native.Mathlib.Omega.{arith}
use Rattle.std.proofs.Common.{rules}
use Rattle.std.specs.Prelude.{Err, Some}
use borrow.Author.Tests.{not-true}
use Rattle.spec_model.specs.Basics.{ok}
use Rattle.spec_model.specs.Check.{state_of, answer_of}
use Rattle.base_numbers.specs.Refusal.{res_by}
use Rattle.base_numbers.specs.declared.refusal.Refusal.TheVariants.{Form}
use Rattle.law_table.proofs.Exact.{signed-exact}
use Rattle.text_read.proofs.Laws.{scan-wrong, scan-right, numbers-wrong, numbers-right}
use Rattle.sheet_read_line.proofs.Laws.{item-small}
use Rattle.sheet_read_method.specs.View.{method_is}
use Rattle.sheet_read_method.proofs.Laws.{args-within, signature-args, signature-answer, signature-behind, signature-high, signature-answer-high, signature-good, signed-means, permits-below}
use Rattle.sheet_read_method.proofs.read_signature.Goals as goal
use Rattle.sheet_read_method.proofs.read_signature.Goals.{then-not-all_below-via-then-not-all_below, then-not-all_below-via-else-not-all_below+then-n-a}

pub returns-in_err-t-clause-is : goal.returns-in_err-t-clause-is
returns-in_err-t-clause-is c =
    let a = c.args in
    let t = c.args_at in
    let e : c.from_residual.result ≡ Err Form = search rules in
    ap (res_by method_is) e ∙ signature-args a.n (state_of a.state) _ (numbers-wrong a.l.now t.result _ t.ensures.is c.in_err-t.ensures.ok_part)

pub returns-in_err-a-clause-is : goal.returns-in_err-a-clause-is
returns-in_err-a-clause-is c =
    let a = c.args in
    let t = c.args_at in
    let o = c.answer_at in
    let q : t.result ≡ Some c.in_ok-t.t = search rules in
    let e : c.from_residual-in_err-a.result ≡ Err Form = search rules in
    ap (res_by method_is) e
    ∙ signature-answer a.n (state_of a.state) _ _ _ (numbers-right a.l.now t.result _ t.ensures.is _ q) (scan-wrong answer_of a.l.now o.result _ o.ensures c.in_err-a.ensures.ok_part)

pub returns-then-next-l-clause-is : goal.returns-then-next-l-clause-is
returns-then-next-l-clause-is c =
    let a = c.args in
    let t = c.args_at in
    let o = c.answer_at in
    let q : t.result ≡ Some c.in_ok-t.t = search rules in
    let w : o.result ≡ Some (c.in_ok-a.a, c.in_ok-a.next) = search rules in
    signature-behind a.n (state_of a.state) _ _ _ (numbers-right a.l.now t.result _ t.ensures.is _ q) c.in_ok-a.a a.l.now _ (scan-right answer_of a.l.now o.result _ o.ensures _ w)
    c.if-next-l.true

pub returns-then-not-all_below-clause-is : goal.returns-then-not-all_below-clause-is
returns-then-not-all_below-clause-is c =
    let a = c.args in
    let t = c.args_at in
    let o = c.answer_at in
    let q : t.result ≡ Some c.in_ok-t.t = search rules in
    let w : o.result ≡ Some (c.in_ok-a.a, c.in_ok-a.next) = search rules in
    let s = numbers-right a.l.now t.result _ t.ensures.is _ q in
    let r = scan-right answer_of a.l.now o.result _ o.ensures _ w in
    elim c.then-not-all_below.branch [
      | then-not-all_below-via-then-not-all_below b ↦
          signature-high a.n (state_of a.state) _ _ _ s c.in_ok-a.a a.l.now _ r c.if-next-l.false
          (sym c.all_below.ensures ∙ not-true c.all_below.result (ap not b.if-not-all_below.true))
      | then-not-all_below-via-else-not-all_below+then-n-a b ↦
          signature-answer-high a.n (state_of a.state) _ _ _ s c.in_ok-a.a a.l.now _ r c.if-next-l.false (sym c.all_below.ensures ∙ b.if-not-all_below.false) b.if-n-a.true
    ]

pub overflow_cast-result-2 : goal.overflow_cast-result-2
overflow_cast-result-2 c =
    let x = c.in_ok-t.t in
    let q : c.args_at.result ≡ Some x = search rules in
    let v = args-within _ c.args_at.result x q c.args_at.ensures.within in
    record { fits = item-small c.args.n x v.1 v.2 (sym c.all_below.ensures ∙ c.if-not-all_below.false) c.requires.1 0 }

pub overflow_cast-result-3 : goal.overflow_cast-result-3
overflow_cast-result-3 c =
    let x = c.in_ok-t.t in
    let q : c.args_at.result ≡ Some x = search rules in
    let v = args-within _ c.args_at.result x q c.args_at.ensures.within in
    record { fits = item-small c.args.n x v.1 v.2 (sym c.all_below.ensures ∙ c.if-not-all_below.false) c.requires.1 1 }

pub overflow_cast-result-4 : goal.overflow_cast-result-4
overflow_cast-result-4 c =
    let x = c.in_ok-t.t in
    let q : c.args_at.result ≡ Some x = search rules in
    let v = args-within _ c.args_at.result x q c.args_at.ensures.within in
    record { fits = item-small c.args.n x v.1 v.2 (sym c.all_below.ensures ∙ c.if-not-all_below.false) c.requires.1 2 }

pub overflow_cast-result-5 : goal.overflow_cast-result-5
overflow_cast-result-5 c =
    let x = c.in_ok-t.t in
    let q : c.args_at.result ≡ Some x = search rules in
    let v = args-within _ c.args_at.result x q c.args_at.ensures.within in
    record { fits = item-small c.args.n x v.1 v.2 (sym c.all_below.ensures ∙ c.if-not-all_below.false) c.requires.1 3 }

pub returns-clause-is : goal.returns-clause-is
returns-clause-is c =
    let a = c.args in
    let t = c.args_at in
    let o = c.answer_at in
    let x = c.in_ok-t.t in
    let q : t.result ≡ Some x = search rules in
    let w : o.result ≡ Some (c.in_ok-a.a, c.in_ok-a.next) = search rules in
    ap ok (signed-means a.state x.count c.in_ok-a.a c.in_ok-a.a x.count _ _ c.requires.2 refl refl refl)
    ∙ signature-good a.n (state_of a.state) _ _ _ (numbers-right a.l.now t.result _ t.ensures.is _ q) c.in_ok-a.a a.l.now _ (scan-right answer_of a.l.now o.result _ o.ensures _ w)
    c.if-next-l.false (sym c.all_below.ensures ∙ c.if-not-all_below.false) c.if-n-a.false

pub returns-clause-exact : goal.returns-clause-exact
returns-clause-exact c =
    let x = c.in_ok-t.t in
    let q : c.args_at.result ≡ Some x = search rules in
    let v = args-within _ c.args_at.result x q c.args_at.ensures.within in
    signed-exact _ (permits-below c.args.state c.requires.2) c.requires.2 (omega (arith, v.1)) refl v.2
