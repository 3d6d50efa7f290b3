-- Key, numbers and nothing behind them (1), then the last category (2), then the category's own number (3): every return is the definition's next case.
use mathlib.Core.Bool.{not}
use mathlib.Core.Path.{◌≡◌, refl, ap, sym, ◌∙◌}
use native.Mathlib.Omega.{arith}
use Rattle.std.proofs.Common.{rules}
use Rattle.std.specs.Prelude.{Err, Some}
use borrow.Author.Tests.{not-true}
use Rattle.spec_model.specs.Basics.{ok}
use Rattle.base_numbers.specs.Refusal.{res_by}
use Rattle.base_numbers.specs.declared.refusal.Refusal.TheVariants.{Form}
use Rattle.text_read.proofs.Laws.{starts-length, numbers-wrong, numbers-right, numbers-within}
use Rattle.sheet_read_line.specs.View.{broader_in}
use Rattle.sheet_read_line.proofs.Laws.{under-key, under-wrong, under-behind, under-above, under-high, under-good, item-small, links-are}
use Rattle.sheet_read_line.proofs.read_under.Goals as goal

pub returns-then-not-begins-clause-is : goal.returns-then-not-begins-clause-is
returns-then-not-begins-clause-is c = under-key _ _ c.args.l.now (sym c.begins.ensures ∙ not-true c.begins.result (ap not c.if-not-begins.true))

pub numbers_at-requires : goal.numbers_at-requires
numbers_at-requires c = (starts-length _ _ (sym c.begins.ensures ∙ c.if-not-begins.false), omega arith)

pub returns-in_err-t-clause-is : goal.returns-in_err-t-clause-is
returns-in_err-t-clause-is c =
    let a = c.args in
    let t = c.numbers_at in
    let e : c.from_residual.result ≡ Err Form = search rules in
    ap (res_by broader_in) e
    ∙ under-wrong a.cats a.k a.l.now (sym c.begins.ensures ∙ c.if-not-begins.false) (numbers-wrong a.l.now t.result _ t.ensures.is c.in_err-t.ensures.ok_part)

pub returns-then-t-l-clause-is : goal.returns-then-t-l-clause-is
returns-then-t-l-clause-is c =
    let a = c.args in
    let t = c.numbers_at in
    let e : t.result ≡ Some c.in_ok-t.t = search rules in
    under-behind a.cats a.k a.l.now (sym c.begins.ensures ∙ c.if-not-begins.false) _ _ (numbers-right a.l.now t.result _ t.ensures.is _ e) c.if-t-l.true

pub returns-then-not-all_below-clause-is : goal.returns-then-not-all_below-clause-is
returns-then-not-all_below-clause-is c =
    let a = c.args in
    let t = c.numbers_at in
    let e : t.result ≡ Some c.in_ok-t.t = search rules in
    under-above a.cats a.k a.l.now (sym c.begins.ensures ∙ c.if-not-begins.false) _ _ (numbers-right a.l.now t.result _ t.ensures.is _ e) c.if-t-l.false
    (sym c.all_below.ensures ∙ not-true c.all_below.result (ap not c.if-not-all_below.true))

pub returns-then-not-all_below-2-clause-is : goal.returns-then-not-all_below-2-clause-is
returns-then-not-all_below-2-clause-is c =
    let a = c.args in
    let t = c.numbers_at in
    let e : t.result ≡ Some c.in_ok-t.t = search rules in
    under-high a.cats a.k a.l.now (sym c.begins.ensures ∙ c.if-not-begins.false) _ _ (numbers-right a.l.now t.result _ t.ensures.is _ e) c.if-t-l.false
    (sym c.all_below.ensures ∙ c.if-not-all_below.false) (sym c.all_below-2.ensures ∙ not-true c.all_below-2.result (ap not c.if-not-all_below-2.true))

pub overflow_cast-result-2 : goal.overflow_cast-result-2
overflow_cast-result-2 c =
    let x = c.in_ok-t.t in
    let e : c.numbers_at.result ≡ Some x = search rules in
    let w = numbers-within _ _ c.numbers_at.result x e c.numbers_at.ensures.within in
    record { fits = item-small c.args.k x (omega (arith, w.2)) w.3 (sym c.all_below-2.ensures ∙ c.if-not-all_below-2.false) (omega (arith, c.requires.1)) 0 }

pub overflow_cast-result-3 : goal.overflow_cast-result-3
overflow_cast-result-3 c =
    let x = c.in_ok-t.t in
    let e : c.numbers_at.result ≡ Some x = search rules in
    let w = numbers-within _ _ c.numbers_at.result x e c.numbers_at.ensures.within in
    record { fits = item-small c.args.k x (omega (arith, w.2)) w.3 (sym c.all_below-2.ensures ∙ c.if-not-all_below-2.false) (omega (arith, c.requires.1)) 1 }

pub returns-clause-is : goal.returns-clause-is
returns-clause-is c =
    let a = c.args in
    let t = c.numbers_at in
    let x = c.in_ok-t.t in
    let e : t.result ≡ Some x = search rules in
    let w = numbers-within _ _ t.result x e t.ensures.within in
    ap ok (links-are x _ _ _ refl refl refl w.1 w.2 w.3).0
    ∙ under-good a.cats a.k a.l.now (sym c.begins.ensures ∙ c.if-not-begins.false) _ _ (numbers-right a.l.now t.result _ t.ensures.is _ e) c.if-t-l.false
    (sym c.all_below.ensures ∙ c.if-not-all_below.false) (sym c.all_below-2.ensures ∙ c.if-not-all_below-2.false)

pub returns-clause-exact : goal.returns-clause-exact
returns-clause-exact c =
    let x = c.in_ok-t.t in
    let e : c.numbers_at.result ≡ Some x = search rules in
    let w = numbers-within _ _ c.numbers_at.result x e c.numbers_at.ensures.within in
    (links-are x _ _ _ refl refl refl w.1 w.2 w.3).1
