-- Key, number and nothing behind it (1), then the range (2): every return is the definition's next case.
use mathlib.Core.Bool.{not}
use mathlib.Core.Path.{◌≡◌, ap, sym, ◌∙◌}
use Rattle.std.proofs.Common.{rules}
use Rattle.std.specs.Prelude.{Err, Some}
use borrow.Author.Tests.{not-true}
use Rattle.base_numbers.specs.Refusal.{res_by}
use Rattle.base_numbers.specs.declared.refusal.Refusal.TheVariants.{Form}
use Rattle.text_read.proofs.Laws.{starts-length, scan-wrong, scan-right, number-key, number-wrong, number_behind, number-below, number-above, number-good}
use Rattle.text_read.proofs.read_number.Goals as goal
use Rattle.text_read.proofs.read_number.Goals.{then-n-low-via-then-n-low, then-n-low-via-else-n-low+then-high-n}

pub returns-then-not-begins-clause-is : goal.returns-then-not-begins-clause-is
returns-then-not-begins-clause-is c = number-key _ _ _ _ (sym c.begins.ensures ∙ not-true c.begins.result (ap not c.if-not-begins.true))

pub number_at-requires : goal.number_at-requires
number_at-requires c = starts-length _ _ (sym c.begins.ensures ∙ c.if-not-begins.false)

pub returns-in_err-n-clause-is : goal.returns-in_err-n-clause-is
returns-in_err-n-clause-is c =
    let t = c.number_at in
    let e : c.from_residual.result ≡ Err Form = search rules in
    ap (res_by (λ n. n)) e
    ∙ number-wrong _ _ _ _ (sym c.begins.ensures ∙ c.if-not-begins.false) (scan-wrong (λ n. n) c.args.l.now t.result _ t.ensures.is c.in_err-n.ensures.ok_part)

pub returns-then-next-l-clause-is : goal.returns-then-next-l-clause-is
returns-then-next-l-clause-is c =
    let t = c.number_at in
    let e : t.result ≡ Some (c.in_ok-n.n, c.in_ok-n.next) = search rules in
    number_behind _ _ _ _ (sym c.begins.ensures ∙ c.if-not-begins.false) _ _ (scan-right (λ n. n) c.args.l.now t.result _ t.ensures.is _ e) c.if-next-l.true

pub returns-then-n-low-clause-is : goal.returns-then-n-low-clause-is
returns-then-n-low-clause-is c =
    let t = c.number_at in
    let e : t.result ≡ Some (c.in_ok-n.n, c.in_ok-n.next) = search rules in
    let key = sym c.begins.ensures ∙ c.if-not-begins.false in
    let taken = scan-right (λ n. n) c.args.l.now t.result _ t.ensures.is _ e in
    elim c.then-n-low.branch [
      | then-n-low-via-then-n-low w ↦ number-below _ _ _ _ key _ _ taken c.if-next-l.false w.if-n-low.true
      | then-n-low-via-else-n-low+then-high-n w ↦ number-above _ _ _ _ key _ _ taken c.if-next-l.false w.if-n-low.false w.if-high-n.true
    ]

pub returns-clause-is : goal.returns-clause-is
returns-clause-is c =
    let t = c.number_at in
    let e : t.result ≡ Some (c.in_ok-n.n, c.in_ok-n.next) = search rules in
    number-good _ _ _ _ (sym c.begins.ensures ∙ c.if-not-begins.false) _ _ (scan-right (λ n. n) c.args.l.now t.result _ t.ensures.is _ e)
    c.if-next-l.false c.if-n-low.false c.if-high-n.false
