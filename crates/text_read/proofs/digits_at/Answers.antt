-- A byte that is no digit ends the number, and so does the line's end; a digit stands behind those read.
use mathlib.Core.Bool.{not}
use mathlib.Core.Path.{◌≡◌, ap, sym, refl, ◌∙◌}
use Prim.Native.Nat.{ℕ, ◌+◌, ◌*◌}
use native.Mathlib.Omega.{arith}
use lib.ListN.{length, drop}
use borrow.Author.Tests.{not-true}
use Rattle.spec_sheet.specs.Numbers.{limit, digits}
use Rattle.text_read.proofs.Laws.{digits-stop, digits_more, digits-end}
use Rattle.text_read.proofs.digits_at.Goals as goal

pub returns-then-not-is_ascii_digit-clause-is : goal.returns-then-not-is_ascii_digit-clause-is
returns-then-not-is_ascii_digit-clause-is c =
    digits-stop _ _ _ _ c.loop-i-test.true refl (sym c.is_ascii_digit.ensures.value ∙ not-true c.is_ascii_digit.result (ap not c.if-not-is_ascii_digit.true)) ∙ c.loop-i.invariant.1

pub loop-i-preserved : goal.loop-i-preserved
loop-i-preserved c =
    let digit = sym c.is_ascii_digit.ensures.value ∙ c.if-not-is_ascii_digit.false in
    (omega (arith, c.more-n.ensures), digits_more _ _ _ _ c.loop-i-test.true refl _ digit (c.more-n.ensures ∙ ap (λ z. limit (c.loop-i.n * 10 + z)) c.from.ensures) ∙ c.loop-i.invariant.1)

pub returns-clause-is : goal.returns-clause-is
returns-clause-is c =
    let l = c.args.l.now in
    let over : length l ≡ c.loop-i.i = omega arith in
    digits-end l (length l) c.loop-i.n (omega arith) ∙ ap (λ (i : ℕ). digits c.loop-i.n (drop i l)) over ∙ c.loop-i.invariant.1
