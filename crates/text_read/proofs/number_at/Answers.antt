-- A number by its first byte: none, a 0, which is whole (S3), or a digit, behind which the others are read.
use mathlib.Core.Bool.{not}
use mathlib.Core.Path.{ap, sym, refl, ◌∙◌}
use Prim.Native.Nat.{◌+◌, ◌<◌}
use native.Mathlib.Omega.{arith}
use lib.ListN.{length, drop}
use borrow.Author.Tests.{not-true}
use Rattle.spec_sheet.specs.Numbers.{digits}
use Rattle.text_read.proofs.Laws.{number-none, number-zero, number-other, number_more}
use Rattle.text_read.proofs.number_at.Goals as goal

pub returns-then-at-l-clause-is : goal.returns-then-at-l-clause-is
returns-then-at-l-clause-is c = number-none _ _ c.if-at-l.true

pub returns-then-b-eq48-clause-is : goal.returns-then-b-eq48-clause-is
returns-then-b-eq48-clause-is c =
    let h : c.args.at < length c.args.l.now = omega arith in
    number-zero _ _ _ h refl c.if-b-eq48.true

pub returns-then-not-is_ascii_digit-clause-is : goal.returns-then-not-is_ascii_digit-clause-is
returns-then-not-is_ascii_digit-clause-is c =
    let h : c.args.at < length c.args.l.now = omega arith in
    number-other _ _ _ h refl c.if-b-eq48.false (sym c.is_ascii_digit.ensures.value ∙ not-true c.is_ascii_digit.result (ap not c.if-not-is_ascii_digit.true))

pub returns-clause-is : goal.returns-clause-is
returns-clause-is c =
    let a = c.args in
    let h : a.at < length a.l.now = omega arith in
    c.digits_at.ensures.is ∙ ap (λ z. digits z (drop (a.at + 1) a.l.now)) c.from.ensures
    ∙ number_more _ _ _ h refl c.if-b-eq48.false (sym c.is_ascii_digit.ensures.value ∙ c.if-not-is_ascii_digit.false)
