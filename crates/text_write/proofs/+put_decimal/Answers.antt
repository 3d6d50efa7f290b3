-- A decimal is the digits of a tenth of the number, and the last one in the rest of the buffer (`fill-rest`, `decimal-more`).
use Prim.Native.Nat.{◌+◌, ◌*◌, ◌/◌, ◌%◌, ◌<◌}
use mathlib.Core.Path.{◌≡◌, ap, ◌∙◌, sym}
use mathlib.Core.List.{[], ◌∷◌, ◌++◌}
use native.Mathlib.Nat.{div-add-mod'}
use Rattle.spec_sheet.specs.Numbers.{decimal}
use Rattle.spec_sheet.proofs.Numbers.{decimal-one, decimal-more}
use Rattle.text_write.proofs.Laws.{fill-rest, fill_is, decimal-few}
use native.Mathlib.Omega.{arith}
use borrow.Author.Rules.{rules}
use Rattle.text_write.proofs.+put_decimal.Goals as goal

pub returns-then-n-lt10 : goal.returns-then-n-lt10
returns-then-n-lt10 t c =
    let n = c.args.n in
    let f = fill_is (ap (λ z. z ∷ []) c.digit.ensures ∙ sym (decimal-one n c.if-n-lt10.true)) c.put_byte.ensures in
    record { is = f; few = omega (arith, f.said, decimal-few n) }

pub returns : goal.returns
returns t c =
    let n = c.args.n in
    let d : n / 10 * 10 + n % 10 ≡ n = div-add-mod' n 10 in
    let k : n < 18446744073709551616 = search rules in
    let f = fill-rest c.put_decimal-a.ensures.is c.min-k.ensures c.put_byte-2.ensures in
    let g = fill_is (ap (λ z. decimal (n / 10) ++ z ∷ []) c.digit-2.ensures ∙ sym (decimal-more n c.if-n-lt10.false (omega (arith, k)))) f in
    record { is = g; few = omega (arith, g.said, decimal-few n) }
