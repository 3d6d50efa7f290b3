-- A number behind a `-` is its opposite, one below 0 less a number below 2 to the 63rd: not 0 and not past the least 64-bit number (P9).
use Rattle.std.proofs.Common.{◌-◌, ◌<◌, ◌∙◌, ap, arith, w64, ℤ, negsuc}
use lib.IntN.{◌-ℤ◌}
use mir.Facts.{to_z-of_z}
use mir.Val.{to_z, of_z}
use Rattle.script_read_request.specs.Asked.{half}
use Rattle.script_read_request.proofs.Laws.{signed, below, below-fits, minus-zero, minus-past, minus-right}
use Rattle.script_read_request.proofs.negated.Goals as goal

pub returns-then-n-eq0 : goal.returns-then-n-eq0
returns-then-n-eq0 c = λ r. minus-zero _ r c.if-n-eq0.true

pub returns-then-n-gt-HALF : goal.returns-then-n-gt-HALF
returns-then-n-gt-HALF c = λ r. minus-past _ r c.if-n-eq0.false c.if-n-gt-HALF.true

pub returns : goal.returns
returns c =
    let k = c.args.n - 1 in
    let h : k < half = omega arith in
    λ r. minus-right _ r c.if-n-eq0.false c.if-n-gt-HALF.false _
    (ap (λ (z : ℤ). to_z w64 (of_z w64 (negsuc 0 -ℤ z))) (signed k h) ∙ ap (λ (z : ℤ). to_z w64 (of_z w64 z)) (below k) ∙ to_z-of_z (below-fits k h))
