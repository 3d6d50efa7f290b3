use mathlib.Core.Path.{◌≡◌, refl, subst}
use native.Mathlib.Omega.{arith}
use Rattle.text_cursor.specs.View.{LineEnd}
use Rattle.text_cursor.proofs.Laws.{clear-more}
use Rattle.text_cursor.proofs.end_from.Goals as goal

pub loop-e-init : goal.loop-e-init
loop-e-init c = (c.requires, omega arith)

pub returns-then-s-e-eq10 : goal.returns-then-s-e-eq10
returns-then-s-e-eq10 c =
    record { clear = c.loop-e.invariant.0; found = λ _. c.if-s-e-eq10.true }

pub loop-e-preserved : goal.loop-e-preserved
loop-e-preserved c = (clear-more _ _ _ _ refl c.loop-e-test.true c.if-s-e-eq10.false c.loop-e.invariant.0, omega arith)

pub returns : goal.returns
returns c =
    let e : c.loop-e.e ≡ c.max.result = omega arith in
    subst (LineEnd c.args.s.now c.args.at) e (record { clear = c.loop-e.invariant.0; found = λ h. absurd (omega arith) })
