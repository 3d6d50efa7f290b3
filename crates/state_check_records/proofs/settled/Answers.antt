use mathlib.Core.Path.{◌≡◌, ap, sym, ◌∙◌}
use Prim.Native.Nat.{ℕ, ◌-◌}
use native.Mathlib.Omega.{arith}
use Rattle.spec_model.specs.Check.{RawMethod, state_of}
use Rattle.spec_model.specs.Table.{is_settled}
use Rattle.table_check_links.proofs.Each.{rest-next, rest-broken, rest_end}
use Rattle.table_check_links.specs.Parts.{each_from}
use Rattle.state_check_records.specs.Parts.{settled_as}
use Rattle.state_check_records.proofs.Steps.{SettledAt, unsettled, settles}
use Rattle.state_check_records.proofs.settled.Goals as goal

pub loop-j-init : goal.loop-j-init
unfolding settled_as
loop-j-init c = let a = c.args in let e : a.methods ≡ a.methods - 0 = omega arith in ap (λ (z : ℕ). each_from z 0 (SettledAt a.b.now a.i)) e

pub get_method-requires : goal.get_method-requires
get_method-requires c = (c.requires.1, omega (arith, c.loop-j-test.true, c.requires.0))

pub returns-then-get_method-lt-AVAIL : goal.returns-then-get_method-lt-AVAIL
returns-then-get_method-lt-AVAIL c = let a = c.args in let l = c.loop-j in
    sym (l.invariant ∙ rest-broken (SettledAt a.b.now a.i) a.methods l.j c.loop-j-test.true
    (ap (λ (m : RawMethod). is_settled (state_of m.state)) (sym c.get_method.ensures) ∙ unsettled c.get_method.result.state c.if-get_method-lt-AVAIL.true))

pub loop-j-preserved : goal.loop-j-preserved
loop-j-preserved c = let a = c.args in let l = c.loop-j in
    l.invariant ∙ rest-next (SettledAt a.b.now a.i) a.methods l.j c.loop-j-test.true
    (ap (λ (m : RawMethod). is_settled (state_of m.state)) (sym c.get_method.ensures) ∙ settles c.get_method.result.state c.if-get_method-lt-AVAIL.false)

pub returns : goal.returns
returns c = let a = c.args in let l = c.loop-j in sym (l.invariant ∙ rest_end (SettledAt a.b.now a.i) a.methods l.j c.loop-j-test.false)
