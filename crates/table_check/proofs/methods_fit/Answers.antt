use mathlib.Core.Bool.{not}
use mathlib.Core.Path.{◌≡◌, ap, sym, ◌∙◌}
use Prim.Native.Nat.{ℕ, ◌-◌}
use native.Mathlib.Omega.{arith}
use lib.ListN.{get_or}
use Rattle.table_record.specs.Store.{types_in}
use Rattle.spec_model.specs.Check.{no_raw_type, no_raw_method}
use Rattle.table_check_links.specs.Parts.{each_from}
use Rattle.table_check.specs.Parts.{method_accepted, methods_accepted}
use Rattle.table_check_links.proofs.Steps.{refused, passed}
use Rattle.table_check_links.proofs.Each.{rest-next, rest-broken, rest_end}
use Rattle.table_check.proofs.methods_fit.Goals as goal

pub loop-j-init : goal.loop-j-init
unfolding methods_accepted
loop-j-init c = let a = c.args in
    let e : a.methods ≡ a.methods - 0 = omega arith in
    ap (λ (z : ℕ). each_from z 0 (λ k. method_accepted (types_in a.b.now) a.n (get_or (get_or (types_in a.b.now) a.i no_raw_type).methods k no_raw_method))) e

pub returns-then-not-method_fits : goal.returns-then-not-method_fits
returns-then-not-method_fits c = let a = c.args in
    let l = c.loop-j in
    sym (l.invariant ∙ rest-broken (λ k. method_accepted (types_in a.b.now) a.n (get_or (get_or (types_in a.b.now) a.i no_raw_type).methods k no_raw_method)) a.methods l.j
    (omega arith)
    (ap (method_accepted (types_in a.b.now) a.n) (sym c.get_method.ensures) ∙ refused c.method_fits.result _ c.method_fits.ensures (ap not c.if-not-method_fits.true)))

pub loop-j-preserved : goal.loop-j-preserved
loop-j-preserved c = let a = c.args in
    let l = c.loop-j in
    l.invariant ∙ rest-next (λ k. method_accepted (types_in a.b.now) a.n (get_or (get_or (types_in a.b.now) a.i no_raw_type).methods k no_raw_method)) a.methods l.j
    (omega arith)
    (ap (method_accepted (types_in a.b.now) a.n) (sym c.get_method.ensures) ∙ passed c.method_fits.result _
    c.method_fits.ensures (ap not c.if-not-method_fits.false))

pub returns : goal.returns
returns c = let a = c.args in
    let l = c.loop-j in
    sym
    (l.invariant ∙ rest_end (λ k. method_accepted (types_in a.b.now) a.n (get_or (get_or (types_in a.b.now) a.i no_raw_type).methods k no_raw_method)) a.methods l.j
    (omega arith))
