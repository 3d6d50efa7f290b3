use mathlib.Core.Bool.{not}
use mathlib.Core.Path.{◌≡◌, ap, sym, ◌∙◌}
use Prim.Native.Nat.{ℕ, ◌-◌}
use native.Mathlib.Omega.{arith}
use lib.ListN.{get_or}
use Rattle.table_record.specs.Store.{types_in}
use Rattle.spec_model.specs.Check.{no_raw_type}
use Rattle.table_check_links.specs.Parts.{each_from}
use Rattle.table_check.specs.Parts.{type_accepted, types_accepted}
use Rattle.table_check_links.proofs.Steps.{refused, passed}
use Rattle.table_check_links.proofs.Each.{rest-next, rest-broken, rest_end}
use Rattle.table_check.proofs.types_fit.Goals as goal

pub loop-i-init : goal.loop-i-init
unfolding types_accepted
loop-i-init c = let a = c.args in
    let e : a.c.types ≡ a.c.types - 0 = omega arith in
    ap (λ (z : ℕ). each_from z 0 (λ k. type_accepted (types_in a.b.now) a.c k (get_or (types_in a.b.now) k no_raw_type))) e

pub type_fits-requires : goal.type_fits-requires
type_fits-requires c = (c.requires, omega arith)

pub returns-then-not-type_fits : goal.returns-then-not-type_fits
returns-then-not-type_fits c = let a = c.args in
    let l = c.loop-i in
    sym (l.invariant ∙ rest-broken (λ k. type_accepted (types_in a.b.now) a.c k (get_or (types_in a.b.now) k no_raw_type)) a.c.types l.i
    (omega arith) (refused c.type_fits.result _ c.type_fits.ensures (ap not c.if-not-type_fits.true)))

pub loop-i-preserved : goal.loop-i-preserved
loop-i-preserved c = let a = c.args in
    let l = c.loop-i in
    l.invariant ∙ rest-next (λ k. type_accepted (types_in a.b.now) a.c k (get_or (types_in a.b.now) k no_raw_type)) a.c.types l.i
    (omega arith) (passed c.type_fits.result _ c.type_fits.ensures (ap not c.if-not-type_fits.false))

pub returns : goal.returns
returns c = let a = c.args in
    let l = c.loop-i in
    sym (l.invariant ∙ rest_end (λ k. type_accepted (types_in a.b.now) a.c k (get_or (types_in a.b.now) k no_raw_type)) a.c.types l.i (omega arith))
