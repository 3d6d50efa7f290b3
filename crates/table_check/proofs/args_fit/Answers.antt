use mathlib.Core.Bool.{Bool, not}
use mathlib.Core.Path.{ap, sym, ◌∙◌}
use Prim.Native.Nat.{ℕ}
use native.Mathlib.Omega.{arith}
use Rattle.table_record.specs.Store.{types_in}
use Rattle.table_check.specs.Parts.{stands_as}
use Rattle.table_check_links.proofs.Steps.{refused, passed}
use Rattle.table_check_links.proofs.Each.{all-next, all-broken, all-end}
use Rattle.table_check.proofs.args_fit.Goals as goal

pub returns-then-not-stands_in : goal.returns-then-not-stands_in
returns-then-not-stands_in c =
    let l = c.loop-x in
    let f : ℕ → Bool = stands_as (types_in c.args.b.now) c.args.n in
    sym (l.invariant ∙ all-broken f _ l.x-index 0 (omega arith)
    (ap f (sym c.from-in-loop-x.ensures) ∙ refused c.stands_in.result _ c.stands_in.ensures (ap not c.if-not-stands_in.true)))

pub loop-x-preserved : goal.loop-x-preserved
loop-x-preserved c =
    let l = c.loop-x in
    let f : ℕ → Bool = stands_as (types_in c.args.b.now) c.args.n in
    l.invariant ∙ all-next f _ l.x-index 0 (omega arith)
    (ap f (sym c.from-in-loop-x.ensures) ∙ passed c.stands_in.result _ c.stands_in.ensures (ap not c.if-not-stands_in.false))

pub returns : goal.returns
returns c =
    let l = c.loop-x in
    let f : ℕ → Bool = stands_as (types_in c.args.b.now) c.args.n in
    sym (l.invariant ∙ all-end f _ l.x-index 0 (omega arith))
