use mathlib.Core.Path.{◌≡◌, refl, ◌∙◌}
use mathlib.Core.Bool.{false}
use Prim.Native.Nat.{suc, ◌<◌}
use native.Mathlib.Nat.{not-suc-le-zero}
use native.Mathlib.Omega.{arith}
use lib.ListN.{length-set}
use borrow.Author.Tests.{ne_eqb}
use Rattle.spec_model.specs.Relations.{reaches}
use Rattle.spec_model.specs.Table.{max_categories}
use Rattle.table_record.proofs.Lists.{set_next}
use Rattle.relation_rule.specs.Parts.{broader_in}
use Rattle.relation_rule.proofs.Categories.{order_is, next-order, far_order, none-order, self-order}
use Rattle.relation_rule.proofs.category_le.Goals as goal
use Rattle.relation_rule.proofs.category_le.Goals.{then-a-eq0-via-then-a-eq0, then-a-eq0-via-else-a-eq0+then-a-b}

pub returns-then-a-eq0 : goal.returns-then-a-eq0
returns-then-a-eq0 c = λ b.
    let a = c.args in
    elim c.then-a-eq0.branch [
      | then-a-eq0-via-then-a-eq0 w ↦ none-order a.l.now a.c a.a a.b w.if-a-eq0.true ∙ order_is b a.l.now a.c a.a a.b
      | then-a-eq0-via-else-a-eq0+then-a-b w ↦ self-order a.l.now a.c a.a a.b w.if-a-b.true ∙ order_is b a.l.now a.c a.a a.b
    ]

pub returns-then-c-b : goal.returns-then-c-b
returns-then-c-b c = λ b.
    let a = c.args in
    (rw (ne_eqb a.a 0 c.if-a-eq0.false, ne_eqb a.a a.b c.if-a-b.false) at (far_order a.l.now a.c a.a a.b c.if-c-b.true))
    ∙ order_is b a.l.now a.c a.a a.b

pub loop-x-init : goal.loop-x-init
loop-x-init c = (refl, λ k h. absurd (not-suc-le-zero h))

pub loop-x-preserved : goal.loop-x-preserved
loop-x-preserved c =
    let a = c.args in
    let l = c.loop-x in
    let r = c.category_next in
    let small : l.x < suc max_categories = omega (arith, c.requires.limits.cats, c.if-c-b.false) in (
      length-set l.done l.x r.result ∙ l.invariant.0,
      set_next (λ k v. v ≡ reaches (suc max_categories) (broader_in a.l.now a.c) a.a k) l.done l.x r.result false (omega (arith, l.invariant.0)) l.invariant.1
          (r.ensures ∙ next-order a.l.now a.c c.requires l.done a.a l.x small l.invariant.1),
    )

pub returns : goal.returns
returns c = λ b.
    let a = c.args in
    let l = c.loop-x in
    c.category_next-2.ensures ∙ next-order a.l.now a.c c.requires l.done a.a a.b (omega (arith, c.requires.limits.cats, c.if-c-b.false))
    (λ k p. l.invariant.1 k (omega arith)) ∙ order_is b a.l.now a.c a.a a.b
