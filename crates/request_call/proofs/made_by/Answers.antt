use mathlib.Core.Path.{◌≡◌, refl, ap, sym, ◌∙◌}
use mathlib.Core.Bool.{Bool, cond}
use Prim.Native.Nat.{ℕ, suc, ◌+◌}
use native.Mathlib.Numerals.{add-one}
use native.Mathlib.Omega.{arith}
use borrow.Author.Tests.{eq-eqb, ne_eqb}
use Rattle.spec_model.specs.Basics.{from}
use Rattle.spec_model.specs.Requests.{made_by}
use Rattle.state_record.proofs.Kept.{called, calls-from, ended, made-last}
use Rattle.request_call.proofs.made_by.Goals as goal
use Rattle.request_call.proofs.made_by.Goals.{then-from-who, else-from-who}

next : (j : ℕ) (f : ℕ → ℕ) → f (j + 1) ≡ f (suc j)
next j f = ap f (add-one j)

pub loop-j-init : goal.loop-j-init
unfolding from
loop-j-init c = (omega arith, refl)

pub loop-j-preserved : goal.loop-j-preserved
loop-j-preserved c = let a = c.args in let js = a.js.now in let l = c.loop-j in
    let m = made-last (called js) a.who l.j in let k = next l.j (λ (n : ℕ). made_by a.who (from n 0 (called js))) in
    let count : Bool → ℕ = λ b. made_by a.who (from l.j 0 (called js)) + cond b 1 0 in
    elim c.if-from-who.branch [
      | then-from-who w ↦ let e = m ∙ ap count (eq-eqb a.who _ (sym w.if-from-who.true ∙ c.from.ensures)) in (omega (arith, l.invariant.0, w.made-is), omega (arith, l.invariant.1, w.made-is, e, k))
      | else-from-who w ↦ let e = m ∙ ap count (ne_eqb a.who _ (λ z. w.if-from-who.false (c.from.ensures ∙ sym z))) in (omega (arith, l.invariant.0, w.made-is), omega (arith, l.invariant.1, w.made-is, e, k))
    ]

pub returns : goal.returns
returns c = let l = c.loop-j in let js = c.args.js.now in
    l.invariant.1 ∙ ap (λ (n : ℕ). made_by c.args.who (from n 0 (called js))) (ended l.j js.count (omega arith) c.loop-j-test.false)
    ∙ sym (ap (made_by c.args.who) (calls-from js))
