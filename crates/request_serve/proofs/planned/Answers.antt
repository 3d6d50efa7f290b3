-- A call's plan is what is known of it; of the others nothing is.
use mathlib.Core.Path.{◌≡◌, sym, ap, ◌∙◌}
use Prim.Native.Nat.{ℕ, ◌≤◌}
use mir.Syntax.{w64}
use mir.Val.{SFits}
use mir.Facts.{to_z-of_z}
use lib.IntN.{ℤ, pos}
use lib.ListN.{get_or, length, drop}
use mathlib.Core.List.{List}
use borrow.Author.Rules.{rules}
use Rattle.std.proofs.lemmas.Result.{err_from_is_err_and}
use Rattle.spec_model.specs.Coded.{by_code}
use Rattle.spec_model.specs.Requests.{System, call_request}
use Rattle.state_record.specs.Whole.{whole}
use Rattle.state_record.specs.View.{system_in}
use Rattle.request_by_code.specs.Coded.{serve_asked}
use Rattle.request_operands.proofs.Words.{all-behind}
use Rattle.request_by_code.proofs.Laws.{call-is}
use Rattle.request_serve.proofs.planned.Goals as goal

-- what is asked is the call
asked : (m : System) (k : ℕ) (w : List ℤ) → k ≡ 2 → 3 ≤ length w → serve_asked m (by_code k w) ≡ call_request m (get_or w 0 (pos 0)) (get_or w 1 (pos 0)) (get_or w 2 (pos 0)) (drop 3 w)
asked m k w e h = ap (λ (n : ℕ). serve_asked m (by_code n w)) e ∙ sym (call-is m w h)

pub returns-in_err-p : goal.returns-in_err-p
returns-in_err-p c = let a = c.args in let w = a.ops.now in let m = system_in (whole a.types.now a.s.now) in
    let f₀ : SFits w64 (get_or w 0 (pos 0)) = search rules in let f₁ : SFits w64 (get_or w 1 (pos 0)) = search rules in let f₂ : SFits w64 (get_or w 2 (pos 0)) = search rules in
    let p = err_from_is_err_and c.from_residual.result c.from_residual.ensures.1 in
    let k = rw (to_z-of_z f₀, to_z-of_z f₁, to_z-of_z f₂) at c.in_err-p.ensures in
    rw (p.1, p.2) (asked m a.code w c.if-code-ne-CALL.false c.if-ops-lt3.false ∙ ap (call_request m (get_or w 0 (pos 0)) (get_or w 1 (pos 0)) (get_or w 2 (pos 0))) (sym (all-behind w 3)) ∙ k)

pub returns-in-Numbers : goal.returns-in-Numbers
returns-in-Numbers c = let a = c.args in let w = a.ops.now in let m = system_in (whole a.types.now a.s.now) in
    let f₀ : SFits w64 (get_or w 0 (pos 0)) = search rules in let f₁ : SFits w64 (get_or w 1 (pos 0)) = search rules in let f₂ : SFits w64 (get_or w 2 (pos 0)) = search rules in
    let h = rw (to_z-of_z f₀, to_z-of_z f₁, to_z-of_z f₂) at c.in_ok-p.ensures in (
      h.fits,
      asked m a.code w c.if-code-ne-CALL.false c.if-ops-lt3.false ∙ ap (call_request m (get_or w 0 (pos 0)) (get_or w 1 (pos 0)) (get_or w 2 (pos 0))) (sym (all-behind w 3))
          ∙ h.adds c.in-Numbers.is,
    )
