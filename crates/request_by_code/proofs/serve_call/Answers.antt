-- Fewer than three operands, or the step, with what is behind the third as arguments: nothing where there are three.
use mathlib.Core.Path.{◌≡◌, refl, sym, ap, ◌∙◌}
use mathlib.Core.List.{List, []}
use mir.Facts.{to_z-of_z}
use mir.Syntax.{w64}
use mir.Val.{SFits}
use lib.IntN.{ℤ, pos}
use lib.ListN.{length, get_or, drop, drop_of_length-le}
use native.Mathlib.Omega.{arith}
use borrow.Author.Rules.{rules}
use Rattle.spec_model.specs.Requests.{call_request}
use Rattle.state_record.specs.Whole.{whole}
use Rattle.state_record.specs.View.{system_in}
use Rattle.spec_model.specs.Coded.{by_code}
use Rattle.request_operands.proofs.Words.{all-behind}
use Rattle.request_common.proofs.Laws.{step-as}
use Rattle.request_by_code.proofs.Laws.{refuses, call_none, call-is}
use Rattle.request_by_code.proofs.serve_call.Goals as goal

-- three operands, and nothing behind them
none-behind : (w : List ℤ) → length w ≡ 3 → drop 3 w ≡ []
none-behind w h = drop_of_length-le w {i = 3} (omega arith)

pub returns-then-ops-lt3 : goal.returns-then-ops-lt3
returns-then-ops-lt3 c = let a = c.args in let s = whole a.types.now a.s.now in let w = a.ops.now in
    refuses s (by_code 2 w) _ c.requires (call_none (system_in s) w c.if-ops-lt3.true) refl

pub returns-then-ops-eq3 : goal.returns-then-ops-eq3
returns-then-ops-eq3 c = let a = c.args in let s = whole a.types.now a.s.now in let w = a.ops.now in let m = system_in s in let f0 : SFits w64 (get_or w 0 (pos 0)) = search rules in let f1 : SFits w64 (get_or w 1 (pos 0)) = search rules in let f2 : SFits w64 (get_or w 2 (pos 0)) = search rules in
    step-as
    (sym (ap (call_request m (get_or w 0 (pos 0)) (get_or w 1 (pos 0)) (get_or w 2 (pos 0))) (sym (none-behind w c.if-ops-eq3.true)) ∙ call-is m w c.if-ops-lt3.false))
    (rw (to_z-of_z f0, to_z-of_z f1, to_z-of_z f2) at c.call_step.ensures)

pub returns : goal.returns
returns c = let a = c.args in let s = whole a.types.now a.s.now in let w = a.ops.now in let m = system_in s in let f0 : SFits w64 (get_or w 0 (pos 0)) = search rules in let f1 : SFits w64 (get_or w 1 (pos 0)) = search rules in let f2 : SFits w64 (get_or w 2 (pos 0)) = search rules in
    step-as
    (sym (ap (call_request m (get_or w 0 (pos 0)) (get_or w 1 (pos 0)) (get_or w 2 (pos 0))) (all-behind w 3) ∙ call-is m w c.if-ops-lt3.false))
    (rw (to_z-of_z f0, to_z-of_z f1, to_z-of_z f2) at c.call_step-2.ensures)
