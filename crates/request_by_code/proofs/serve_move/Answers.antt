-- One operand too many or too few, or the step.
use mathlib.Core.Path.{refl, sym}
use mir.Facts.{to_z-of_z}
use mir.Syntax.{w64}
use mir.Val.{SFits}
use lib.IntN.{pos}
use lib.ListN.{get_or}
use borrow.Author.Rules.{rules}
use Rattle.state_record.specs.Whole.{whole}
use Rattle.state_record.specs.View.{system_in}
use Rattle.spec_model.specs.Coded.{by_code}
use Rattle.request_common.proofs.Laws.{step-as}
use Rattle.request_by_code.proofs.Laws.{refuses, move-none, move-is}
use Rattle.request_by_code.proofs.serve_move.Goals as goal

pub returns-then-ops-ne4 : goal.returns-then-ops-ne4
returns-then-ops-ne4 c = let a = c.args in let s = whole a.types.now a.s.now in let w = a.ops.now in
    refuses s (by_code 1 w) _ c.requires (move-none (system_in s) w c.if-ops-ne4.true) refl

pub returns : goal.returns
returns c = let a = c.args in let s = whole a.types.now a.s.now in let w = a.ops.now in let f0 : SFits w64 (get_or w 0 (pos 0)) = search rules in let f1 : SFits w64 (get_or w 1 (pos 0)) = search rules in let f2 : SFits w64 (get_or w 2 (pos 0)) = search rules in let f3 : SFits w64 (get_or w 3 (pos 0)) = search rules in
    step-as (sym (move-is (system_in s) w c.if-ops-ne4.false)) (rw (to_z-of_z f0, to_z-of_z f1, to_z-of_z f2, to_z-of_z f3) at c.move_step.ensures)
