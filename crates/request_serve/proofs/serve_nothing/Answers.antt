-- The step keeps every byte of the types (`Keeps`).
use mathlib.Core.Path.{sym}
use lib.IntN.{pos}
use lib.ListN.{get_or}
use mir.Syntax.{w64}
use mir.Val.{SFits}
use mir.Facts.{to_z-of_z}
use borrow.Author.Rules.{rules}
use Rattle.spec_model.specs.Coded.{by_code}
use Rattle.state_record.specs.Whole.{whole}
use Rattle.state_record.specs.View.{system_in}
use Rattle.request_common.proofs.Laws.{step-as}
use Rattle.request_by_code.proofs.Laws.{nothing_is}
use Rattle.request_serve.proofs.Laws.{kept-serves}
use Rattle.request_serve.proofs.serve_nothing.Goals as goal

pub returns : goal.returns
returns c = let a = c.args in let b = a.types.now in let s = whole b a.s.now in let w = a.ops.now in
    let f₀ : SFits w64 (get_or w 0 (pos 0)) = search rules in
    let f₁ : SFits w64 (get_or w 1 (pos 0)) = search rules in
    kept-serves b c.answer_step.new.types a.s.now c.answer_step.new.s (by_code 3 w) c.answer_step.result c.requires.0 c.requires.1
    (step-as (sym (nothing_is (system_in s) w c.requires.2))
    (rw (to_z-of_z f₀, to_z-of_z f₁) at c.answer_step.ensures.0))
    c.answer_step.ensures.1
