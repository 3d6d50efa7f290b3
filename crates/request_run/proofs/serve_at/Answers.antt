-- A request with fewer words than it says, or one by its code and its operands, which are a part of the list.
use mathlib.Core.Path.{refl, ap, sym}
use mir.Facts.{to_z-of_z}
use mir.Syntax.{w64}
use mir.Val.{SFits}
use lib.IntN.{pos}
use lib.ListN.{get_or}
use borrow.Author.Rules.{rules}
use Rattle.state_record.specs.Whole.{whole}
use Rattle.state_record.specs.View.{system_in}
use Rattle.request_common.proofs.Laws.{step-as}
use Rattle.request_by_code.specs.Coded.{serve_asked}
use Rattle.request_by_code.proofs.Laws.{refuses}
use Rattle.request_words.specs.Found.{asked_at}
use Rattle.request_words.proofs.Words.{asked-none, asked_is}
use Rattle.request_run.proofs.serve_at.Goals as goal

pub returns-in-None : goal.returns-in-None
returns-in-None c = let a = c.args in let s = whole a.types.now a.s.now in let w = a.words.now in
    refuses s (asked_at w a.at) _ c.requires.0 (asked-none w a.at c.requires.1 c.in-None.ensures) refl

pub returns-in-Some : goal.returns-in-Some
returns-in-Some c = let a = c.args in let s = whole a.types.now a.s.now in let w = a.words.now in
    let f : SFits w64 (get_or w a.at (pos 0)) = search rules in
    step-as (sym (ap (serve_asked (system_in s)) (asked_is w a.at c.requires.1 c.in-Some.ensures.0 _ (to_z-of_z f) _ c.in-Some.ensures.1))) c.serve.ensures
