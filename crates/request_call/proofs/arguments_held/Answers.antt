use mir.Syntax.{w64}
use mir.Val.{SFits}
use mir.Facts.{to_z-of_z}
use mathlib.Core.Path.{sym, ap, ◌∙◌}
use Prim.Native.Nat.{ℕ}
use Rattle.std.specs.Prelude.{Some}
use native.Mathlib.Omega.{arith}
use lib.ListN.{get_or}
use lib.IntN.{pos}
use borrow.Author.Rules.{rules}
use Rattle.state_record.specs.Whole.{whole}
use Rattle.state_record.specs.View.{system_in}
use Rattle.request_value.proofs.Laws.{none_left, some_left, value-next}
use Rattle.request_call.proofs.Laws.{held-over, held-fails, held_next, held_whole}
use Rattle.request_value.specs.Sent.{arguments_of}
use Rattle.request_call.proofs.arguments_held.Goals as goal

pub returns-in_default : goal.returns-in_default
returns-in_default c = λ subject w. let a = c.args in let s = whole a.types.now a.s.now in let l = c.loop-i in
    held-over (system_in s) subject (arguments_of a.x) a.vs.now l.i (l.invariant subject w) _ _ (value-next a.vs.now l.i c.loop-i-test.true)
    (none_left a.x l.i c.argument_in.result c.argument_in.ensures c.in_default.is)

pub returns-then-not-argument_held : goal.returns-then-not-argument_held
returns-then-not-argument_held c = λ subject w. let a = c.args in let s = whole a.types.now a.s.now in let l = c.loop-i in
    let fit : SFits w64 (get_or a.vs.now l.i (pos 0)) = search rules in
    held-fails (system_in s) subject (arguments_of a.x) a.vs.now l.i (l.invariant subject w) _ _ (value-next a.vs.now l.i c.loop-i-test.true) _ _
    (some_left a.x l.i c.argument_in.result c.argument_in.ensures c.from.result (c.in-Some.is ∙ ap (λ (k : ℕ). Some k) (sym c.from.ensures)))
    c.argument_held.result (rw (to_z-of_z fit) at (c.argument_held.ensures subject w)) c.if-not-argument_held.true

pub loop-i-preserved : goal.loop-i-preserved
loop-i-preserved c = λ subject w. let a = c.args in let s = whole a.types.now a.s.now in let l = c.loop-i in
    let fit : SFits w64 (get_or a.vs.now l.i (pos 0)) = search rules in
    held_next (system_in s) subject (arguments_of a.x) a.vs.now l.i (l.invariant subject w) _ _ (value-next a.vs.now l.i c.loop-i-test.true) _ _
    (some_left a.x l.i c.argument_in.result c.argument_in.ensures c.from.result (c.in-Some.is ∙ ap (λ (k : ℕ). Some k) (sym c.from.ensures)))
    c.argument_held.result (rw (to_z-of_z fit) at (c.argument_held.ensures subject w)) c.if-not-argument_held.false

pub returns : goal.returns
returns c = λ subject w. let a = c.args in let s = whole a.types.now a.s.now in let l = c.loop-i in
    held_whole (system_in s) subject a.x a.vs.now l.i (l.invariant subject w) (omega (arith, c.loop-i-test.false, l.auto.i-end))
    c.argument_in-2.result c.argument_in-2.ensures c.is_none.result c.is_none.ensures
