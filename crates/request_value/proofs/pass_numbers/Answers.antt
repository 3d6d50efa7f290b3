use mir.Syntax.{w64}
use mir.Val.{SFits}
use mir.Facts.{to_z-of_z}
use mathlib.Core.Path.{sym, ap, ◌∙◌}
use Prim.Native.Nat.{ℕ}
use lib.ListN.{get_or, drop_of_length-le}
use lib.IntN.{pos}
use borrow.Author.Rules.{rules}
use Rattle.std.specs.Prelude.{Some}
use Rattle.std.proofs.lemmas.Result.{err_from_is_err_and}
use Rattle.state_record.specs.View.{system_in}
use Rattle.crossing_targets.specs.Targets.{call_layers_in, targets_in}
use Rattle.request_value.proofs.Sending.{numbers-over, numbers-end, numbers-stop, numbers-next, number_of, passed-of}
use Rattle.request_value.proofs.Laws.{none_left, some_left, value-next}
use Rattle.request_value.specs.Sent.{arguments_of}
use Rattle.request_value.proofs.pass_numbers.Goals as goal

pub returns-in_default : goal.returns-in_default
returns-in_default c = λ s r t n. let a = c.args in let l = c.loop-i in
    numbers-over (system_in s) r (call_layers_in a.w) a.m (arguments_of a.x) a.vs.now l.i (l.invariant s r t n)
    (none_left a.x l.i c.argument_in.result c.argument_in.ensures c.in_default.is)

pub returns-in_err-pass : goal.returns-in_err-pass
returns-in_err-pass c = λ s r t n. let a = c.args in let l = c.loop-i in
    let v = get_or a.vs.now l.i (pos 0) in
    let fit : SFits w64 v = search rules in
    let passed = rw (to_z-of_z fit) at c.pass.ensures in
    let p = err_from_is_err_and c.from_residual.result c.from_residual.ensures.1 in
    rw (p.1, p.2) (numbers-stop (system_in s) r (call_layers_in a.w) a.m (arguments_of a.x) a.vs.now l.i (l.invariant s r t n) c.from.result
    (some_left a.x l.i c.argument_in.result c.argument_in.ensures c.from.result (c.in-Some.is ∙ ap (λ (k : ℕ). Some k) (sym c.from.ensures)))
    v (value-next a.vs.now l.i c.loop-i-test.true) (number_of s a.types.now a.c t n _ c.names_ref.result c.names_ref.ensures c.if-names_ref.false) c.pass.result
    (passed-of s a.types.now a.c t n c.pass.result a.m l.i v (call_layers_in a.w) (targets_in c.targets_of-targets.result) c.targets_of-targets.ensures.0 passed)
    _ c.in_err-pass.was)

pub loop-i-preserved : goal.loop-i-preserved
loop-i-preserved c = λ s r t n. let a = c.args in let l = c.loop-i in
    let v = get_or a.vs.now l.i (pos 0) in
    let fit : SFits w64 v = search rules in
    let passed = rw (to_z-of_z fit) at c.pass.ensures in
    numbers-next (system_in s) r (call_layers_in a.w) a.m (arguments_of a.x) a.vs.now l.i (l.invariant s r t n) c.from.result
    (some_left a.x l.i c.argument_in.result c.argument_in.ensures c.from.result (c.in-Some.is ∙ ap (λ (k : ℕ). Some k) (sym c.from.ensures)))
    v (value-next a.vs.now l.i c.loop-i-test.true) (number_of s a.types.now a.c t n _ c.names_ref.result c.names_ref.ensures c.if-names_ref.false) c.pass.result
    (passed-of s a.types.now a.c t n c.pass.result a.m l.i v (call_layers_in a.w) (targets_in c.targets_of-targets.result) c.targets_of-targets.ensures.0 passed)
    _ c.in_ok-pass.was

pub returns : goal.returns
returns c = λ s r t n. let a = c.args in let l = c.loop-i in
    numbers-end (system_in s) r (call_layers_in a.w) a.m (arguments_of a.x) a.vs.now l.i (l.invariant s r t n) (drop_of_length-le a.vs.now {i = l.i} c.loop-i-test.false)
