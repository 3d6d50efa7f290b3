use mir.Facts.{to_z-of_z}
use native.Mathlib.Omega.{arith}
use borrow.Author.Rules.{rules}
use lib.ListN.{length}
use mathlib.Core.Path.{◌≡◌}
use Rattle.std.proofs.lemmas.Result.{err_from_is_err_and}
use Rattle.table_record.specs.Store.{table_in}
use Rattle.crossing_targets.proofs.Laws.{pass-stops, pass-next, pass-ends}
use Rattle.crossing_targets.specs.Targets.{max_layers}
use Rattle.crossing_targets.proofs.pass.Goals as goal

pub returns-in_err-pass_one : goal.returns-in_err-pass_one
returns-in_err-pass_one c = let a = c.args in let w = c.loop-i in let long : length a.targets.list ≡ max_layers = search rules in
    let p = err_from_is_err_and c.from_residual.result c.from_residual.ensures.1 in
    λ l. rw (p.1, p.2) (pass-stops (table_in a.types.now l a.c) a.v a.targets.list a.targets.count (omega (arith, c.requires.1)) w.i c.loop-i-test.true
    (rw (to_z-of_z c.ranges.v) at (w.invariant l)) _ (rw (to_z-of_z c.ranges.v) at (c.pass_one.ensures l)) _ c.in_err-pass_one.was)

pub loop-i-preserved : goal.loop-i-preserved
loop-i-preserved c = let a = c.args in let w = c.loop-i in let long : length a.targets.list ≡ max_layers = search rules in
    λ l. pass-next (table_in a.types.now l a.c) _ a.targets.list a.targets.count (omega (arith, c.requires.1)) w.i c.loop-i-test.true
    (w.invariant l) _ (c.pass_one.ensures l) _ c.in_ok-pass_one.was

pub returns : goal.returns
returns c = let a = c.args in
    λ l. pass-ends (table_in a.types.now l a.c) a.v a.targets.list a.targets.count c.loop-i.i c.loop-i-test.false (rw (to_z-of_z c.ranges.v) at (c.loop-i.invariant l))
