use native.Mathlib.Omega.{arith}
use borrow.Author.Rules.{rules}
use mathlib.Core.Path.{◌≡◌}
use lib.ListN.{length}
use Rattle.std.proofs.lemmas.Result.{err_from_is_err_and}
use Rattle.crossing_targets.specs.Targets.{max_layers}
use Rattle.crossing_layers.proofs.Carrying.{goes-ends, goes-stops, goes-next}
use Rattle.crossing_layers.proofs.carry.Goals as goal

pub returns-in_err-x-clause-is : goal.returns-in_err-x-clause-is
returns-in_err-x-clause-is c = let a = c.args in let w = c.loop-i in let long : length a.targets.list ≡ max_layers = search rules in
    let p = err_from_is_err_and c.from_residual.result c.from_residual.ensures.1 in
    rw (p.1, p.2) ((goes-stops a.types.now a.links.now a.c a.ps a.s a.p a.r a.targets.list a.targets.count c.requires.0 w.types w.x w.i w.invariant
    (omega (arith, c.requires.2)) c.loop-i-test.true c.carry_one.new.types c.carry_one.result c.carry_one.ensures.is c.carry_one.ensures.leaves _ c.in_err-x.was).0)

pub loop-i-preserved : goal.loop-i-preserved
loop-i-preserved c = let a = c.args in let w = c.loop-i in let long : length a.targets.list ≡ max_layers = search rules in
    goes-next a.types.now a.links.now a.c a.ps a.s a.p a.r a.targets.list a.targets.count c.requires.0 w.types w.x w.i w.invariant
    (omega (arith, c.requires.2)) c.loop-i-test.true c.carry_one.new.types c.carry_one.result c.carry_one.ensures.is c.carry_one.ensures.leaves _ c.in_ok-x.was

pub returns-clause-is : goal.returns-clause-is
returns-clause-is c = let a = c.args in let w = c.loop-i in
    (goes-ends a.types.now a.links.now a.c a.ps a.s a.p a.r a.targets.list a.targets.count c.requires.0 w.types w.x w.i w.invariant c.loop-i-test.false).0
