use mathlib.Core.Path.{◌≡◌, refl}
use native.Mathlib.Omega.{arith}
use borrow.Author.Rules.{rules}
use lib.ListN.{length}
use Rattle.crossing_targets.specs.Targets.{max_layers}
use Rattle.crossing_targets.proofs.Laws.{reversed-are}
use Rattle.crossing_targets.proofs.reversed.Goals as goal

pub returns : goal.returns
returns c = let long : length c.args.x.list ≡ max_layers = search rules in
    (reversed-are c.args.x.list c.reverse.new.self _ c.args.x.count (omega (arith, c.requires)) c.reverse.ensures.after, refl)
