-- Past the count, or past the record.
use mathlib.Core.Path.{ap, ◌∙◌}
use Prim.Native.Nat.{ℕ, min}
use borrow.Author.Rules.{rules}
use Rattle.spec_model.specs.Records.{argument_slots}
use Rattle.crossing_targets.proofs.Laws.{argument-out}
use Rattle.crossing_targets.proofs.argument_in.Goals as goal

pub returns-else-i-n : goal.returns-else-i-n
returns-else-i-n c = argument-out c.args.x c.args.i c.min-n.result (search rules)
    (c.min-n.ensures ∙ ap (λ (k : ℕ). min k argument_slots) c.from.ensures) c.if-i-n.false
