use Rattle.std.proofs.Common.{rules}
use Rattle.relation_rule.specs.Parts.{outer_heads}
use Rattle.relation_rule.proofs.outer_rule.Goals as goal

pub returns-then-category_rule : goal.returns-then-category_rule
unfolding outer_heads
returns-then-category_rule c = search rules

pub returns-else-category_rule : goal.returns-else-category_rule
unfolding outer_heads
returns-else-category_rule c = search rules
