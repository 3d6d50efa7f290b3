-- Invariant: `done` says it of the categories below x. Rests on `next-order`, and `far_order` for a category above the last.
use mathlib.Core.Path.{◌≡◌}
use mathlib.Core.Bool.{false}
use Prim.Native.Nat.{ℕ, suc, ◌<◌}
use lib.ListN.{length, get_or}
use Rattle.spec_model.specs.Relations.{reaches}
use Rattle.spec_model.specs.Table.{max_categories}
use Rattle.relation_rule.specs.Parts.{broader_in}
use Rattle.relation_rule.proofs.category_le.Given as goal

abbrev pub invariant-loop-x : goal.invariant-loop-x
invariant-loop-x l = (length l.done ≡ suc max_categories) × ((k : ℕ) → k < l.x → get_or l.done k false ≡ reaches (suc max_categories) (broader_in l.l l.c) l.a k)
