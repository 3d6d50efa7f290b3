-- Slot i asks for a type where both sides have argument i, the right one's on the left (D5, D6).
use mathlib.Core.Path.{ap, ◌∙◌}
use Prim.Native.Nat.{ℕ}
use native.Mathlib.Omega.{arith}
use lib.ListN.{get_or}
use Rattle.derive_slots.specs.declared.Slot.TheVariants.{Argument}
use Rattle.derive_slots.proofs.Laws.{empty_past, both-there}
use Rattle.derive_slots.proofs.argument_slot.Goals as goal

pub returns-then-from-i : goal.returns-then-from-i
returns-then-from-i c = let a = c.args in (empty_past a.i a.p.count a.q.count a.p.args a.q.args (omega arith), tt)

pub returns : goal.returns
returns c = let a = c.args in (
  ap (λ (z : ℕ). Argument z c.argument-right.result) c.argument-left.ensures.0 ∙ ap (λ (z : ℕ). Argument (get_or a.q.args a.i 0) z) c.argument-right.ensures.0
      ∙ both-there a.i a.p.count a.q.count a.p.args a.q.args (omega arith) (omega arith) (omega arith) (omega arith),
  (c.argument-left.ensures.1, c.argument-right.ensures.1),
)
