-- No such type or method, a number type, and the slot of a stored method.
use Rattle.crossing_targets.proofs.Laws.{target-unknown, target-unmet, target-number, target_is}
use Rattle.crossing_targets.proofs.target_at.Goals as goal
use Rattle.crossing_targets.proofs.target_at.Goals.{then-c-t-via-then-c-t, then-c-t-via-else-c-t+then-c-m}

pub returns-then-c-t : goal.returns-then-c-t
returns-then-c-t c = let a = c.args in λ l. elim c.then-c-t.branch [
  | then-c-t-via-then-c-t w ↦ target-unknown a.types.now l a.c a.m a.s a.t w.if-c-t.true
  | then-c-t-via-else-c-t+then-c-m w ↦ target-unmet a.types.now l a.c a.m a.s a.t w.if-c-m.true
]

pub returns-then-h-ne-REF : goal.returns-then-h-ne-REF
returns-then-h-ne-REF c = let a = c.args in λ l. target-number a.types.now l a.c a.m a.s a.t
    c.if-c-t.false c.get_head-h.result c.get_head-h.ensures c.if-h-ne-REF.true

pub returns : goal.returns
returns c = let a = c.args in λ l. target_is a.types.now l a.c a.m a.s a.t c.if-c-t.false c.get_head-h.result c.get_head-h.ensures c.if-h-ne-REF.false
    c.if-c-m.false c.get_method.result c.get_method.ensures _ c.slot_in.ensures
