-- One law for each way in which it returns: 8, 9, and what comes of meeting the base.
use mathlib.Core.Path.{sym, ◌∙◌}
use Rattle.crossing_one.proofs.Laws.{unwrap-unrelated, unwrap-not-owner, unwrap_meets}
use Rattle.crossing_one.proofs.unwrap.Goals as goal

pub returns-then-not-asked-clause-is : goal.returns-then-not-asked-clause-is
returns-then-not-asked-clause-is c = let a = c.args in let h = c.requires in
    (unwrap-unrelated a.types.now a.links.now a.c h.0 a.ps a.x h.2 (sym c.if-not-asked.true ∙ c.asked.ensures)).0

pub returns-then-owner-x-clause-is : goal.returns-then-owner-x-clause-is
returns-then-owner-x-clause-is c = let a = c.args in let h = c.requires in let o = c.base_owner-owner in
    (unwrap-not-owner a.types.now a.links.now a.c h.0 a.ps a.x h.2 (sym c.if-not-asked.false ∙ c.asked.ensures) o.result o.ensures.0 c.if-owner-x.true).0

pub returns-clause-is : goal.returns-clause-is
returns-clause-is c = let a = c.args in let h = c.requires in let o = c.base_owner-owner in let base = c.base_of-base in let m = c.meet in
    (unwrap_meets a.types.now a.links.now a.c h.0 a.ps a.x h.2 (sym c.if-not-asked.false ∙ c.asked.ensures)
    o.result o.ensures.0 c.if-owner-x.false base.result base.ensures m.new.types m.result m.ensures.is m.ensures.leaves).0
