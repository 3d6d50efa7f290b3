-- One law for each way in which it returns: a subtype, 8, 11, and what comes of meeting Sub.
use mathlib.Core.Path.{sym, ◌∙◌}
use Rattle.crossing_one.proofs.Laws.{restrict-unrelated, restrict-stays, sub-asked, restrict-types-full, restrict-meets}
use Rattle.crossing_one.proofs.restrict_to.Goals as goal

pub returns-then-asked-clause-is : goal.returns-then-asked-clause-is
returns-then-asked-clause-is c = let a = c.args in let h = c.requires in
    (restrict-stays a.types.now a.links.now a.c h.0 a.ps a.x h.1.descending h.1.place h.2 (sym c.if-asked.true ∙ c.asked.ensures) c.land.result c.land.ensures.0).0

pub returns-then-asked-clause-leaves : goal.returns-then-asked-clause-leaves
returns-then-asked-clause-leaves c = let a = c.args in let h = c.requires in
    (restrict-stays a.types.now a.links.now a.c h.0 a.ps a.x h.1.descending h.1.place h.2 (sym c.if-asked.true ∙ c.asked.ensures) c.land.result c.land.ensures.0).1

pub returns-then-not-asked-clause-is : goal.returns-then-not-asked-clause-is
returns-then-not-asked-clause-is c = let a = c.args in let h = c.requires in
    (restrict-unrelated a.types.now a.links.now a.c h.0 a.ps a.x h.1.descending h.1.place h.2 (sym c.if-not-asked.true ∙ c.asked-2.ensures)).0

pub sub_type-requires : goal.sub_type-requires
sub_type-requires c = let a = c.args in sub-asked a.types.now a.links.now a.c c.requires.0 a.x.to a.x.from (sym c.if-not-asked.false ∙ c.asked-2.ensures)

pub returns-in_default-clause-is : goal.returns-in_default-clause-is
returns-in_default-clause-is c = let a = c.args in let h = c.requires in let d = c.sub_type in
    (restrict-types-full a.types.now a.links.now a.c h.0 a.ps a.x h.1.descending h.1.place h.2
    (sym c.if-not-asked.false ∙ c.asked-2.ensures) (sym c.if-asked.false ∙ c.asked.ensures) d.new.b d.result d.ensures c.in_default.is).0

pub returns-clause-is : goal.returns-clause-is
returns-clause-is c = let a = c.args in let h = c.requires in let d = c.sub_type in let m = c.meet in
    (restrict-meets a.types.now a.links.now a.c h.0 a.ps a.x h.1.descending h.1.place h.2
    (sym c.if-not-asked.false ∙ c.asked-2.ensures) (sym c.if-asked.false ∙ c.asked.ensures) d.new.b d.result d.ensures _ _ c.in-Some.is
    c.with_types.result c.with_types.ensures m.new.types m.result m.ensures.is m.ensures.leaves).0

pub returns-clause-leaves : goal.returns-clause-leaves
returns-clause-leaves c = let a = c.args in let h = c.requires in let d = c.sub_type in let m = c.meet in
    (restrict-meets a.types.now a.links.now a.c h.0 a.ps a.x h.1.descending h.1.place h.2
    (sym c.if-not-asked.false ∙ c.asked-2.ensures) (sym c.if-asked.false ∙ c.asked.ensures) d.new.b d.result d.ensures _ _ c.in-Some.is
    c.with_types.result c.with_types.ensures m.new.types m.result m.ensures.is m.ensures.leaves).1
