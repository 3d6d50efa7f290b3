-- One law for each way in which it returns: the place passes, 10, 11, 12, and a new adapter.
use mathlib.Core.Path.{sym, ap, ◌∙◌, refl}
use native.Mathlib.Omega.{arith}
use Prim.Native.Nat.{◌<◌}
use Rattle.spec_model.specs.Crossing.{place_type}
use Rattle.crossing_meet.proofs.Laws.{meets-passes, meets-not-strict, closable, meets-types-full, closed-byte, meets-places-full, meets-adapts}
use Rattle.crossing_meet.proofs.meet.Goals as goal

pub returns-then-asked-clause-is : goal.returns-then-asked-clause-is
returns-then-asked-clause-is c = let a = c.args in let h = c.requires in
    (meets-passes a.types.now a.links.now a.c h.0 a.ps h.1.descending a.to a.right a.p h.1.place c.place_type-v.result (c.place_type-v.ensures.0 ∙ ap place_type (c.at.ensures.1 h.1.place))
    (sym c.if-asked.true ∙ c.asked.ensures) c.land.result c.land.ensures.0).0

pub returns-then-not-asked-clause-is : goal.returns-then-not-asked-clause-is
returns-then-not-asked-clause-is c = let a = c.args in let h = c.requires in
    (meets-not-strict a.types.now a.links.now a.c h.0 a.ps h.1.descending a.to a.right a.p h.1.place c.place_type-v.result (c.place_type-v.ensures.0 ∙ ap place_type (c.at.ensures.1 h.1.place))
    (sym c.if-asked.false ∙ c.asked.ensures) (sym c.if-not-asked.true ∙ c.asked-2.ensures)).0

pub closed_any-requires : goal.closed_any-requires
closed_any-requires c = let a = c.args in let h = c.requires in
    closable a.types.now a.links.now a.c h.0 a.ps h.1.descending a.to a.right a.p h.1.place c.place_type-v.result (c.place_type-v.ensures.0 ∙ ap place_type (c.at.ensures.1 h.1.place))
    (sym c.if-asked.false ∙ c.asked.ensures) (sym c.if-not-asked.false ∙ c.asked-2.ensures)

pub returns-in_default-clause-is : goal.returns-in_default-clause-is
returns-in_default-clause-is c = let a = c.args in let h = c.requires in let d = c.closed_any in
    (meets-types-full a.types.now a.links.now a.c h.0 a.ps h.1.descending a.to a.right a.p h.1.place c.place_type-v.result (c.place_type-v.ensures.0 ∙ ap place_type (c.at.ensures.1 h.1.place))
    (sym c.if-asked.false ∙ c.asked.ensures) (sym c.if-not-asked.false ∙ c.asked-2.ensures) d.new.b d.result d.ensures c.in_default.is).0

pub returns-then-ps-ge-PLACES-clause-is : goal.returns-then-ps-ge-PLACES-clause-is
returns-then-ps-ge-PLACES-clause-is c = let a = c.args in let h = c.requires in let d = c.closed_any in
    (meets-places-full a.types.now a.links.now a.c h.0 a.ps h.1.descending a.to a.right a.p h.1.place c.place_type-v.result (c.place_type-v.ensures.0 ∙ ap place_type (c.at.ensures.1 h.1.place))
    (sym c.if-asked.false ∙ c.asked.ensures) (sym c.if-not-asked.false ∙ c.asked-2.ensures) d.new.b d.result d.ensures _ _ c.in-Some.is c.if-ps-ge-PLACES.true).0

pub overflow_cast-place-2 : goal.overflow_cast-place-2
overflow_cast-place-2 c = let a = c.args in let h = c.requires in let d = c.closed_any in
    let low : c.in-Some.closed < 256 =
    closed-byte a.types.now a.links.now a.c h.0 a.ps h.1.descending a.to a.right a.p h.1.place c.place_type-v.result (c.place_type-v.ensures.0 ∙ ap place_type (c.at.ensures.1 h.1.place))
    (sym c.if-asked.false ∙ c.asked.ensures) (sym c.if-not-asked.false ∙ c.asked-2.ensures) d.new.b d.result d.ensures _ _ c.in-Some.is in
    record { fits = low }

pub returns-clause-is : goal.returns-clause-is
returns-clause-is c = let a = c.args in let h = c.requires in let d = c.closed_any in
    (meets-adapts a.types.now a.links.now a.c h.0 a.ps h.1.descending a.to a.right a.p h.1.place c.place_type-v.result (c.place_type-v.ensures.0 ∙ ap place_type (c.at.ensures.1 h.1.place))
    (sym c.if-asked.false ∙ c.asked.ensures) (sym c.if-not-asked.false ∙ c.asked-2.ensures) d.new.b d.result d.ensures _ _ c.in-Some.is
    (omega (arith, c.if-ps-ge-PLACES.false)) _ _ refl refl c.land-2.result c.land-2.ensures).0

pub returns-clause-leaves : goal.returns-clause-leaves
returns-clause-leaves c = let a = c.args in let h = c.requires in let d = c.closed_any in
    (meets-adapts a.types.now a.links.now a.c h.0 a.ps h.1.descending a.to a.right a.p h.1.place c.place_type-v.result (c.place_type-v.ensures.0 ∙ ap place_type (c.at.ensures.1 h.1.place))
    (sym c.if-asked.false ∙ c.asked.ensures) (sym c.if-not-asked.false ∙ c.asked-2.ensures) d.new.b d.result d.ensures _ _ c.in-Some.is
    (omega (arith, c.if-ps-ge-PLACES.false)) _ _ refl refl c.land-2.result c.land-2.ensures).1
