-- One law for each kind of type.
use mir.Facts.{to_z-of_z}
use mathlib.Core.Path.{refl, ap}
use Prim.Native.Nat.{ℕ}
use Rattle.std.specs.Prelude.{Ok, Err}
use Rattle.spec_model.specs.Basics.{refuse}
use Rattle.crossing_targets.proofs.Laws.{pass-unknown, pass-ref, pass-32, pass-64}
use Rattle.crossing_targets.proofs.pass_one.Goals as goal

pub returns-then-c-t : goal.returns-then-c-t
returns-then-c-t c = let a = c.args in λ l. pass-unknown a.types.now l a.c a.v a.target a.i _ _ c.in-Some.is
    c.if-c-t.true (rw (to_z-of_z c.ranges.v) at c.fits32.ensures)

pub returns-then-h-eq-REF : goal.returns-then-h-eq-REF
returns-then-h-eq-REF c = let a = c.args in λ l. pass-ref a.types.now l a.c a.v a.target a.i (Err c.at_layer-then-h-eq-REF.result) _ c.in-Some.is
    c.if-c-t.false c.get_head-h.result c.get_head-h.ensures c.if-h-eq-REF.true (ap (λ (n : ℕ). refuse n) c.at_layer-then-h-eq-REF.ensures)

pub returns-then-h-eq-W32 : goal.returns-then-h-eq-W32
returns-then-h-eq-W32 c = let a = c.args in λ l. pass-32 a.types.now l a.c a.v a.target a.i _ _ c.in-Some.is
    c.if-c-t.false c.get_head-h.result c.get_head-h.ensures c.if-h-eq-W32.true (rw (to_z-of_z c.ranges.v) at c.fits32-then-h-eq-W32.ensures)

pub returns : goal.returns
returns c = let a = c.args in λ l. pass-64 a.types.now l a.c a.v a.target a.i (Ok tt) _ c.in-Some.is
    c.if-c-t.false c.get_head-h.result c.get_head-h.ensures c.if-h-eq-REF.false c.if-h-eq-W32.false refl
