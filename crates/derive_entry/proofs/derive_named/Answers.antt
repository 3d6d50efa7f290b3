-- One law for each way in which it returns; a signed local is kept as 64 bits, from which `to_z-of_z` reads it back.
use mathlib.Core.Path.{refl}
use mir.Facts.{to_z-of_z}
use Rattle.table_record.specs.Store.{kind_is}
use Rattle.derive_entry.proofs.Laws.{derives-as, refused-derives, no-left, no-right, no_kind, named-derived}
use Rattle.derive_entry.proofs.derive_named.Goals as goal

pub returns-then-c-x : goal.returns-then-c-x
returns-then-c-x c =
    let a = c.args in
    let x = c.index_of-x in
    let ex = rw (to_z-of_z c.ranges.t) at x.ensures in
    λ l. refused-derives a.b.now l a.c refl (no-left a.b.now l a.c a.kind a.t a.s x.result ex c.if-c-x.true)

pub returns-then-c-y : goal.returns-then-c-y
returns-then-c-y c =
    let a = c.args in
    let x = c.index_of-x in
    let y = c.index_of-y in
    let ex = rw (to_z-of_z c.ranges.t) at x.ensures in
    let ey = rw (to_z-of_z c.ranges.s) at y.ensures in
    λ l. refused-derives a.b.now l a.c refl (no-right a.b.now l a.c a.kind a.t a.s x.result ex c.if-c-x.false y.result ey c.if-c-y.true)

pub returns-in-Some : goal.returns-in-Some
returns-in-Some c =
    let a = c.args in
    let x = c.index_of-x in
    let y = c.index_of-y in
    let ex = rw (to_z-of_z c.ranges.t) at x.ensures in
    let ey = rw (to_z-of_z c.ranges.s) at y.ensures in
    let k = c.in-Some.ensures in
    λ l. derives-as (c.derive_checked.ensures l) (named-derived a.b.now l a.c a.kind a.t a.s x.result ex c.if-c-x.false y.result ey c.if-c-y.false (kind_is c.in-Some.kind) k.0 k.1)

pub returns-in-None : goal.returns-in-None
returns-in-None c =
    let a = c.args in
    let x = c.index_of-x in
    let y = c.index_of-y in
    let ex = rw (to_z-of_z c.ranges.t) at x.ensures in
    let ey = rw (to_z-of_z c.ranges.s) at y.ensures in
    λ l. refused-derives a.b.now l a.c refl (no_kind a.b.now l a.c a.kind a.t a.s x.result ex c.if-c-x.false y.result ey c.if-c-y.false c.in-None.ensures)
