-- A derivation on any table: 2 exactly where the check fails; behind it the checked one answers, whose operands are read back from their 64 bits (`to_z-of_z`).
use mathlib.Core.Path.{refl, sym, ◌∙◌}
use mir.Facts.{to_z-of_z}
use Rattle.table_check.proofs.Accepted.{accepted-limits}
use Rattle.derive_entry.proofs.Laws.{derives-as, refused-derives, handed-unfit, handed-fit}
use Rattle.derive_entry.proofs.derive.Goals as goal

pub derive_named-requires : goal.derive_named-requires
derive_named-requires c =
    let a = c.args in
    accepted-limits a.b.now a.l.now a.c (sym c.table_fits.ensures ∙ c.if-table_fits.true)

pub returns-then-table_fits : goal.returns-then-table_fits
returns-then-table_fits c =
    let a = c.args in
    let d = rw (to_z-of_z c.ranges.t, to_z-of_z c.ranges.s) at c.derive_named.ensures in
    let fit = sym c.table_fits.ensures ∙ c.if-table_fits.true in
    derives-as (d a.l.now) (handed-fit a.b.now a.l.now a.c a.kind a.t a.s fit)

pub returns-else-table_fits : goal.returns-else-table_fits
returns-else-table_fits c =
    let a = c.args in
    let unfit = sym c.table_fits.ensures ∙ c.if-table_fits.false in
    refused-derives a.b.now a.l.now a.c refl (handed-unfit a.b.now a.l.now a.c a.kind a.t a.s unfit)
