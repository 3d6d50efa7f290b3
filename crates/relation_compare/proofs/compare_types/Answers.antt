-- Compare on any table: 2 exactly where the check fails; behind it the checked one answers, whose operands are read back from their 64 bits (`to_z-of_z`).
use mathlib.Core.Path.{sym, ◌∙◌}
use mir.Facts.{to_z-of_z}
use Rattle.table_check.proofs.Accepted.{accepted-checked}
use Rattle.base_numbers.specs.Refusal.{res_by}
use Rattle.relation_compare.specs.Comparing.{comparison_of}
use Rattle.relation_compare.proofs.Laws.{compare-fit, compare-unfit}
use Rattle.relation_compare.proofs.compare_types.Goals as goal

pub compare_checked-requires : goal.compare_checked-requires
compare_checked-requires c =
    let a = c.args in
    accepted-checked a.b.now a.l.now a.c (sym c.table_fits.ensures ∙ c.if-table_fits.true)

pub returns-then-table_fits : goal.returns-then-table_fits
returns-then-table_fits c =
    let a = c.args in
    let f = c.ranges in
    compare-fit a.b.now a.l.now a.c a.t a.s (res_by comparison_of c.compare_checked.result) (sym c.table_fits.ensures ∙ c.if-table_fits.true)
    (rw (to_z-of_z f.t, to_z-of_z f.s) at c.compare_checked.ensures)

pub returns-else-table_fits : goal.returns-else-table_fits
returns-else-table_fits c =
    let a = c.args in
    compare-unfit a.b.now a.l.now a.c a.t a.s (sym c.table_fits.ensures ∙ c.if-table_fits.false)
