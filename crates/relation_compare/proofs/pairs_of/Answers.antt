-- The pair table of any table: 2 exactly where the check fails, else the one that is made of a checked table.
use mathlib.Core.Path.{sym, ◌∙◌}
use Rattle.table_check.proofs.Accepted.{accepted-checked}
use Rattle.relation_compare.proofs.Laws.{pairs-fit, pairs-unfit}
use Rattle.relation_compare.proofs.pairs_of.Goals as goal

pub returns-then-not-table_fits : goal.returns-then-not-table_fits
returns-then-not-table_fits c =
    let a = c.args in
    pairs-unfit a.b.now a.l.now a.c (sym c.table_fits.ensures ∙ c.if-not-table_fits.true)

pub pair_table-requires : goal.pair_table-requires
pair_table-requires c =
    let a = c.args in
    accepted-checked a.b.now a.l.now a.c (sym c.table_fits.ensures ∙ c.if-not-table_fits.false)

pub returns : goal.returns
returns c =
    let a = c.args in
    pairs-fit a.b.now a.l.now a.c c.pair_table.result (sym c.table_fits.ensures ∙ c.if-not-table_fits.false) c.pair_table.ensures
