-- Counts and table that pass give the callee what it requires.
use Rattle.std.proofs.Common.{sym, ◌∙◌, arith}
use Rattle.table_check.proofs.Accepted.{accepted-limits}
use Rattle.state_check.proofs.Laws.{sizes-are}
use Rattle.state_check.proofs.held_fits.Goals as goal

pub records_fit-requires : goal.records_fit-requires
records_fit-requires g c = let a = c.args in
    let z = sizes-are c.cell_count.result c.place_count.result c.call_count.result (sym c.sizes_fit.ensures ∙ c.if-not-sizes_fit.false) in (
      accepted-limits a.types.now a.links.now a.c (sym c.table_fits.ensures ∙ c.if-table_fits.true),
      omega (arith, z.0, c.cell_count.ensures),
      omega (arith, z.1, c.place_count.ensures),
      omega (arith, z.2, c.call_count.ensures),
    )
