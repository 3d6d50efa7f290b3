-- Out of range by the check; of a state that passes it the cell says it.
use mathlib.Core.Path.{sym, ◌∙◌}
use mir.Facts.{to_z-of_z}
use Rattle.state_bytes.specs.Flat.{flat}
use Rattle.state_offers.proofs.Laws.{handed-unfit, handed-fit, within}
use Rattle.state_offers.proofs.offers.Goals as goal

pub returns-then-not-bytes_fit : goal.returns-then-not-bytes_fit
returns-then-not-bytes_fit c = let a = c.args in
    let f = flat a.types.now a.links.now a.cells.now a.places.now a.calls.now a.counts.now in
    handed-unfit f a.cell a.chain.now (sym c.bytes_fit.ensures ∙ c.if-not-bytes_fit.true)

pub cell_offers-requires : goal.cell_offers-requires
cell_offers-requires c = let a = c.args in
    let f = flat a.types.now a.links.now a.cells.now a.places.now a.calls.now a.counts.now in
    within f (sym c.bytes_fit.ensures ∙ c.if-not-bytes_fit.false)

pub returns : goal.returns
returns c = let a = c.args in
    let f = flat a.types.now a.links.now a.cells.now a.places.now a.calls.now a.counts.now in
    handed-fit f a.cell a.chain.now (sym c.bytes_fit.ensures ∙ c.if-not-bytes_fit.false) _ (rw (to_z-of_z c.ranges.cell) at (c.cell_offers.ensures f.links f.calls))
