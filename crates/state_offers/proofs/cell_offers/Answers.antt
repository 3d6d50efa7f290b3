-- No such cell; a chain that the cell's type permits, so that the type of its place decides; one that it does not.
use mathlib.Core.Path.{sym, ◌∙◌}
use mir.Facts.{to_z-of_z}
use Rattle.state_bytes.specs.Flat.{flat}
use Rattle.state_offers.proofs.Laws.{bytes-unknown, bytes-not, bytes-by-place}
use Rattle.state_offers.proofs.cell_offers.Goals as goal

pub returns-then-n-k : goal.returns-then-n-k
returns-then-n-k c = λ l js. let a = c.args in
    bytes-unknown (flat a.types.now l a.cells.now a.places.now js a.counts.now) a.cell a.chain.now c.index_of-k.result (rw (to_z-of_z c.ranges.cell) at c.index_of-k.ensures) c.if-n-k.true

pub returns-then-type_permits : goal.returns-then-type_permits
returns-then-type_permits c = λ l js. let a = c.args in
    bytes-by-place (flat a.types.now l a.cells.now a.places.now js a.counts.now) a.cell a.chain.now c.index_of-k.result
    (rw (to_z-of_z c.ranges.cell) at c.index_of-k.ensures)
    c.requires c.if-n-k.false c.cell_from-x.result c.cell_from-x.ensures
    c.counts_from-c.result c.counts_from-c.ensures c.from-ty.result c.from-ty.ensures (sym c.if-type_permits.true ∙ c.type_permits.ensures l)
    c.from.result c.from.ensures c.place_from-p.result c.place_from-p.ensures
    c.place_type-place_type.result c.place_type-place_type.ensures.0 c.type_permits-then-type_permits.result (c.type_permits-then-type_permits.ensures l)

pub returns-else-type_permits : goal.returns-else-type_permits
returns-else-type_permits c = λ l js. let a = c.args in
    c.if-type_permits.false
    ∙ bytes-not (flat a.types.now l a.cells.now a.places.now js a.counts.now) a.cell a.chain.now c.index_of-k.result
    (rw (to_z-of_z c.ranges.cell) at c.index_of-k.ensures)
    c.requires c.if-n-k.false c.cell_from-x.result c.cell_from-x.ensures
    c.counts_from-c.result c.counts_from-c.ensures c.from-ty.result c.from-ty.ensures (sym c.if-type_permits.false ∙ c.type_permits.ensures l)
