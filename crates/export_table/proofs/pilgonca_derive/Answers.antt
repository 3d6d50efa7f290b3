-- A refusal: by the contract of the derivation, with the counts as they were taken.
use mir.Facts.{to_z-of_z}
use Rattle.export_table.proofs.Handing.{refused-out}
use Rattle.export_table.proofs.pilgonca_derive.Goals as goal

pub returns-in-Err : goal.returns-in-Err
returns-in-Err c = let a = c.args in
    let h = rw (c.counts_of-c.ensures, c.in-Err.is, to_z-of_z c.ranges.t, to_z-of_z c.ranges.s) at c.derive-r.ensures in
    rw c.number.ensures (refused-out a.types.now c.derive-r.new.b a.links.now a.counts.now a.number.now c.in-Err.e h)
