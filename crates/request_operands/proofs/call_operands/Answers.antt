-- A signed number is kept as 64 bits, from which `to_z-of_z` reads it back.
use mir.Facts.{to_z-of_z}
use Rattle.request_operands.proofs.Listing.{listed}
use Rattle.request_operands.proofs.call_operands.Goals as goal

pub returns : goal.returns
returns c = let a = c.args in rw (to_z-of_z c.ranges.subject, to_z-of_z c.ranges.cell, to_z-of_z c.ranges.method)
    (listed a.subject a.cell a.method a.arguments.now c.copy_from_slice.new.self _ c.min-n.result c.min-n.ensures c.copy_from_slice.ensures.after)
