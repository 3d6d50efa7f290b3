-- The index below the count is the number named; else the model too reads a cell of zeros.
use mir.Syntax.{w64}
use mir.Facts.{to_z-of_z}
use native.Mathlib.Omega.{arith}
use Rattle.request_value.proofs.Laws.{cell-named, cell-unnamed}
use Rattle.request_value.proofs.named_cell.Goals as goal

pub at-requires : goal.at-requires
at-requires c = omega (arith, c.if-k-cs.true, c.requires)

pub returns-then-k-cs : goal.returns-then-k-cs
returns-then-k-cs c = cell-named c.args.cs c.args.v c.from_zero.result
    (rw (to_z-of_z c.ranges.v) at c.from_zero.ensures) c.index_of-k.result
    (rw (to_z-of_z {w = w64} {z = c.from_zero.result} (record { sfits = c.from_zero.type_inv })) at
    c.index_of-k.ensures) c.if-k-cs.true c.at.result (c.at.ensures.1 c.if-k-cs.true)

pub returns : goal.returns
returns c = cell-unnamed c.args.cs c.args.v c.from_zero.result
    (rw (to_z-of_z c.ranges.v) at c.from_zero.ensures) c.index_of-k.result
    (rw (to_z-of_z {w = w64} {z = c.from_zero.result} (record { sfits = c.from_zero.type_inv })) at c.index_of-k.ensures)
    c.if-k-cs.false
