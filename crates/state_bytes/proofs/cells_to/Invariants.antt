-- The bytes are written row by row, up to the count or the array's end (Rows); what they then say is `cells-written`.
use Rattle.state_bytes.proofs.Rows.{Rows}
use Rattle.state_bytes.proofs.Laws.{cell_row}
use Rattle.state_bytes.specs.Flat.{cell_size}
use Rattle.state_bytes.proofs.cells_to.Given as goal

abbrev pub invariant-loop-k : goal.invariant-loop-k
invariant-loop-k l = Rows cell_size (cell_row l.cs) l.initial.b l.k l.b
