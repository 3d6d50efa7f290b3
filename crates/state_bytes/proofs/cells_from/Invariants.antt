-- The array is filled record by record, up to the count or the array's end (Filling).
use Rattle.state_record.specs.View.{blank_cell}
use Rattle.state_bytes.specs.Records.{cell_from}
use Rattle.state_bytes.proofs.Filling.{Filled}
use Rattle.spec_model.specs.Requests.{max_cells}
use Rattle.state_bytes.proofs.cells_from.Given as goal

abbrev pub invariant-loop-k : goal.invariant-loop-k
invariant-loop-k l = Filled blank_cell (cell_from l.b) max_cells l.k l.list
