-- What is read at a number that counts is the record that stands there (`cell-found`).
use Rattle.std.proofs.Common.{sym, ◌∙◌, arith}
use Rattle.state_bytes.specs.Flat.{cell_count}
use Rattle.state_bytes.specs.Records.{cells_from}
use Rattle.state_bytes.proofs.Laws.{cell-found}
use Rattle.state_bytes_check.proofs.BytesHeld.cell.Goals as goal

pub returns : goal.returns
unfolding cells_from
returns c = let s = c.args.self.now in
    c.cell_from.ensures ∙ sym (cell-found s.cells.now (cell_count s.counts.now) c.args.k c.requires.0 (omega (arith, c.requires.0, c.requires.1)))
