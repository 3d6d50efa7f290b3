-- A whole state: the bytes of its types, and the rest, each lent by itself. Contracts and laws speak of whole states.
use Rattle.std.specs.Prelude.{List, ℕ}
use Rattle.table_record.specs.declared.Counts.{Counts}
use Rattle.state_record.specs.Counted.{Cells}
use Rattle.state_record.specs.Counted.{Places}
use Rattle.state_record.specs.Counted.{Calls}
use Rattle.state_record.specs.declared.State.{State}

pub record Whole : Type 0 where
  pub types : List ℕ
  pub links : List ℕ
  pub counts : Counts
  pub cells : Cells
  pub places : Places
  pub calls : Calls

abbrev pub whole : List ℕ → State → Whole
whole b s = record { types = b; links = s.links; counts = s.counts; cells = s.cells; places = s.places; calls = s.calls }
