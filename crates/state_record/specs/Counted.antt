-- The counted records of each kind: a list of as many as there may be, beside how many of them count.
use Rattle.spec_model.specs.Crossing.{max_places}
use Rattle.spec_model.specs.Requests.{max_cells, max_calls}
use Rattle.state_record.specs.declared.Cell.{Cell}
use Rattle.state_record.specs.declared.PlaceRec.{PlaceRec}
use Rattle.state_record.specs.declared.Call.{Call}
use Rattle.state_record.specs.declared.Records.{Records}

abbrev pub Cells : Type 0
Cells = Records Cell max_cells

abbrev pub Places : Type 0
Places = Records PlaceRec max_places

abbrev pub Calls : Type 0
Calls = Records Call max_calls
