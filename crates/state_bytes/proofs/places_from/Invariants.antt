-- The array is filled record by record, up to the count or the array's end (Filling).
use Rattle.state_record.specs.View.{blank_place}
use Rattle.state_bytes.specs.Records.{place_from}
use Rattle.state_bytes.proofs.Filling.{Filled}
use Rattle.spec_model.specs.Crossing.{max_places}
use Rattle.state_bytes.proofs.places_from.Given as goal

abbrev pub invariant-loop-p : goal.invariant-loop-p
invariant-loop-p l = Filled blank_place (place_from l.b) max_places l.p l.list
