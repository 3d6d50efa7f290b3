-- The record of a place is made of its three bytes: `place_by` chooses by the code, as the definition does.
use mathlib.Core.Path.{ap}
use Rattle.state_bytes.proofs.place_from.Goals as goal

pub returns : goal.returns
returns c = ap (λ x. record { place = x }) c.place_by-place.ensures
