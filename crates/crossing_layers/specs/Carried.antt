-- A reference at one layer: what `cross_layers` asks there before it goes on.
use Rattle.std.specs.Prelude.{Bool, ℕ}
use Rattle.std.proofs.Math.Option.{Option, none, some}
use Rattle.spec_model.specs.Basics.{Res, refuse}
use Rattle.spec_model.specs.Crossing.{Reference, cross}
use Rattle.spec_model.specs.Requests.{at_layer, renumber}
use Rattle.spec_model.specs.Refusals.{unrelated}

abbrev pub cross_to : Bool → Reference → ℕ → Option ℕ → Res Reference
cross_to first f r none = refuse (at_layer first unrelated)
cross_to first f r (some t) = renumber first (cross f t r)
