-- One record is set: `calls-answered`. The array has 512 elements.
use lib.ListN.{length}
use mathlib.Core.Path.{◌≡◌, refl}
use Rattle.state_record.proofs.Laws.{calls-answered}
use native.Mathlib.Omega.{arith}
use Rattle.spec_model.specs.Requests.{max_calls}
use Rattle.state_record.proofs.Calls.answered.Goals as goal

pub returns : goal.returns
returns c =
    let n : length c.args.self.list ≡ max_calls = c.well_formed.0.1.1.0.1.0.1 in
    (refl, calls-answered c.args.self c.args.j c.requires.0 (omega arith))
