use Rattle.std.proofs.Common.{refl}
use Rattle.state_bytes.specs.Records.{places_from}
use Rattle.state_bytes_check.proofs.BytesHeld.place_count.Goals as goal

pub returns : goal.returns
unfolding places_from
returns c = refl
