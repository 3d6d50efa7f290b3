use Rattle.std.proofs.Common.{refl}
use Rattle.state_bytes.specs.Records.{calls_from}
use Rattle.state_bytes_check.proofs.BytesHeld.call_count.Goals as goal

pub returns : goal.returns
unfolding calls_from
returns c = refl
