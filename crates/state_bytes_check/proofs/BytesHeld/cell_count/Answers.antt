use Rattle.std.proofs.Common.{refl}
use Rattle.state_bytes.specs.Records.{cells_from}
use Rattle.state_bytes_check.proofs.BytesHeld.cell_count.Goals as goal

pub returns : goal.returns
unfolding cells_from
returns c = refl
