-- A signed local is kept as 64 bits, from which `to_z-of_z` reads it back.
use mir.Facts.{to_z-of_z}
use Rattle.request_common.proofs.Laws.{subject-is}
use Rattle.request_common.proofs.is_subject.Goals as goal

pub returns : goal.returns
returns c = subject-is c.args.c c.args.z _ (rw (to_z-of_z c.ranges.z) at c.index_of.ensures)
