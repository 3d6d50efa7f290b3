-- The unpaired ones stand in the rest behind the pairs (`line-rest`).
use Rattle.spec_doors.specs.Output.{held_text}
use Rattle.text_write.proofs.Laws.{line-rest}
use Rattle.doors_output.proofs.write_counts.Goals as goal

pub returns-clause-is : goal.returns-clause-is
unfolding held_text
returns-clause-is c = line-rest c.put_number-a.ensures.is c.min-k.ensures c.write_unpaired.ensures.is
