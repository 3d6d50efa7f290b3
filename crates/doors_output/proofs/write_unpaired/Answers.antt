-- The second count stands in the rest behind the first (`line-rest`).
use Rattle.text_write.proofs.Laws.{line-rest}
use Rattle.doors_output.proofs.write_unpaired.Goals as goal

pub returns-clause-is : goal.returns-clause-is
returns-clause-is c = line-rest c.put_number-a.ensures.is c.min-k.ensures c.write_number.ensures.is
