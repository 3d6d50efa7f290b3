-- The line of two numbers: the second is written in the rest behind the first (`line-rest`).
use Rattle.script_write_outcome.specs.Outcomes.{outcome_text}
use Rattle.text_write.proofs.Laws.{line-rest}
use Rattle.script_write_outcome.proofs.write_pair.Goals as goal

pub returns-clause-is : goal.returns-clause-is
unfolding outcome_text
returns-clause-is c = line-rest c.put_number-a.ensures.is c.min-k.ensures c.write_number.ensures.is
