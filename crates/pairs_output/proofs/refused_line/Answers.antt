-- A refusal's line: the number, and the offset in the rest of the buffer (`line-rest`).
use Rattle.pairs_output.specs.Output.{result_lines}
use Rattle.text_write.proofs.Laws.{line-rest}
use Rattle.pairs_output.proofs.refused_line.Goals as goal

pub returns-clause-is : goal.returns-clause-is
unfolding result_lines
returns-clause-is c = line-rest c.put_number-a.ensures.is c.min-k.ensures c.write_number.ensures.is
