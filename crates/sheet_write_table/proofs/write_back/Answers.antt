-- The types' lines, and the last line in the rest of the buffer (`lines_rest`).
use Rattle.text_write.proofs.Laws.{lines_rest}
use Rattle.sheet_write_table.specs.Parts.{back_lines}
use Rattle.sheet_write_table.proofs.write_back.Goals as goal

pub returns-clause-is : goal.returns-clause-is
unfolding back_lines
returns-clause-is c = lines_rest c.write_types-a.ensures.is c.min-k.ensures c.write_word.ensures.is
