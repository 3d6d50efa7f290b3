-- The own line, and the methods' lines in the rest of the buffer (`lines_rest`).
use Rattle.text_write.proofs.Laws.{lines_rest}
use Rattle.sheet_write_table.proofs.write_members.Goals as goal

pub returns-clause-is : goal.returns-clause-is
returns-clause-is c = lines_rest c.write_own-a.ensures.is c.min-k.ensures c.write_methods.ensures.is
