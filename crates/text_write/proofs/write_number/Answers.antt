-- The text of key and number, and LF in the rest of the buffer (`fill-rest`), are the line.
use Rattle.text_write.proofs.Laws.{fill-rest, ended}
use Rattle.text_write.proofs.write_number.Goals as goal

pub returns-clause-is : goal.returns-clause-is
returns-clause-is c = ended (fill-rest c.put_number-a.ensures.is c.min-k.ensures c.put_byte.ensures)
