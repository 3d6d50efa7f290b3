-- The fixed bytes, and LF in the rest of the buffer (`fill-rest`), are the line.
use Rattle.text_write.proofs.Laws.{fill-rest, ended}
use Rattle.text_write.proofs.write_word.Goals as goal

pub returns-clause-is : goal.returns-clause-is
returns-clause-is c = ended (fill-rest c.put_bytes-a.ensures c.min-k.ensures c.put_byte.ensures)
