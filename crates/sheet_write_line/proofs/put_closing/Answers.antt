-- Bracket, answer and LF, written one behind the other in the rest of the buffer (`fill-rest`).
use Rattle.text_write.proofs.Laws.{fill-rest}
use Rattle.sheet_write_line.proofs.put_closing.Goals as goal

pub returns-clause-is : goal.returns-clause-is
returns-clause-is c = fill-rest (fill-rest c.put_byte-a.ensures c.min-j.ensures c.put_answer.ensures.is) c.min-k.ensures c.put_byte.ensures
