-- The key and the first number, then the second and the end of the line in the rest of the buffer (`fill-rest`).
use Rattle.sheet_write_line.proofs.Laws.{under-is}
use Rattle.text_write.proofs.Laws.{fill-rest, fill_is, ended}
use Rattle.sheet_write_line.proofs.write_under.Goals as goal

pub returns-clause-is : goal.returns-clause-is
returns-clause-is c = ended (fill_is (under-is c.args.x c.from.result c.from.ensures) (fill-rest c.put_number-a.ensures.is c.min-k.ensures c.put_second.ensures.is))
