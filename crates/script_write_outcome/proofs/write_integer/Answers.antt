-- The line of a number answered: key, number and LF, each written in the rest that the one before left (`fill-rest`), are its text (`number_is`).
use mir.Facts.{to_z-of_z}
use Rattle.script_write_outcome.proofs.Laws.{number_is}
use Rattle.text_write.proofs.Laws.{fill-rest, fill_is, ended}
use Rattle.script_write_outcome.proofs.write_integer.Goals as goal

pub returns-clause-is : goal.returns-clause-is
returns-clause-is c =
    ended (fill_is (number_is c.args.v _ (to_z-of_z c.ranges.v)) (fill-rest (fill-rest c.put_bytes-a.ensures c.min-k.ensures c.put_integer.ensures.is) c.min-j.ensures c.put_byte.ensures))
