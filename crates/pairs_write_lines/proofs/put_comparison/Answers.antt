-- Four words of a bit each, written one behind the other in the rest of the buffer (`fill-rest`), are the answers' text (`answers-are`).
use Rattle.pairs_write_lines.proofs.Laws.{answers-are}
use Rattle.text_write.proofs.Laws.{fill-rest, fill_is}
use Rattle.pairs_write_lines.proofs.put_comparison.Goals as goal

pub returns-clause-is : goal.returns-clause-is
returns-clause-is c =
    let two = fill-rest c.put_number-a.ensures.is c.min-i.ensures c.put_number.ensures.is in
    let three = fill-rest two c.min-j.ensures c.put_number-2.ensures.is in
    fill_is (answers-are c.args.code) (fill-rest three c.min-k.ensures c.write_number.ensures.is.filled)
