-- Four lines of a count each, written one behind the other in the rest of the buffer (`lines_rest`).
use Rattle.text_write.proofs.Laws.{lines_rest}
use Rattle.sheet_write_table.proofs.write_counts.Goals as goal

pub returns-clause-is : goal.returns-clause-is
returns-clause-is c =
    let two = lines_rest c.write_number-a.ensures.is c.min-j.ensures c.write_number.ensures.is in
    let three = lines_rest two c.min-k.ensures c.write_number-2.ensures.is in
    lines_rest three c.min-n.ensures c.write_number-3.ensures.is
