-- The cursor goes past a line of one number as the definition does: the one law of a line (`line_read`), since this kind too refuses an empty line (`number-empty`).
use Rattle.spec_sheet.specs.Sheet.{number_line}
use Rattle.text_read.proofs.Laws.{number-empty, line_read}
use Rattle.text_read.proofs.next_number.Goals as goal

pub returns-clause-is : goal.returns-clause-is
returns-clause-is c =
    let a = c.args in
    let d = c.next_line-d in
    line_read (λ n. n) (number_line a.key.now a.low a.high) (number-empty a.key.now a.low a.high) a.s.now a.c d.result d.ensures _ c.between.ensures
    c.read_number.result c.placed.result c.read_number.ensures.is c.placed.ensures
