-- The cursor goes past a `rep=` line as the definition does: the one law of a line (`line_read`), since this kind too refuses an empty line (`rep-empty`).
use Rattle.spec_model.specs.Check.{rep_of}
use Rattle.spec_sheet.specs.Sheet.{rep_line}
use Rattle.text_read.proofs.Laws.{line_read}
use Rattle.sheet_read_line.proofs.Laws.{rep-empty}
use Rattle.sheet_read_line.proofs.next_rep.Goals as goal

pub returns-clause-is : goal.returns-clause-is
returns-clause-is c =
    let a = c.args in
    line_read rep_of rep_line rep-empty a.s.now a.c c.next_line-d.result c.next_line-d.ensures _ c.between.ensures c.read_rep.result c.placed.result
    c.read_rep.ensures.is c.placed.ensures
