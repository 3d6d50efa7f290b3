-- The same for an `under=` line (`under-empty`); what is so of its record is so of it with the cursor (`if_placed`).
use Rattle.spec_sheet.specs.Sheet.{under_line}
use Rattle.text_read.proofs.Laws.{line_read}
use Rattle.sheet_read_line.proofs.Laws.{under-empty}
use Rattle.sheet_read_line.specs.View.{broader_in}
use Rattle.sheet_read_line.proofs.next_under.Goals as goal

pub returns-clause-is : goal.returns-clause-is
returns-clause-is c =
    let a = c.args in
    line_read broader_in (under_line a.cats a.k) (under-empty a.cats a.k) a.s.now a.c c.next_line-d.result c.next_line-d.ensures _ c.between.ensures
    c.read_under.result c.placed.result c.read_under.ensures.is c.placed.ensures
