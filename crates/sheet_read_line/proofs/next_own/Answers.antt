-- The same for an `own=` line (`own-empty`).
use Rattle.spec_sheet.specs.Sheet.{own_line}
use Rattle.text_read.proofs.Laws.{line_read}
use Rattle.sheet_read_line.proofs.Laws.{own-empty}
use Rattle.sheet_read_line.proofs.next_own.Goals as goal

pub returns : goal.returns
returns c =
    let a = c.args in
    line_read (λ b. b) own_line own-empty a.s.now a.c c.next_line-d.result c.next_line-d.ensures _ c.between.ensures c.read_own.result c.placed.result
    c.read_own.ensures c.placed.ensures
