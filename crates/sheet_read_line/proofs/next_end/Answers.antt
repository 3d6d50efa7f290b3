-- The same for the last line (`end_empty`).
use Rattle.spec_sheet.specs.Sheet.{end_line}
use Rattle.text_read.proofs.Laws.{line_read}
use Rattle.sheet_read_line.proofs.Laws.{end_empty}
use Rattle.sheet_read_line.proofs.next_end.Goals as goal

pub returns : goal.returns
returns c =
    let a = c.args in
    line_read (λ u. u) end_line end_empty a.s.now a.c c.next_line-d.result c.next_line-d.ensures _ c.between.ensures c.read_end.result c.placed.result
    c.read_end.ensures c.placed.ensures
