-- The cursor goes past an `m=` line as the definition does: the one law of a line (`line_read`), since this kind too refuses an empty line (`method-empty`).
use Rattle.spec_sheet.specs.Sheet.{method_line}
use Rattle.text_read.proofs.Laws.{line_read}
use Rattle.sheet_read_method.specs.View.{method_is}
use Rattle.sheet_read_method.proofs.Laws.{method-empty}
use Rattle.sheet_read_method.proofs.next_method.Goals as goal

pub returns-clause-is : goal.returns-clause-is
returns-clause-is c =
    let a = c.args in
    line_read method_is (method_line a.n) (method-empty a.n) a.s.now a.c c.next_line-d.result c.next_line-d.ensures _ c.between.ensures
    c.read_method.result c.placed.result c.read_method.ensures.is c.placed.ensures
