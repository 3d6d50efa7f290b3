-- The lines in front and those behind, written in the rest (`lines_rest`), are the sheet's text (`sheet-is`).
use Rattle.sheet_write_table.proofs.Whole.{sheet-is}
use Rattle.text_write.proofs.Laws.{lines_rest}
use Rattle.sheet_write_table.proofs.put_sheet.Goals as goal

pub returns : goal.returns
returns c =
    let a = c.args in
    sheet-is a.b.now a.l.now a.c c.requires (lines_rest c.write_front-a.ensures.is c.min-k.ensures c.write_back.ensures.is)
