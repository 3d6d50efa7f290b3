-- The text is counted first, on an empty part: where the buffer is short it stays as it was (`short-is`), else the text stands in it (`length-is`).
use mathlib.Core.Path.{◌∙◌}
use Rattle.spec_model.specs.Check.{table_of}
use Rattle.spec_sheet.specs.Text.{text}
use Rattle.text_write.proofs.Written.{short-is, length-is}
use Rattle.sheet_write.proofs.Results.{fit_is}
use Rattle.table_check.proofs.Accepted.{accepted-limits}
use Rattle.table_record.specs.Store.{raw_table}
use Rattle.sheet_write.proofs.write_checked.Goals as goal

pub put_sheet-need-requires : goal.put_sheet-need-requires
put_sheet-need-requires c = accepted-limits c.args.b.now c.args.l.now c.args.c c.requires

pub returns-then-buf-need : goal.returns-then-buf-need
returns-then-buf-need c =
    let a' = c.args in
    let pre = c.requires in
    let put-sheet = c.put_sheet-need in
    let a = a' in let r = raw_table a.b.now a.l.now a.c in
    short-is (text (table_of r)) a.buf.now put-sheet.ensures c.if-buf-need.true ∙ fit_is r a.buf.now pre

pub put_sheet-requires : goal.put_sheet-requires
put_sheet-requires c =
    let a = c.args in
    let pre = c.requires in
    accepted-limits a.b.now a.l.now a.c (pre)

pub returns : goal.returns
returns c =
    let a' = c.args in
    let pre = c.requires in
    let put-sheet = c.put_sheet-need in
    let if1 = c.if-buf-need in
    let put-sheet2 = c.put_sheet in
    let a = a' in let r = raw_table a.b.now a.l.now a.c in
    length-is (text (table_of r)) a.buf.now put-sheet.ensures if1.false put-sheet2.ensures ∙ fit_is r a.buf.now pre
