-- The lines of a type: the first three, and those of its members in the rest of the buffer where it is a reference type (`lines_rest`).
use Rattle.sheet_write_table.proofs.Laws.{ref-type, number-type}
use Rattle.text_write.proofs.Laws.{lines_rest, lines_are}
use Rattle.sheet_write_table.proofs.write_type.Goals as goal

pub returns-then-h-ne-REF-clause-is : goal.returns-then-h-ne-REF-clause-is
returns-then-h-ne-REF-clause-is c =
    let a = c.args in
    lines_are (number-type a.b.now a.c a.i c.get_head-h.result c.get_head-h.ensures c.if-h-ne-REF.true) c.write_head-a.ensures.is

pub returns-clause-is : goal.returns-clause-is
returns-clause-is c =
    let a = c.args in
    let all = lines_rest c.write_head-a.ensures.is c.min-k.ensures c.write_members.ensures.is in
    lines_are (ref-type a.b.now a.c a.i c.get_head-h.result c.get_head-h.ensures c.if-h-ne-REF.false) all
