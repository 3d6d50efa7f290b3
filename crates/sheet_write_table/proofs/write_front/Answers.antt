-- The counts, the categories and the number of types, written one behind the other in the rest of the buffer (`lines_rest`).
use Rattle.text_write.proofs.Laws.{lines_rest, lines_are}
use Rattle.sheet_write_table.specs.Parts.{under_lines, count_lines, front_lines}
use Rattle.spec_sheet.specs.Text.{number_text}
use Rattle.spec_sheet.specs.Lines.{bytes}
use mathlib.Core.List.{[], ◌∷◌, append_assoc}
use Rattle.sheet_write_table.proofs.write_front.Goals as goal

pub returns-clause-is : goal.returns-clause-is
unfolding front_lines
returns-clause-is c =
    let a = c.args in
    let two = lines_rest c.write_counts-a.ensures.is c.min-j.ensures c.write_unders.ensures.is in
    lines_are (append_assoc (count_lines a.c) (under_lines a.l.now a.c.cats) (number_text (bytes "types=") a.c.sheet ∷ [])) (lines_rest two c.min-k.ensures c.write_number.ensures.is)
