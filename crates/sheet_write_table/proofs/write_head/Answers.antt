-- Number, representation and category of a type, written one behind the other in the rest of the buffer (`lines_rest`).
use Rattle.text_write.proofs.Laws.{lines_rest, lines_are}
use Rattle.spec_sheet.specs.Text.{number_text, rep_text}
use Rattle.spec_sheet.specs.Lines.{bytes}
use Rattle.spec_model.specs.Check.{rep_of}
use mathlib.Core.List.{[], ◌∷◌}
use mathlib.Core.Path.{ap}
use Rattle.sheet_write_table.proofs.write_head.Goals as goal

pub returns-clause-is : goal.returns-clause-is
returns-clause-is c =
    let a = c.args in
    let two = lines_rest c.write_number-a.ensures.is c.min-j.ensures c.write_rep.ensures.is in
    lines_are (ap (λ z. number_text (bytes "type=") a.i ∷ rep_text (rep_of a.h.rep) ∷ number_text (bytes "cat=") z ∷ []) c.from.ensures) (lines_rest two c.min-k.ensures c.write_number.ensures.is)
