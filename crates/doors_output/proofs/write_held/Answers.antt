-- A refusal is the definition's line.
use Rattle.std.proofs.Common.{[], ◌∷◌, ap, sym, ◌∙◌}
use Rattle.spec_sheet.specs.Lines.{bytes}
use Rattle.spec_sheet.specs.Text.{number_text}
use Rattle.spec_doors.specs.Output.{held_text}
use Rattle.doors_hold.specs.Result.{held_of}
use Rattle.text_write.proofs.Laws.{lines_are}
use Rattle.doors_output.proofs.write_held.Goals as goal

pub returns-in-Err-clause-is : goal.returns-in-Err-clause-is
unfolding held_text
returns-in-Err-clause-is c =
    lines_are (ap (λ n. number_text (bytes "no=") n ∷ []) c.number.ensures ∙ ap (λ h. held_text (held_of h) ∷ []) (sym c.in-Err.is)) c.write_number.ensures.is
