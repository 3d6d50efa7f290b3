-- Concrete inputs: Case P's six requests; a malformed line, behind which nothing is read; and a refused sheet.
use mathlib.Core.Path.{◌≡◌, refl}
use mathlib.Core.List.{[], ◌++◌}
use Rattle.spec_sheet.specs.Lines.{bytes}
use Rattle.spec_sheet.proofs.Cases.{sheet_p}
use Rattle.script_output.specs.Output.{script_output}

pub case-p : script_output (sheet_p ++ bytes "do=new 0 1 4\ndo=move 0 0 1 2\ndo=move 1 1 2 3\ndo=move 1 1 2 5\ndo=move 2 2 1 4\ndo=move 2 2 0 4\n")
    ≡ bytes "got=0 0\ngot=1 0\ngot=2 1\nno=8\nno=9\ngot=3 0\n"
unfolding script_output sheet_p
case-p = refl

pub case-malformed : script_output (sheet_p ++ bytes "do=new 0 1 4\ndo=move 0 0 1 02\ndo=move 0 0 1 2\n") ≡ bytes "got=0 0\nno=1\n"
unfolding script_output sheet_p
case-malformed = refl

-- the sheet alone prints nothing; no sheet at all is a fault of form
pub case-sheet : script_output sheet_p ≡ []
unfolding script_output sheet_p
case-sheet = refl

pub case-empty : script_output [] ≡ bytes "no=1\n"
unfolding script_output
case-empty = refl
