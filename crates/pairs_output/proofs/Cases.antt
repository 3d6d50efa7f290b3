-- Concrete inputs: Case P's pairs, and refused sheets with their numbers and offsets.
use mathlib.Core.Path.{◌≡◌, refl}
use mathlib.Core.List.{[], ◌++◌}
use Rattle.spec_sheet.specs.Lines.{bytes}
use Rattle.spec_sheet.proofs.Cases.{sheet_p}
use Rattle.pairs_output.specs.Output.{pairs_output}

pub case-p : pairs_output sheet_p ≡ bytes "0 0 1 1 1 1\n0 1 0 0 0 0\n0 2 0 0 0 0\n0 3 0 0 0 0\n0 4 0 0 0 0\n0 5 0 0 0 0\n"
    ++ bytes "1 0 0 0 0 0\n1 1 1 1 1 1\n1 2 0 0 0 1\n1 3 0 0 0 1\n1 4 1 1 1 1\n1 5 0 0 0 1\n"
    ++ bytes "2 0 0 0 0 0\n2 1 1 1 1 1\n2 2 1 1 1 1\n2 3 1 1 1 1\n2 4 1 1 1 1\n2 5 0 0 0 1\n"
    ++ bytes "3 0 0 0 0 0\n3 1 1 1 1 1\n3 2 0 1 1 1\n3 3 1 1 1 1\n3 4 1 1 1 1\n3 5 0 0 0 1\n"
    ++ bytes "4 0 0 0 0 0\n4 1 0 1 1 1\n4 2 0 0 0 1\n4 3 0 0 0 1\n4 4 1 1 1 1\n4 5 0 0 0 1\n"
    ++ bytes "5 0 0 0 0 0\n5 1 1 1 1 1\n5 2 0 0 0 1\n5 3 0 0 1 1\n5 4 1 1 1 1\n5 5 1 1 1 1\n"
unfolding pairs_output sheet_p
case-p = refl

pub case-empty : pairs_output [] ≡ bytes "no=1 at=0\n"
unfolding pairs_output
case-empty = refl

pub case-range : pairs_output (bytes "guide=1\nsubjects=17\n") ≡ bytes "no=2 at=8\n"
unfolding pairs_output
case-range = refl
