-- Some of the sheets, line by line (P22 to P24): the ends of each range, and where the order could slip.
use mathlib.Core.Path.{◌≡◌, refl}
use mathlib.Core.List.{List, [], ◌∷◌, ◌++◌, map}
use Prim.Native.Nat.{ℕ}
use Prim.Native.String.{String}
use Rattle.spec_sheet.specs.Lines.{bytes, join}
use Rattle.spec_sheet.specs.Text.{text}
use Rattle.spec_tiny.specs.Numbered.{tiny_at}

-- a sheet by the lines in which they differ
pub sheet : String → String → List String → List ℕ
unfolding join
sheet methods own ms = join (bytes "guide=1" ∷ bytes "subjects=1" ∷ bytes methods ∷ bytes "cats=0" ∷ bytes "types=1" ∷ bytes "type=0" ∷ bytes "rep=ref" ∷ bytes "cat=0"
    ∷ bytes own ∷ (map bytes ms ++ bytes "end=sheet" ∷ []))

pub one : String → String → List ℕ
one own m = sheet "methods=1" own (m ∷ [])

pub two : String → String → String → List ℕ
two own m n = sheet "methods=2" own (m ∷ n ∷ [])

-- one method
pub cases-one : map (λ i. text (tiny_at i)) (0 ∷ 1 ∷ 2 ∷ 3 ∷ 4 ∷ 5 ∷ 6 ∷ 7 ∷ 8 ∷ 9 ∷ 10 ∷ 11 ∷ 12 ∷ 13 ∷ [])
    ≡ one "own=no" "m=denied"
    ∷ one "own=no" "m=unavail"
    ∷ one "own=no" "m=avail()-"
    ∷ one "own=no" "m=avail()0"
    ∷ one "own=no" "m=avail(0)-"
    ∷ one "own=no" "m=avail(0)0"
    ∷ one "own=no" "m=optional()-"
    ∷ one "own=no" "m=optional()0"
    ∷ one "own=no" "m=optional(0)-"
    ∷ one "own=no" "m=optional(0)0"
    ∷ one "own=yes" "m=denied"
    ∷ one "own=yes" "m=unavail"
    ∷ one "own=yes" "m=avail()-"
    ∷ one "own=yes" "m=optional()-"
    ∷ []
unfolding text tiny_at sheet one
cases-one = refl

-- two methods
pub cases-two : map (λ i. text (tiny_at i)) (14 ∷ 15 ∷ 23 ∷ 24 ∷ 113 ∷ 114 ∷ 117 ∷ 118 ∷ 129 ∷ [])
    ≡ two "own=no" "m=denied" "m=denied"
    ∷ two "own=no" "m=denied" "m=unavail"
    ∷ two "own=no" "m=denied" "m=optional(0)0"
    ∷ two "own=no" "m=unavail" "m=denied"
    ∷ two "own=no" "m=optional(0)0" "m=optional(0)0"
    ∷ two "own=yes" "m=denied" "m=denied"
    ∷ two "own=yes" "m=denied" "m=optional()-"
    ∷ two "own=yes" "m=unavail" "m=denied"
    ∷ two "own=yes" "m=optional()-" "m=optional()-"
    ∷ []
unfolding text tiny_at sheet two
cases-two = refl
