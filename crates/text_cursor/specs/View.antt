-- How a line lies in a text, in the words of crate `spec_sheet`: the rows from a byte offset on (S20).
use Rattle.std.specs.Prelude.{◌≡◌, List, [], ◌∷◌, ℕ, ◌+◌, ◌-◌, ◌≤◌, ◌<◌, length, get_or, take, drop}
use Rattle.std.proofs.Math.Bool.{So}
use Rattle.spec_sheet.specs.Lines.{Row, row, cut, split, first_line}
use Rattle.spec_sheet.specs.Clean.{clean}

-- no LF stands in s from `at` to e
pub record Clear (s : List ℕ) (at e : ℕ) : Type 0 where
  pub after : at ≤ e
  pub clear : So (clean (take (e - at) (drop at s)))

-- e is where the LF stands that ends the line of s at `at`, or past the end.
pub record LineEnd (s : List ℕ) (at e : ℕ) : Type 0 where
  pub clear : Clear s at e
  pub found : e < length s → get_or s e 0 ≡ 10

-- l is the line of s that begins at `at`, without its LF; where it isn't empty the LF stands behind it.
pub record LineAt (s : List ℕ) (at : ℕ) (l : List ℕ) : Type 0 where
  pub is : l ≡ first_line (split (drop at s))
  pub ended : 0 < length l → at + length l < length s

-- Where the row behind the first one begins, when the first begins at `at`. A row that no LF ends isn't passed.
abbrev pub past : ℕ → List Row → ℕ
past at [] = at
past at (cut l ∷ rs) = at
past at (row l ∷ rs) = at + (length l + 1)
