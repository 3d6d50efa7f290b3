-- What a writer does to the part of the buffer that it is lent (W4, F2).
use Rattle.std.specs.Prelude.{ℕ, ◌≤◌, ◌≡◌, List, ◌++◌, length, drop}
use Rattle.spec_sheet.specs.Lines.{join}

-- The text xs was due: the result is its length, and where there is room for it, it stands in front and the rest stays.
pub record Filled (old new xs : List ℕ) (r : ℕ) : Type 0 where
  pub said : r ≡ length xs
  pub size : length new ≡ length old
  pub text : length xs ≤ length old → new ≡ xs ++ drop (length xs) old

-- Lines were due, each with its LF.
pub record Lined (old new : List ℕ) (lines : List (List ℕ)) (r : ℕ) : Type 0 where
  pub filled : Filled old new (join lines) r
