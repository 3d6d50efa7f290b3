-- What a search says beside what is found (relation_found/specs/Found): of every method of a pair, and of the array in which it begins.
use Rattle.std.specs.Prelude.{◌≡◌, Bool, true, ◌&&◌, List, ℕ, zero, suc, ◌*◌, ◌≤◌, length, replicate}
use Rattle.spec_model.specs.Table.{max_types}
use Rattle.relation_found.specs.Found.{max_pairs}

-- a test of every number below m
unfoldable pub each_below : ℕ → (ℕ → Bool) → Bool
each_below zero f = true
each_below (suc m) f = each_below m f && f m

-- an array that says nothing yet, with an entry for each pair of n types
pub record Clear (n : ℕ) (b : List ℕ) : Type 0 where
  pub none : b ≡ replicate (length b) 0
  pub long : n * max_types ≤ length b
  pub few : length b ≤ max_pairs
