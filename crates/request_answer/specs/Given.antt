-- What is given as an answer.
use Rattle.std.specs.Prelude.{◌≡◌, List, ℕ, ℤ, Option, Some, None}

-- where nothing is given every byte of the types stays, whatever comes of it
abbrev pub Keeps : Option ℤ → List ℕ → List ℕ → Type 0
Keeps (Some v) old new = Unit {0}
Keeps None old new = new ≡ old
