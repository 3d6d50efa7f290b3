-- What the C function hands out (E12).
use Rattle.std.specs.Prelude.{◌≡◌, List, [], ◌∷◌, ℕ}
use Rattle.spec_model.specs.Basics.{Res, ok, try}
use Rattle.spec_doors.specs.Held.{Counts}
use Rattle.text_write.specs.Written.{number_of, value_of}

-- the three words of the counts, in order
abbrev pub words_of : Counts → List ℕ
words_of c = c.pairs ∷ c.marks ∷ c.arrivals ∷ []

-- the number that it returns, and the words that it stores: `old` where it refuses
pub record HeldIs (r : Res Counts) (n : ℕ) (old new : List ℕ) : Type 0 where
  pub number : n ≡ number_of r
  pub counts : new ≡ value_of old (try r λ c. ok (words_of c))
