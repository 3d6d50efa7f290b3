-- What a square of yes and no says of the states of two methods.
use Rattle.std.specs.Prelude.{◌≡◌, Bool, false, List, [], ℕ, ◌<◌, get_or}
use Rattle.spec_model.specs.Relations.{Relation, state_rule}
use Rattle.spec_model.specs.Check.{state_of}

-- A four by four square of yes and no says the state rule of k: the row is T's state, the column S's.
unfoldable pub Says : Relation → List (List Bool) → Type 0
Says k square = (a b : ℕ) → a < 4 → b < 4 → get_or (get_or square a []) b false ≡ state_rule k (state_of a) (state_of b)
