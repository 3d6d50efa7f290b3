-- What restriction makes of two states (D2, D4, D8), written out and computed from the definitions.
use mathlib.Core.Path.{◌≡◌, refl}
use mathlib.Core.List.{List, [], ◌∷◌, map}
use Rattle.spec_model.specs.Table.{State, denied, optional, avail, unavail, Kind, sub, sup, closed}
use Rattle.spec_model.specs.Restriction.{restricted}

-- ---- a method's state on the left, in the order denied, optional, avail, unavail, against each on the right in that order
abbrev states : List State
states = denied ∷ optional ∷ avail ∷ unavail ∷ []

abbrev restricted_by : Kind → List (List State)
restricted_by d = map (λ a. map (restricted d a) states) states

-- Sub: the left's, unless the right permits less (D2)
pub sub-states : restricted_by sub ≡
    (denied ∷ denied ∷ denied ∷ denied ∷ [])
    ∷ (unavail ∷ optional ∷ optional ∷ unavail ∷ [])
    ∷ (unavail ∷ avail ∷ avail ∷ unavail ∷ [])
    ∷ (unavail ∷ unavail ∷ unavail ∷ unavail ∷ [])
    ∷ []
sub-states = refl

-- Sup: the right's, unless the left permits less (D4)
pub sup-states : restricted_by sup ≡
    (denied ∷ denied ∷ denied ∷ unavail ∷ [])
    ∷ (denied ∷ optional ∷ avail ∷ unavail ∷ [])
    ∷ (denied ∷ optional ∷ avail ∷ unavail ∷ [])
    ∷ (denied ∷ denied ∷ denied ∷ unavail ∷ [])
    ∷ []
sup-states = refl

-- Closed: avail where the left permits and the right has it avail, else unavail (D8)
pub closed-states : restricted_by closed ≡
    (unavail ∷ unavail ∷ unavail ∷ unavail ∷ [])
    ∷ (unavail ∷ unavail ∷ avail ∷ unavail ∷ [])
    ∷ (unavail ∷ unavail ∷ avail ∷ unavail ∷ [])
    ∷ (unavail ∷ unavail ∷ unavail ∷ unavail ∷ [])
    ∷ []
closed-states = refl
