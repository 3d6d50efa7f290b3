-- What a refused request gives back.
use Rattle.std.specs.Prelude.{Bool, true, false, cond, List, ℕ, Result, Ok, Err}
use Rattle.request_common.specs.declared.Answer.{Answer}

-- whatever a refusal is told by
abbrev pub is_accepted : {E : Type 0} → Result Answer E → Bool
is_accepted (Ok a) = true
is_accepted (Err e) = false

-- the bytes of the types that a request leaves, where a refused one gives back the old
abbrev pub given_back : {E : Type 0} → List ℕ → List ℕ → Result Answer E → List ℕ
given_back old new r = cond (is_accepted r) new old
