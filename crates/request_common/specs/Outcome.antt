-- What a request came to, and what it leaves of a state, as contracts say it.
use Rattle.std.specs.Prelude.{List, ℕ, Result, Ok, Err}
use Rattle.spec_model.specs.Requests.{pair, number, nothing, Result as Resultᵐ, Outcome as Outcomeᵐ, got, refused}
use Rattle.base_numbers.specs.declared.refusal.Refusal.{Refusal}
use Rattle.base_numbers.specs.Refusal.{number_of}
use Rattle.state_record.specs.declared.State.{State as Rest}
use Rattle.state_record.specs.Whole.{Whole as State}
use Rattle.state_record.specs.Whole.{whole}
use Rattle.request_common.specs.declared.Answer.{Answer}
use Rattle.request_common.specs.declared.Answer.TheVariants.{Pair, Number, Nothing}

-- the values, for each case
abbrev pub result_of : Answer → Resultᵐ
result_of (Pair a b) = pair a b
result_of (Number v) = number v
result_of Nothing = nothing

-- what a request came to: its answer, or why it is refused
abbrev pub Outcome : Type 0
Outcome = Result Answer Refusal

-- the values, or the number of the refusal, which `numbered` says
abbrev pub outcome_numbered : {E : Type 0} → (E → ℕ) → Result Answer E → Outcomeᵐ
outcome_numbered numbered (Ok a) = got (result_of a)
outcome_numbered numbered (Err e) = refused (numbered e)

abbrev pub outcome_of : Outcome → Outcomeᵐ
outcome_of = outcome_numbered number_of

-- an outcome with the whole state that is left: the types as they are now, and the rest that was lent
pub record Done : Type 0 where
  pub outcome : Outcome
  pub state : State

abbrev pub done : List ℕ → Rest → Outcome → Done
done b s r = record { outcome = r; state = whole b s }

-- a refusal, with the whole state as it was handed in
abbrev pub refusal_of : State → Refusal → Done
refusal_of s e = record { outcome = Err e; state = s }
