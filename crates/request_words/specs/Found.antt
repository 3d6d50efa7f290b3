-- What the functions find and need on their way.
use Rattle.std.specs.Prelude.{Result, Ok, Err, cond, List, ℕ, ◌+◌, ◌-◌, ◌<◌, ltb, ℤ, pos, length, get_or, take, drop}
use Rattle.std.proofs.Math.Option.{Option, none}
use Rattle.spec_model.specs.Requests.{Request}
use Rattle.base_numbers.specs.Index.{index_of}
use Rattle.base_numbers.specs.declared.refusal.Refusal.{Refusal}
use Rattle.base_numbers.specs.Refusal.{number_of}
use Rattle.request_common.specs.declared.Answer.{Answer}
use Rattle.request_common.specs.declared.Answer.TheVariants.{Pair, Number, Nothing}
use Rattle.request_words.specs.Words.{request}

-- The numbers of an outcome, small enough to be words as they are, that of a refusal as `numbered` says it.
abbrev pub SmallNumbered : {E : Type 0} → (E → ℕ) → Result Answer E → Type 0
SmallNumbered numbered (Err e) = numbered e < 65536
SmallNumbered numbered (Ok (Pair a b)) = (a < 65536) × (b < 65536)
SmallNumbered numbered (Ok (Number v)) = Unit
SmallNumbered numbered (Ok Nothing) = Unit

-- those of a sound state are (crates/request_run/proofs/Small.antt)
abbrev pub SmallOutcome : Result Answer Refusal → Type 0
SmallOutcome = SmallNumbered number_of

-- The request that begins at a word, as the functions find it.
-- the words behind the code
abbrev pub left_at : List ℤ → ℕ → ℕ
left_at ws at = length ws - at - 1

-- how many operands it has: as many as the words behind its code where there are not so many
abbrev pub count_at : List ℤ → ℕ → ℕ
count_at ws at = index_of (get_or ws (at + 1) (pos 0)) (left_at ws at)

abbrev pub asked_at : List ℤ → ℕ → Option Request
asked_at ws at = cond (ltb (count_at ws at) (left_at ws at)) (request (get_or ws at (pos 0)) (take (count_at ws at) (drop (at + 2) ws))) none

-- where the next one begins
abbrev pub next_at : List ℤ → ℕ → ℕ
next_at ws at = cond (ltb (count_at ws at) (left_at ws at)) (at + 2 + count_at ws at) (length ws)
