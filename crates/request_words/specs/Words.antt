-- A list of words as requests (U2 to U7), and outcomes as words (U8). All of this is believed; what only helps proofs is in Found.
use Rattle.std.specs.Prelude.{cond, List, [], ◌∷◌, ◌++◌, ℕ, zero, suc, ℤ, pos, length, take, drop}
use Rattle.std.proofs.Math.Option.{Option, none}
use Rattle.spec_model.specs.Basics.{names, named}
use Rattle.spec_model.specs.Requests.{Request, pair, number, nothing, Outcome, got, refused}
use Rattle.spec_model.specs.Coded.{by_code}

abbrev pub request : ℤ → List ℤ → Option Request
request code ws = cond (names code 4) (by_code (named code) ws) none

-- The first f requests of a list of words: each is a code, a number n, and n operands. Where there are not so many, what is left is one request that is none.
unfoldable pub requests : ℕ → List ℤ → List (Option Request)
requests zero ws = []
requests (suc f) [] = []
requests (suc f) (code ∷ []) = none ∷ []
requests (suc f) (code ∷ n ∷ ws) = cond (names n (suc (length ws))) (request code (take (named n) ws) ∷ requests f (drop (named n) ws)) (none ∷ [])

-- the words of one outcome
abbrev pub outcome_size : ℕ
outcome_size = 4

-- Four words for each request: the refusal or 0, how many values there are, and the values (U8).
abbrev pub words_of : Outcome → List ℤ
words_of (refused e) = pos e ∷ pos 0 ∷ pos 0 ∷ pos 0 ∷ []
words_of (got (pair a b)) = pos 0 ∷ pos 2 ∷ pos a ∷ pos b ∷ []
words_of (got (number v)) = pos 0 ∷ pos 1 ∷ v ∷ pos 0 ∷ []
words_of (got nothing) = pos 0 ∷ pos 0 ∷ pos 0 ∷ pos 0 ∷ []

unfoldable pub outcome_words : List Outcome → List ℤ
outcome_words [] = []
outcome_words (o ∷ os) = words_of o ++ outcome_words os
