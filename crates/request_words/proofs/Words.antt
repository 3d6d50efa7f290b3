-- Words: the request that begins at one, and answers as words.
use mathlib.Core.Path.{◌≡◌, refl, sym, ap, ◌∙◌}
use mathlib.Core.Bool.{Bool, true, false, cond}
use mathlib.Core.List.{List, [], ◌∷◌, ◌++◌}
use mathlib.Core.Option.{Option, none}
use Prim.Native.Nat.{ℕ, zero, suc, ◌+◌, ◌-◌, ◌≤◌, ◌<◌}
use native.Mathlib.Omega.{arith}
use lib.Dec.{ltb}
use lib.IntN.{ℤ, pos, negsuc}
use lib.ListN.{length, get_or, take, drop, drop_of_length-le, length-drop}
use lib.Seq.{drop-cons, sets, get_or-drop, drop-drop}
use borrow.Author.Tests.{lt-ltb, le-ltb}
use Rattle.spec_model.specs.Basics.{names, named}
use Rattle.spec_model.specs.Requests.{Request, pair, number, nothing, Outcome as Outcomeᵐ, got, refused}
use Rattle.base_numbers.specs.Index.{index_of}
use Rattle.request_words.specs.Words.{request, requests, outcome_size, words_of}
use Rattle.request_words.specs.Found.{left_at, count_at, asked_at, next_at}

-- ---- The request in front of a list.
abbrev front_count : List ℤ → ℕ
front_count rest = index_of (get_or rest 0 (pos 0)) (length rest)

abbrev front_of : ℕ → ℤ → List ℤ → ℕ → Bool → List (Option Request)
front_of f code rest k q = cond q (request code (take k (drop 1 rest)) ∷ requests f (drop (suc k) rest)) (none ∷ [])

front : (f : ℕ) (code : ℤ) (rest : List ℤ) → requests (suc f) (code ∷ rest) ≡ front_of f code rest (front_count rest) (ltb (front_count rest) (length rest))
unfolding requests
front f code [] = refl
front f code (n ∷ ws) = go n
  where
    go : (n : ℤ) → cond (names n (suc (length ws))) (request code (take (named n) ws) ∷ requests f (drop (named n) ws)) (none ∷ [])
        ≡ front_of f code (n ∷ ws) (index_of n (suc (length ws))) (ltb (index_of n (suc (length ws))) (suc (length ws)))
    go (negsuc k) = rw (le-ltb (suc (length ws)) (suc (length ws)) (omega arith))
    go (pos k) = step (ltb k (suc (length ws))) refl
      where
        step : (q : Bool) → ltb k (suc (length ws)) ≡ q → cond q (request code (take k ws) ∷ requests f (drop k ws)) (none ∷ [])
            ≡ front_of f code (pos k ∷ ws) (cond q k (suc (length ws))) (ltb (cond q k (suc (length ws))) (suc (length ws)))
        step true e = rw e
        step false e = rw (le-ltb (suc (length ws)) (suc (length ws)) (omega arith))

nothing_left : (ws : List ℤ) (f : ℕ) → requests f (drop (length ws) ws) ≡ []
unfolding requests
nothing_left ws zero = refl
nothing_left ws (suc f) = ap (requests (suc f)) (drop_of_length-le ws {i = length ws} (omega arith))

-- ---- The request that begins at a word.
module _ (ws : List ℤ) (at : ℕ) (h : at < length ws) where
  rest-length : length (drop (suc at) ws) ≡ left_at ws at
  rest-length = let e : length ws - suc at ≡ length ws - at - 1 = omega arith in length-drop (suc at) ws ∙ e

  count-is : front_count (drop (suc at) ws) ≡ count_at ws at
  count-is =
      let e : suc at + 0 ≡ at + 1 = omega arith in
      ap (λ (z : ℤ). index_of z (length (drop (suc at) ws))) (get_or-drop (suc at) ws 0 (pos 0) ∙ ap (λ (n : ℕ). get_or ws n (pos 0)) e) ∙ ap (index_of (get_or ws (at + 1) (pos 0))) rest-length

  pub request-at : (f : ℕ) → requests (suc f) (drop at ws) ≡ asked_at ws at ∷ requests f (drop (next_at ws at) ws)
  request-at f =
      let rest : List ℤ = drop (suc at) ws in
      let code : ℤ = get_or ws at (pos 0) in
      ap (requests (suc f)) (drop-cons ws at (pos 0) h) ∙ front f code rest
      ∙ ap (λ (k : ℕ). front_of f code rest k (ltb k (length rest))) count-is ∙ ap (λ (n : ℕ). front_of f code rest (count_at ws at) (ltb (count_at ws at) n)) rest-length
      ∙ go (ltb (count_at ws at) (left_at ws at)) refl
    where
      go : (q : Bool) → ltb (count_at ws at) (left_at ws at) ≡ q → front_of f (get_or ws at (pos 0)) (drop (suc at) ws) (count_at ws at) q
          ≡ cond q (request (get_or ws at (pos 0)) (take (count_at ws at) (drop (at + 2) ws))) none ∷ requests f (drop (cond q (at + 2 + count_at ws at) (length ws)) ws)
      go true e =
          let n : ℕ = count_at ws at in
          let d : suc at + 1 ≡ at + 2 = omega arith in
          let g : suc at + suc n ≡ at + 2 + n = omega arith in
          let a : drop 1 (drop (suc at) ws) ≡ drop (at + 2) ws = drop-drop 1 (suc at) ws ∙ ap (λ (k : ℕ). drop k ws) d in
          let b : drop (suc n) (drop (suc at) ws) ≡ drop (at + 2 + n) ws = drop-drop (suc n) (suc at) ws ∙ ap (λ (k : ℕ). drop k ws) g in
          rw (a, b)
      go false e = ap (λ (xs : List (Option Request)). none ∷ xs) (sym (nothing_left ws f))

  pub asked-none : left_at ws at ≤ count_at ws at → asked_at ws at ≡ none
  asked-none l = rw (le-ltb (count_at ws at) (left_at ws at) l)

  pub asked_is : count_at ws at < left_at ws at → (code : ℤ) → code ≡ get_or ws at (pos 0) → (ops : List ℤ) → ops ≡ take (count_at ws at) (drop (at + 2) ws)
      → request code ops ≡ asked_at ws at
  asked_is l code d ops e = ap (λ (z : ℤ). request z ops) d ∙ ap (request (get_or ws at (pos 0))) e ∙ sym (rw (lt-ltb (count_at ws at) (left_at ws at) l))

-- ---- Outcomes.
-- the words of an outcome, and then those of the outcomes behind it
pub words-next : (o : Outcomeᵐ) (l : List ℤ) (i : ℕ) (vs : List ℤ) → sets (sets l i (words_of o)) (i + outcome_size) vs ≡ sets l i (words_of o ++ vs)
words-next o l i vs = go o
  where
    by : (a b c d : ℤ) → sets (sets l i (a ∷ b ∷ c ∷ d ∷ [])) (i + outcome_size) vs ≡ sets l i (a ∷ b ∷ c ∷ d ∷ vs)
    by a b c d = let e : i + outcome_size ≡ suc (suc (suc (suc i))) = omega arith in ap (λ (k : ℕ). sets (sets l i (a ∷ b ∷ c ∷ d ∷ [])) k vs) e

    go : (o : Outcomeᵐ) → sets (sets l i (words_of o)) (i + outcome_size) vs ≡ sets l i (words_of o ++ vs)
    go (refused e) = by (pos e) (pos 0) (pos 0) (pos 0)
    go (got (pair a b)) = by (pos 0) (pos 2) (pos a) (pos b)
    go (got (number v)) = by (pos 0) (pos 1) v (pos 0)
    go (got nothing) = by (pos 0) (pos 0) (pos 0) (pos 0)
