-- The words of a run have the transcript of its outcomes: the first of four is 0 exactly where the request was accepted.
use mathlib.Core.Path.{◌≡◌, refl, ap, sym, subst, ◌∙◌}
use mathlib.Core.Bool.{Bool, true, false, cond}
use mathlib.Core.List.{List, [], ◌∷◌, ◌++◌}
use mathlib.Core.Option.{Option, none, some}
use Prim.Native.Nat.{ℕ, zero, suc, ◌+◌, ◌*◌, ◌≤◌, ◌<◌}
use native.Mathlib.Omega.{arith}
use lib.Dec.{eqb}
use lib.IntN.{ℤ, pos}
use lib.ListN.{length, get_or, take, drop, length-append}
use lib.Seq.{sets, sets-eq}
use Rattle.spec_model.specs.Basics.{Res, refuse, ok, names, named}
use Rattle.spec_model.specs.Requests.{System, Request, Result, pair, number, nothing, Outcome, got, refused, outcome, serve, after, run}
use Rattle.spec_model.specs.Callers.{Transcript, taken}
use Rattle.spec_model.proofs.Tests.{eqb-so}
use Rattle.law_handed.proofs.Small.{Small, Named, small-serve}
use Rattle.request_results.specs.States.{outcome_number}
use Rattle.request_words.specs.Words.{request, requests, outcome_size, words_of, outcome_words}
use Rattle.request_run.specs.Requested.{asked, placed, run_asked}
use Rattle.request_run.specs.Ran.{room}
use Rattle.theorem.specs.Shown.{seen_of}
use Rattle.theorem.specs.OfStates.{is_zero, seen_by, first_word}

-- the number of a refusal is not 0
pub not-zero : (n : ℕ) → 0 < n → eqb n 0 ≡ false
not-zero n h = go (eqb n 0) refl
  where
    go : (c : Bool) → eqb n 0 ≡ c → eqb n 0 ≡ false
    go false e = e
    go true e = let z : n ≡ 0 = eqb-so e in absurd (omega arith)

-- ---- the words of one answer
module _ (ws rest : List ℤ) where
  behind : (o : Outcome) → drop outcome_size ((words_of o ++ ws) ++ rest) ≡ ws ++ rest
  behind (refused e) = refl
  behind (got (pair a b)) = refl
  behind (got (number v)) = refl
  behind (got nothing) = refl

  first-got : (x : Result) → is_zero (get_or ((words_of (got x) ++ ws) ++ rest) 0 (pos 1)) ≡ true
  first-got (pair a b) = refl
  first-got (number v) = refl
  first-got nothing = refl

  first-word : (s : System) (m : Res (System × Result)) → Small (λ (x : System × Result). Named s x.0 x.1) m
      → is_zero (get_or ((words_of (outcome m) ++ ws) ++ rest) 0 (pos 1)) ≡ taken (outcome m)
  first-word s (refuse e) h = not-zero e h.0
  first-word s (ok x) h = first-got x.1

seen-words : (qs : List (Option Request)) (s : System) (rest : List ℤ) → let os = placed qs (run s (asked qs)).0 in seen_by qs (outcome_words os ++ rest) ≡ seen_of qs os
unfolding run outcome_words
seen-words [] s rest = refl
seen-words (none ∷ qs) s rest = seen-words qs s rest
seen-words (some q ∷ qs) s rest =
    let a = serve s q in
    let os = placed qs (run (after s a) (asked qs)).0 in
    let ws = outcome_words os in
    ap (λ c. (q, c) ∷ seen_by qs (drop outcome_size ((words_of (outcome a) ++ ws) ++ rest))) (first-word ws rest s a (small-serve s q))
    ∙ ap (λ z. (q, taken (outcome a)) ∷ seen_by qs z) (behind ws rest (outcome a)) ∙ ap (λ (l : Transcript). (q, taken (outcome a)) ∷ l) (seen-words qs (after s a) rest)

-- ---- a call in the middle: its first word is the number of its outcome, and the words before it have the transcript of the outcomes before it
number_word : (o : Outcome) (ws rest : List ℤ) → get_or ((words_of o ++ ws) ++ rest) 0 (pos 1) ≡ pos (outcome_number o)
number_word (refused e) ws rest = refl
number_word (got (pair a b)) ws rest = refl
number_word (got (number v)) ws rest = refl
number_word (got nothing) ws rest = refl

module _ (after' : List (Option Request)) (q : Request) where
  word_at : (before : List (Option Request)) (s : System) (rest : List ℤ) → let qs = before ++ (some q ∷ after') in
      first_word (length before) (outcome_words (placed qs (run s (asked qs)).0) ++ rest) ≡ pos (outcome_number (outcome (serve (run s (asked before)).1 q)))
  unfolding run outcome_words
  word_at [] s rest = number_word (outcome (serve s q)) _ rest
  word_at (none ∷ before) s rest = word_at before s rest
  word_at (some p ∷ before) s rest = let a = serve s p in let qs = before ++ (some q ∷ after') in let ws = outcome_words (placed qs (run (after s a) (asked qs)).0) in
      ap (first_word (length before)) (behind ws rest (outcome a)) ∙ word_at before (after s a) rest

  words-before : (before : List (Option Request)) (s : System) (rest : List ℤ) → let qs = before ++ (some q ∷ after') in let os = placed qs (run s (asked qs)).0 in
      seen_by before (outcome_words os ++ rest) ≡ seen_of before os
  unfolding run outcome_words
  words-before [] s rest = refl
  words-before (none ∷ before) s rest = words-before before s rest
  words-before (some p ∷ before) s rest =
      let a = serve s p in
      let qs = before ++ (some q ∷ after') in
      let ws = outcome_words (placed qs (run (after s a) (asked qs)).0) in
      ap (λ c. (p, c) ∷ seen_by before (drop outcome_size ((words_of (outcome a) ++ ws) ++ rest))) (first-word ws rest s a (small-serve s p))
      ∙ ap (λ z. (p, taken (outcome a)) ∷ seen_by before z) (behind ws rest (outcome a)) ∙ ap (λ (l : Transcript). (p, taken (outcome a)) ∷ l) (words-before before (after s a) rest)

-- ---- all of them: there is room
pub outcomes-length : (qs : List (Option Request)) (s : System) → length (placed qs (run s (asked qs)).0) ≡ length qs
unfolding run
outcomes-length [] s = refl
outcomes-length (none ∷ qs) s = ap suc (outcomes-length qs s)
outcomes-length (some q ∷ qs) s = ap suc (outcomes-length qs (after s (serve s q)))

words-length : (o : Outcome) → length (words_of o) ≡ outcome_size
words-length (refused e) = refl
words-length (got (pair a b)) = refl
words-length (got (number v)) = refl
words-length (got nothing) = refl

answers-length : (os : List Outcome) → length (outcome_words os) ≡ length os * outcome_size
unfolding outcome_words
answers-length [] = refl
answers-length (o ∷ os) = omega (arith, length-append (words_of o) (outcome_words os), words-length o, answers-length os)

requests-few : (f : ℕ) (ws : List ℤ) → length (requests f ws) ≤ f
unfolding requests
requests-few zero ws = omega arith
requests-few (suc f) [] = omega arith
requests-few (suc f) (code ∷ []) = omega arith
requests-few (suc f) (code ∷ n ∷ ws) = go (names n (suc (length ws))) (requests-few f (drop (named n) ws))
  where
    go : (c : Bool) → length (requests f (drop (named n) ws)) ≤ f → length (cond c (request code (take (named n) ws) ∷ requests f (drop (named n) ws)) (none ∷ [])) ≤ suc f
    go true l = omega arith
    go false l = omega arith

room_for : (words old : List ℤ) (s : System) → let os = (run_asked s (requests (room old) words)).0 in
    sets old 0 (outcome_words os) ≡ outcome_words os ++ drop (0 + length (outcome_words os)) old
room_for words old s =
    let qs = requests (room old) words in
    let os = (run_asked s qs).0 in
    let n : length (outcome_words os) ≤ length old = omega (arith, answers-length os, outcomes-length qs s, requests-few (room old) words) in
    sets-eq (outcome_words os) old 0 (omega arith)

pub words-seen : (words old : List ℤ) (s : System) → let qs = requests (room old) words in let os = (run_asked s qs).0 in seen_by qs (sets old 0 (outcome_words os)) ≡ seen_of qs os
words-seen words old s =
    let qs = requests (room old) words in
    let os = (run_asked s qs).0 in
    ap (seen_by qs) (room_for words old s) ∙ seen-words qs s (drop (0 + length (outcome_words os)) old)

-- the same of a call in the middle of a run that stored the words `new`
pub record CallWords (s : System) (new : List ℤ) (before : List (Option Request)) (q : Request) (os : List Outcome) : Type 0 where
  pub number : first_word (length before) new ≡ pos (outcome_number (outcome (serve (run s (asked before)).1 q)))
  pub seen : seen_by before new ≡ seen_of before os

pub call-words : (words old new : List ℤ) (s : System) (before behind : List (Option Request)) (q : Request) → requests (room old) words ≡ before ++ (some q ∷ behind)
    → let os = (run_asked s (requests (room old) words)).0 in new ≡ sets old 0 (outcome_words os) → CallWords s new before q os
call-words words old new s before behind q e w = subst (λ qs. new ≡ outcome_words (run_asked s qs).0 ++ drop (0 + length (outcome_words (run_asked s qs).0)) old → CallWords s new before q (run_asked s qs).0)
    (sym e)
    (λ z. record { number = ap (first_word (length before)) z ∙ word_at behind q before s _; seen = ap (seen_by before) z ∙ words-before behind q before s _ })
    (w ∙ room_for words old s)
