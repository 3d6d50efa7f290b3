-- What a number or a word that is seen says of 18: of one request, and of a call in the middle of a run (L29, L31).
use mathlib.Core.Path.{◌≡◌, ap, sym, subst, ◌∙◌}
use mathlib.Core.Logic.{◌↔◌}
use mathlib.Core.Bool.{false}
use mathlib.Core.List.{List, ◌∷◌, ◌++◌}
use mathlib.Core.Option.{Option, some}
use Prim.Native.Nat.{ℕ}
use native.Mathlib.Omega.{arith}
use lib.IntN.{ℤ, pos}
use lib.ListN.{length, get_elem?}
use lib.Seq.{sets}
use Rattle.spec_model.specs.Basics.{named}
use Rattle.spec_model.specs.Requests.{Request, call, Outcome, got, refused, outcome, max_calls_each, serve, run}
use Rattle.spec_model.specs.Check.{RawSystem, system_of}
use Rattle.spec_model.specs.Callers.{Transcript, accepted_calls, refused_before}
use Rattle.spec_model.specs.Refusals.{calls_full}
use Rattle.request_results.specs.States.{outcome_number}
use Rattle.request_words.specs.Words.{requests, outcome_words}
use Rattle.request_run.specs.Requested.{asked, run_asked}
use Rattle.request_run.specs.Ran.{room}
use Rattle.theorem.specs.Shown.{seen_of, RunReturns, CallsOwn}
use Rattle.theorem.specs.OfStates.{seen_by, first_word}
use Rattle.theorem.proofs.Runs.{placed_at}
use Rattle.theorem.proofs.RunWords.{call-words}

-- the number of an outcome says all that 18 and the tests before it do
pub before-by : (o : Outcome) (n : ℕ) → n ≡ outcome_number o → refused_before (refused n) ≡ refused_before o
before-by (refused i) n p = ap (λ z. refused_before (refused z)) p
before-by (got v) n p = ap (λ z. refused_before (refused z)) p

pub number_by : (o : Outcome) (n : ℕ) → n ≡ outcome_number o → (n ≡ calls_full) ↔ (o ≡ refused calls_full)
number_by (refused i) n p = (λ z. ap refused (sym p ∙ z), λ z. p ∙ ap outcome_number z)
number_by (got v) n p = (λ z. absurd (omega (arith, p, z)), λ z. p ∙ ap outcome_number z)

word_number : {m n : ℕ} → pos m ≡ pos n → m ≡ n
word_number p = cc

module _ (r : RawSystem) (l : Transcript) (x : CallsOwn r l) (words old new : List ℤ)
    (stored : new ≡ sets old 0 (outcome_words (run_asked (system_of r) (requests (room old) words)).0)) (r' : RawSystem)
    (w : RunReturns r (requests (room old) words) (run_asked (system_of r) (requests (room old) words)).0 r') where
  pub ran-full : (before behind : List (Option Request)) (subject k m : ℤ) (vs : List ℤ) → requests (room old) words ≡ before ++ (some (call subject k m vs) ∷ behind)
      → (n : ℕ) → first_word (length before) new ≡ pos n → refused_before (refused n) ≡ false → (n ≡ calls_full) ↔ (accepted_calls (named subject) (l ++ seen_by before new) ≡ max_calls_each)
  ran-full before behind subject k m vs e n z p =
      let q = call subject k m vs in
      let s = system_of r in
      let c = call-words words old new s before behind q e stored in
      let o = outcome (serve (run s (asked before)).1 q) in
      let i : n ≡ outcome_number o = word_number (sym z ∙ c.number) in
      let os = (run_asked s (requests (room old) words)).0 in
      let at : get_elem? os (length before) ≡ some o = ap (λ qs. get_elem? (run_asked s qs).0 (length before)) e ∙ placed_at before behind q s in
      let y = x.in_runs before behind subject k m vs os r' (subst (λ qs. RunReturns r qs os r') e w) o at (sym (before-by o n i) ∙ p) in
      let v = number_by o n i in
      let g : l ++ seen_by before new ≡ l ++ seen_of before os = ap (λ b. l ++ b) c.seen in
      (λ u. ap (accepted_calls (named subject)) g ∙ y.0 (v.0 u), λ u. v.1 (y.1 (ap (accepted_calls (named subject)) (sym g) ∙ u)))
