-- The theorem of a caller in Rattle (specs/OfStates): each contract is a step of a history, or says what the book says.
use mathlib.Core.Path.{◌≡◌, refl, ap, sym, subst, ◌∙◌}
use mathlib.Core.Logic.{◌↔◌}
use mathlib.Core.Bool.{Bool, true, false, So}
use mathlib.Core.List.{List, ◌++◌}
use mathlib.Core.Option.{Option}
use Prim.Native.Nat.{ℕ}
use lib.IntN.{ℤ}
use lib.ListN.{length}
use lib.Seq.{sets}
use Rattle.spec_model.specs.Basics.{Res, refuse, ok, need, from}
use Rattle.spec_model.specs.Requests.{Request, made_by}
use Rattle.spec_model.specs.Check.{RawSystem, system_of, system_accepted}
use Rattle.spec_model.specs.Handed.{counted}
use Rattle.spec_model.specs.Book.{Book}
use Rattle.spec_model.specs.Callers.{Transcript, accepted_calls}
use Rattle.spec_model.proofs.Rules.{never}
use Rattle.spec_model.specs.Refusals.{out_of_range}
use Rattle.sheet_read.specs.declared.Sheet.{Sheet}
use Rattle.state_record.specs.Whole.{Whole as State}
use Rattle.state_record.specs.Whole.{whole}
use Rattle.state_record.specs.View.{raw_state, system_in, state_loaded}
use Rattle.request_common.specs.Served.{outcome_of}
use Rattle.request_words.specs.Words.{requests, outcome_words}
use Rattle.request_run.specs.Requested.{run_asked, run_handed}
use Rattle.request_run.specs.Ran.{Over as Ran}
use Rattle.request_run.specs.Ran.{room, RanAs, Runs}
use Rattle.std.specs.Prelude.{Result, Ok, Err}
use Rattle.base_numbers.specs.declared.refusal.Refusal.{Refusal}
use Rattle.state_offers.specs.Chained.{offers_named, offered_as}
use Rattle.theorem.specs.Shown.{Accepts, first, book_of, RunReturns, History, begins, asks, runs, alike, Holds, Permitted}
use Rattle.theorem.specs.OfStates.{seen_by, ShownOfStates}
use Rattle.theorem.proofs.Shown.{shown}
use Rattle.theorem.proofs.RunWords.{outcomes-length, words-seen}
use Rattle.theorem.proofs.Full.{ran-full}
use Rattle.theorem.proofs.Offers.{offers-is, offers-yes, offers-no}
use Rattle.theorem.proofs.Writes.{written_back}

-- no record of a loaded state is counted but the table's
loaded-counted : (f : Sheet) → counted (raw_state (whole f.types (state_loaded f.links f.counts))) ≡ counted (first f)
unfolding counted from
loaded-counted f = refl

-- ---- a run on a state that passes the check
module _ (s : State) (words old new : List ℤ) (y : Ran) (p : So (system_accepted (raw_state s))) (w : Runs s old new (run_handed (raw_state s) (room old) words) y) where
  abbrev qs : List (Option Request)
  qs = requests (room old) words

  ran : RanAs s old new (run_asked (system_in s) qs).0 (run_asked (system_in s) qs).1 y
  unfolding run_handed system_in
  ran = let m = run_asked (system_in s) qs in subst (λ (b : Bool). Runs s old new (need b out_of_range λ _. ok m) y) p w

  run-returns : RunReturns (raw_state s) qs (run_asked (system_in s) qs).0 (raw_state y.state)
  unfolding system_in
  run-returns = record { outcomes = refl; records = ran.records }

  -- the same by the state's meaning as it is handed in
  stored-words : new ≡ sets old 0 (outcome_words (run_asked (system_of (raw_state s)) qs).0)
  unfolding system_in
  stored-words = ran.answers

  run-returned : RunReturns (raw_state s) qs (run_asked (system_of (raw_state s)) qs).0 (raw_state y.state)
  unfolding system_in
  run-returned = run-returns

  run-goes-on : (f : Sheet) (l : Transcript) → History f (raw_state s) l → (y.refusal ≡ 0) × (y.served ≡ length qs) × History f (raw_state y.state) (l ++ seen_by qs new)
  run-goes-on f l h = let os = (run_asked (system_in s) qs).0 in (
    ran.refusal,
    ran.served ∙ outcomes-length qs (system_in s),
    subst (λ z. History f (raw_state y.state) (l ++ z)) (sym (ap (seen_by qs) ran.answers ∙ words-seen words old (system_in s))) (runs {qs = qs} {os = os} h run-returns),
  )

-- ---- the code's answers to Offers
value : {a c : Bool} → ok a ≡ ok c → a ≡ c
value p = cc

abbrev is_ok : Res Bool → Bool
is_ok (refuse n) = false
is_ok (ok c) = true

abbrev is_yes : Result Bool Refusal → Bool
is_yes (Ok b) = b
is_yes (Err e) = false

module _ (r : RawSystem) (b : Book) (x : Holds r b) (k : ℤ) (w : List ℤ) where
  said : (o : Result Bool Refusal) → offered_as o ≡ ok (offers_named (system_of r) k w) → ((o ≡ Ok true) ↔ Permitted b k w) × ((o ≡ Ok false) ↔ (Permitted b k w → ⊥))
  said (Err e) d = never (ap is_ok d)
  said (Ok true) e = let y = (offers-yes r b x k w).0 (sym (value e)) in ((λ z. y, λ h. refl), (λ z. never (sym (ap is_yes z)), λ h. absurd (h y)))
  said (Ok false) e = let n = (offers-no r b x k w).0 (sym (value e)) in ((λ z. never (ap is_yes z), λ h. absurd (n h)), (λ z. n, λ h. refl))

made-by-state : (bytes : List ℕ) (f : Sheet) → Accepts bytes f → (s : State) (l : Transcript) → History f (raw_state s) l → (n : ℕ) → made_by n (system_in s).calls ≡ accepted_calls n l
unfolding system_in
made-by-state bytes f a s l h = (shown bytes f a (raw_state s) l h).1.made

pub shown-of-states : ShownOfStates
shown-of-states bytes f a = record {
  begins = alike begins (loaded-counted f);
  serves = λ s l q y h w. asks h w.returns;
  calls = λ s l subject k m vs y h w e. (shown bytes f a (raw_state s) l h).0.calls subject k m vs (outcome_of y.outcome) (raw_state y.state) w.returns e;
  answers = λ s l subject j v y h w e. (shown bytes f a (raw_state s) l h).0.answers subject j v (outcome_of y.outcome) (raw_state y.state) w.returns e;
  made = λ s l h. made-by-state bytes f a s l h;
  full = λ s l subject k m vs y h w e. (shown bytes f a (raw_state s) l h).1.full subject k m vs (outcome_of y.outcome) (raw_state y.state) w.returns e;
  ran_full = λ s l words old new y h w before behind subject k m vs e n z p. let x = shown bytes f a (raw_state s) l h in
      ran-full (raw_state s) l x.1 words old new (stored-words s words old new y x.0.passes w) (raw_state y.state) (run-returned s words old new y x.0.passes w)
      before behind subject k m vs e n z p;
  runs = λ s l words old new y h w. run-goes-on s words old new y (shown bytes f a (raw_state s) l h).0.passes w f l h;
  offers = λ s l k w o h e. let x = (shown bytes f a (raw_state s) l h).0 in said (raw_state s) (book_of f l) x k w o (e ∙ offers-is (raw_state s) (book_of f l) x k w);
  writes = λ s l w old new h e. e ∙ written_back bytes f a (raw_state s) l h old;
}
