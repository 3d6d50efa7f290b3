-- What is returned by contract means a state that the model reaches from the sheet, and the book is the model's book of the same requests: so the claim holds of it, and the
-- method of an accepted call is permitted.
use mathlib.Core.Path.{◌≡◌, refl, ap, sym, subst, ◌∙◌}
use mathlib.Core.Bool.{Bool, true, false, ◌&&◌, So, cond}
use mathlib.Core.List.{List, [], ◌∷◌, ◌++◌}
use mathlib.Core.Option.{Option}
use Prim.Native.Nat.{ℕ, ◌+◌, ◌<◌}
use lib.IntN.{ℤ}
use lib.ListN.{length, length-map}
use Rattle.spec_model.specs.Basics.{Res, refuse, ok, need, names}
use Rattle.spec_model.specs.Table.{Table, valid_sheet}
use Rattle.spec_model.specs.Requests.{System, Request, call, answer, Result, Outcome, outcome, made_by, loaded, serve, run}
use Rattle.spec_model.specs.Check.{RawTable, RawSystem, table_of, system_of, table_accepted, system_accepted}
use Rattle.spec_model.specs.Handed.{raw_loaded, counted, stored_from, hand_back, serve_handed, Returns}
use Rattle.spec_model.specs.Book.{Book, opened}
use Rattle.spec_model.specs.Claim.{accepted, feed, follow, reached, note_of, Claim}
use Rattle.spec_model.specs.Callers.{Transcript, taken, called_by, accepted_calls}
use Rattle.spec_model.proofs.Rules.{never}
use Rattle.spec_model.specs.Refusals.{out_of_range}
use Rattle.law_model.proofs.Steps.{IfOk}
use Rattle.law_model.proofs.Sheets.{demand3}
use Rattle.law_model.proofs.Returned.{handed-is}
use Rattle.law_model.proofs.Loaded.{loaded-means, loaded-accepted}
use Rattle.law_rules.proofs.Callers.{serve-made, run-made}
use Rattle.law_handed.proofs.Counted.{means-same, accepted-same}
use Rattle.law_handed.proofs.Laws.{returns-reached}
use Rattle.request_run.specs.Requested.{asked}
use Rattle.theorem.specs.Shown.{fed, seen_of, RunReturns, Permitted, NotePermitted}
use Rattle.theorem.proofs.Runs.{run-follows, seen_placed, follow-both, stored-means, stored-accepted}
use Rattle.theorem.proofs.Calls.{if-accepted, call-tested, answer-tested, tested-permitted, follow-on, noted-permitted}

handed-taken : (r : RawSystem) (m : Res (System × Result)) → taken (hand_back r m).outcome ≡ accepted m
handed-taken r (refuse n) = refl
handed-taken r (ok x) = refl

handed-outcome : (r : RawSystem) (m : Res (System × Result)) → (hand_back r m).outcome ≡ outcome m
handed-outcome r (refuse n) = refl
handed-outcome r (ok x) = refl

-- ---- r means a state that the model reaches from the sheet t, b is the model's book of the same requests, and r passes the check of 2.
pub record Means (t : Table) (r : RawSystem) (b : Book) : Type 0 where
  pub requests : List Request
  pub state : system_of r ≡ (reached t requests).0
  pub book : b ≡ (reached t requests).1
  pub passes : So (system_accepted r)

module _ (t : Table) (v : So (valid_sheet t)) where
  -- the state of a loaded sheet
  pub means-first : (x : RawTable) → table_of x ≡ t → So (table_accepted x) → Means t (raw_loaded x) (opened t)
  unfolding follow
  means-first x e a = record { requests = []; state = loaded-means x ∙ ap loaded e; book = refl; passes = loaded-accepted x a }

  module _ (r : RawSystem) (b : Book) (h : Means t r b) (r' : RawSystem) where
    -- other records past the counts
    pub means-alike : counted r' ≡ counted r → Means t r' b
    means-alike e = record { requests = h.requests; state = means-same r' r e ∙ h.state; book = h.book; passes = accepted-same r' r e ∙ h.passes }

    -- what is returned for a request, by whatever keeps the contract
    module _ (q : Request) (o : Outcome) (w : Returns r q o r') where
      taken_is : taken o ≡ accepted (serve (reached t h.requests).0 q)
      taken_is = ap taken (w.outcome ∙ ap (λ x. x.outcome) (handed-is r h.passes q)) ∙ handed-taken r (serve (system_of r) q) ∙ ap (λ s. accepted (serve s q)) h.state

      -- what the request counts for each subject
      pub asked-made : (n : ℕ) → made_by n (system_of r').calls ≡ made_by n (system_of r).calls + cond (called_by n q && taken o) 1 0
      asked-made n =
          let s = (reached t h.requests).0 in
          let x = returns-reached r q o r' w t v h.requests h.passes h.state in
          ap (λ (y : System). made_by n y.calls) (x.1 ∙ ap (λ y. y.0) (follow-on q h.requests (loaded t) (opened t))) ∙ serve-made s q n
          ∙ ap (λ (c : Bool). made_by n s.calls + cond (called_by n q && c) 1 0) (sym taken_is)
          ∙ ap (λ (y : System). made_by n y.calls + cond (called_by n q && taken o) 1 0) (sym h.state)

      -- a state that passes gives the model's outcome
      pub outcome-is : o ≡ outcome (serve (system_of r) q)
      outcome-is = w.outcome ∙ ap (λ x. x.outcome) (handed-is r h.passes q) ∙ handed-outcome r (serve (system_of r) q)

      pub means-asked : Means t r' (feed b q (taken o))
      means-asked = let x = returns-reached r q o r' w t v h.requests h.passes h.state in record {
        requests = h.requests ++ (q ∷ []);
        state = x.1;
        book = ap (λ x. feed x q (taken o)) h.book ∙ ap (feed (reached t h.requests).1 q) taken_is ∙ sym (ap (λ x. x.1) (follow-on q h.requests (loaded t) (opened t)));
        passes = x.0;
      }

    -- and for a run
    module _ (qs : List (Option Request)) (os : List Outcome) (w : RunReturns r qs os r') where
      abbrev both : List Request
      both = h.requests ++ asked qs

      -- the model's run goes on where the requests before it ended, and feeds the book
      ran_on : reached t both ≡ ((run (system_of r) (asked qs)).1, fed b (seen_of qs os))
      ran_on = follow-both h.requests (asked qs) (loaded t) (opened t)
          ∙ ap (λ s. follow s (reached t h.requests).1 (asked qs)) (sym h.state) ∙ ap (λ x. follow (system_of r) x (asked qs)) (sym h.book)
          ∙ run-follows qs (system_of r) b ∙ ap (λ x. ((run (system_of r) (asked qs)).1, fed b (seen_of qs x))) (sym w.outcomes)

      stored : counted r' ≡ counted (stored_from r (reached t both).0)
      stored = w.records ∙ ap (λ x. counted (stored_from r x.0)) (sym ran_on)

      -- and what the run counts
      pub run-counts : (n : ℕ) → made_by n (system_of r').calls ≡ made_by n (system_of r).calls + accepted_calls n (seen_of qs os)
      run-counts n = let u = stored_from r (reached t both).0 in
          ap (λ (y : System). made_by n y.calls) (means-same r' u stored ∙ stored-means t v r h.passes h.requests (asked qs) h.state ∙ ap (λ y. y.0) ran_on)
          ∙ run-made (asked qs) (system_of r) n
          ∙ ap (λ (l : Transcript). made_by n (system_of r).calls + accepted_calls n l) (sym (ap (seen_of qs) w.outcomes ∙ seen_placed qs (system_of r)))

      pub means-run : Means t r' (fed b (seen_of qs os))
      means-run = let u = stored_from r (reached t both).0 in record {
        requests = both;
        state = means-same r' u stored ∙ stored-means t v r h.passes h.requests (asked qs) h.state;
        book = sym (ap (λ x. x.1) ran_on);
        passes = accepted-same r' u stored ∙ stored-accepted t v r h.passes h.requests (asked qs) h.state;
      }

  -- ---- what is shown of such a state
  module _ (r : RawSystem) (b : Book) (h : Means t r b) where
    pub means-claim : Claim (system_of r) b
    means-claim = subst (λ x. Claim (system_of r) x) (sym h.book) (subst (λ s. Claim s (reached t h.requests).1) (sym h.state) (demand3 t v h.requests))

    pub means-noted : (j : ℕ) → j < length b.calls → NotePermitted b j
    means-noted = subst (λ x. (j : ℕ) → j < length x.calls → NotePermitted x j) (sym h.book) (noted-permitted t v h.requests)

    -- a request that is accepted: a state that is refused with 2 accepts none
    module _ (o : Outcome) (r' : RawSystem) (e : So (taken o)) where
      if-taken : {P : Type 0} (q : Request) → Returns r q o r' → IfOk (serve (reached t h.requests).0 q) (λ _. P) → P
      unfolding serve_handed
      if-taken q w p = if-accepted (serve (reached t h.requests).0 q) p (subst (λ s. So (accepted (serve s q))) h.state
          (passed (system_accepted r) (serve (system_of r) q) (sym (ap taken w.outcome ∙ handed-taken r (need (system_accepted r) out_of_range λ _. serve (system_of r) q)) ∙ e)))
        where
          passed : (c : Bool) (x : Res (System × Result)) → So (accepted (need c out_of_range λ _. x)) → So (accepted x)
          passed true x z = z
          passed false x z = never z

      pub means-called : (subject k m : ℤ) (vs : List ℤ) → Returns r (call subject k m vs) o r' → Permitted b k (m ∷ [])
      means-called subject k m vs w = subst (λ x. Permitted x k (m ∷ [])) (sym h.book)
          (tested-permitted t v h.requests k m (if-taken (call subject k m vs) w (call-tested (reached t h.requests).0 subject k m vs)))

      pub means-answered : (subject j : ℤ) (x : Option ℤ) → Returns r (answer subject j x) o r' → So (names j (length b.calls))
      means-answered subject j x w = subst (λ i. So (names j i)) (sym calls) (if-taken (answer subject j x) w (answer-tested (reached t h.requests).0 subject j x))
        where
          calls : length b.calls ≡ length (reached t h.requests).0.calls
          calls = ap (λ c. length c.calls) h.book ∙ ap length (demand3 t v h.requests).calls ∙ length-map (reached t h.requests).0.calls note_of
