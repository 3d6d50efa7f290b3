-- A step on a state that passes the check of 2 serves the request, and so does a refusal with 2 on any other: what the entry points end with. And what `Serves` says of
-- the meaning of the state that comes back.
use mathlib.Core.Path.{◌≡◌, refl, ap, sym, subst, ◌∙◌}
use mathlib.Core.Bool.{Bool, true, false, So, cond}
use mathlib.Core.List.{List, ◌++◌, map, flatten, append-nil}
use mathlib.Core.Option.{Option, none, some}
use Prim.Native.Nat.{ℕ, ◌*◌, ◌≤◌}
use native.Mathlib.Omega.{arith}
use lib.ListN.{take, drop, drop_of_length-le}
use Rattle.spec_model.specs.Basics.{Res, refuse, ok, need}
use Rattle.spec_model.specs.Table.{Ty, size}
use Rattle.std.specs.Prelude.{Ok, Err}
use Rattle.std.specs.Prelude.{Result as Either}
use Rattle.spec_model.specs.Requests.{System, Request, Result, Outcome as Outcomeᵐ, got, refused, outcome, serve, after}
use Rattle.spec_model.specs.Check.{system_accepted, system_of}
use Rattle.spec_model.specs.Handed.{counted, hand_back, serve_handed}
use Rattle.spec_model.specs.Refusals.{form, out_of_range}
use Rattle.law_model.proofs.Returned.{Before, handed-is}
use Rattle.law_handed.proofs.Laws.{returns-means}
use Rattle.law_handed.proofs.Before.{returns-before}
use Rattle.table_record.specs.Store.{with_count}
use Rattle.table_record.specs.Records.{bytes_of}
use Rattle.table_record.specs.Layout.{type_size}
use Rattle.state_record.specs.declared.State.{State as Rest}
use Rattle.state_record.specs.Whole.{Whole as State}
use Rattle.state_record.specs.Whole.{whole}
use Rattle.state_record.specs.Sound.{Sound}
use Rattle.state_record.specs.View.{raw_state, system_in, with_types}
use Rattle.base_numbers.specs.declared.refusal.Refusal.{Refusal}
use Rattle.base_numbers.specs.declared.refusal.Refusal.TheVariants as refusals
use Rattle.base_numbers.specs.Refusal.{number_of}
use Rattle.request_common.specs.declared.Answer.{Answer}
use Rattle.request_common.specs.Served.{Done, refusal_of as refusal}
use Rattle.request_common.specs.Served.{outcome_of, served_with, served_as, done, Step}
use Rattle.request_common.proofs.Laws.{refuses}
use Rattle.request_common.specs.Back.{is_accepted}
use Rattle.request_by_code.specs.Coded.{serve_asked}
use Rattle.request_by_code.proofs.Laws.{outcome-is}
use Rattle.request_serve.specs.Serves.{defined, leaves, Serves, ServesAsked}
use Rattle.request_common.specs.Back.{given_back}
use Rattle.request_serve.proofs.Stored.{sized, counted-stored, counts-stored, bytes-stored}

-- what a refusal leaves, whose number the model gives
refused-stays : {P : Type 0} (a : Either Answer Refusal) → ((d : Refusal) → a ≡ Err d → P) → (e : ℕ) → outcome_of a ≡ refused e → P
refused-stays (Err d) f e p = f d refl
refused-stays (Ok x) f e p = absurd cc

-- 1 is the number of one refusal alone
numbered_form : (d : Refusal) → number_of d ≡ form → d ≡ refusals.Form
numbered_form d h = grind arith

refused-form : (a : Either Answer Refusal) → outcome_of a ≡ refused form → a ≡ Err refusals.Form
refused-form (Err d) p = ap Err (numbered_form d (ap number p))
  where
    number : Outcomeᵐ → ℕ
    number (refused n) = n
    number (got x) = 0
refused-form (Ok x) p = absurd cc

-- ---- What a step leaves, t and s₁, and what is left of it once a refused one has given back the types: t'.
module _ {b t t' : List ℕ} {s s₁ : Rest} {m : Res (System × Result)} {r : Either Answer Refusal} (h : Sound (whole b s)) (w : Step (whole b s) m (done t s₁ r)) (e : t' ≡ given_back b t r) where
  back-stays : (d : Refusal) → r ≡ Err d → whole t' s₁ ≡ whole b s
  back-stays d z = ap (λ (x : List ℕ). whole x s₁) (e ∙ ap (given_back b t) z) ∙ ap (λ (x : State). with_types x b) (w.stays d z)

  back_step : Step (whole b s) m (done t' s₁ r)
  back_step = go r refl
    where
      go : (a : Either Answer Refusal) → r ≡ a → Step (whole b s) m (done t' s₁ r)
      go (Err d) z = refuses h (sym w.is ∙ ap (λ (a : Either Answer Refusal). served_with (system_in (whole t s₁)) (outcome_of a)) z)
          (ap (λ (a : Either Answer Refusal). record { outcome = a; state = whole t' s₁ }) z ∙ ap (λ (x : State). refusal x d) (back-stays d z))
      go (Ok x) z = subst (λ (x : List ℕ). Step (whole b s) m (done x s₁ r)) (sym (e ∙ ap (given_back b t) z)) w

-- ---- a step
module _ (s : State) (q : Request) (r : Done) (h : So (system_accepted (raw_state s))) (w : Step s (serve (system_in s) q) r) (stays : (e : Refusal) → r.outcome ≡ Err e → r.state ≡ s) where
  abbrev s' : State
  s' = r.state

  defined-is : defined s q ≡ serve (system_in s) q
  defined-is = ap (λ (b : Bool). need b out_of_range λ _. serve (system_in s) q) h

  handed : serve_handed (raw_state s) q ≡ hand_back (raw_state s) (served_as r)
  unfolding system_in
  handed = handed-is (raw_state s) h q ∙ ap (hand_back (raw_state s)) (sym w.is)

  answers : (o : Outcomeᵐ) → o ≡ (hand_back (raw_state s) (served_with (system_in s') o)).outcome
  answers (refused e) = refl
  answers (got x) = refl

  stored : (o : Outcomeᵐ) → outcome_of r.outcome ≡ o → counted (raw_state s') ≡ counted (hand_back (raw_state s) (served_with (system_in s') o)).state
  stored (refused e) p = ap (λ x. counted (raw_state x)) (refused-stays r.outcome stays e p)
  stored (got x) p = counted-stored s s' w.stored

  left-with : (o : Outcomeᵐ) → outcome_of r.outcome ≡ o → after (system_in s) (served_with (system_in s') o) ≡ system_in s'
  left-with (refused e) p = ap system_in (sym (refused-stays r.outcome stays e p))
  left-with (got x) p = refl

  left : leaves s q ≡ system_in s'
  left = ap (after (system_in s)) (defined-is ∙ sym w.is) ∙ left-with (outcome_of r.outcome) refl

  step-serves : Serves s q r
  step-serves = record {
    returns = record {
      outcome = answers (outcome_of r.outcome) ∙ ap (λ x. x.outcome) (sym handed);
      records = stored (outcome_of r.outcome) refl ∙ ap (λ x. counted x.state) (sym handed);
      untouched = λ e p. ap raw_state (refused-stays r.outcome stays e p);
    };
    stays = stays;
    links = w.stored.links;
    counts = counts-stored s s' w.stored ∙ ap (λ (x : System). with_count s.counts (size x.table)) (sym left);
    types = subst
        (λ (x : System). take (size x.table * type_size) s'.types ≡ take (s.counts.types * type_size) s.types ++ flatten (map bytes_of (drop s.counts.types x.table.types)))
        (sym left) (bytes-stored s s' w.stored);
  }

-- a step on a state that was taken, its types given back
pub back-serves : (b t t' : List ℕ) (s s₁ : Rest) (q : Option Request) (r : Either Answer Refusal) → Sound (whole b s) → So (system_accepted (raw_state (whole b s)))
    → Step (whole b s) (serve_asked (system_in (whole b s)) q) (done t s₁ r) → t' ≡ given_back b t r → ServesAsked (whole b s) q (done t' s₁ r)
unfolding serve_asked
back-serves b t t' s s₁ none r h k w e = let z = refused-form r (sym (outcome-is (whole b s) (refuse form) (done t s₁ r) w)) in
    ap (λ (x : State). record { outcome = r; state = x }) (back-stays h w e refusals.Form z) ∙ ap (λ (a : Either Answer Refusal). record { outcome = a; state = whole b s }) z
    ∙ ap (λ (x : Bool). refusal (whole b s) (cond x refusals.Form refusals.OutOfRange)) (sym k)
back-serves b t t' s s₁ (some q) r h k w e = step-serves (whole b s) q (done t' s₁ r) k (back_step h w e) (back-stays h w e)

-- ---- A request that stores no type: what it leaves is what it would give back.
pub kept-serves : (b t : List ℕ) (s s₁ : Rest) (q : Option Request) (r : Either Answer Refusal) → Sound (whole b s) → So (system_accepted (raw_state (whole b s)))
    → Step (whole b s) (serve_asked (system_in (whole b s)) q) (done t s₁ r) → t ≡ b → ServesAsked (whole b s) q (done t s₁ r)
kept-serves b t s s₁ q r h k w e = back-serves b t t s s₁ q r h k w (go (is_accepted r))
  where
    go : (x : Bool) → t ≡ cond x t b
    go true = refl
    go false = e

-- ---- a refusal with 2
module _ (s : State) (q : Request) (no : system_accepted (raw_state s) ≡ false) where
  refuses-out-of-range : serve_handed (raw_state s) q ≡ hand_back (raw_state s) (refuse out_of_range)
  unfolding serve_handed
  refuses-out-of-range = ap (λ (b : Bool). hand_back (raw_state s) (need b out_of_range λ _. serve (system_of (raw_state s)) q)) no

  untouched : leaves s q ≡ system_in s
  untouched = ap (λ (b : Bool). after (system_in s) (need b out_of_range λ _. serve (system_in s) q)) no

  all_old : take (s.counts.types * type_size) s.types ≡ take (s.counts.types * type_size) s.types ++ flatten (map bytes_of (drop s.counts.types (system_in s).table.types))
  unfolding flatten
  all_old = let e : size (system_in s).table ≤ s.counts.types = omega (arith, sized s) in
      sym (ap (λ (xs : List Ty). take (s.counts.types * type_size) s.types ++ flatten (map bytes_of xs)) (drop_of_length-le (system_in s).table.types e)
      ∙ append-nil (take (s.counts.types * type_size) s.types))

  two-serves : Serves s q (refusal s refusals.OutOfRange)
  two-serves = record {
    returns = record {
      outcome = ap (λ x. x.outcome) (sym refuses-out-of-range);
      records = ap (λ x. counted x.state) (sym refuses-out-of-range);
      untouched = λ e p. refl;
    };
    stays = λ e p. refl;
    links = refl;
    counts = ap (with_count s.counts) (sym (ap (λ (x : System). size x.table) untouched ∙ sized s));
    types = subst
        (λ (x : System). take (size x.table * type_size) s.types ≡ take (s.counts.types * type_size) s.types ++ flatten (map bytes_of (drop s.counts.types x.table.types)))
        (sym untouched) (ap (λ (n : ℕ). take (n * type_size) s.types) (sized s) ∙ all_old);
  }

-- of a request or of none
pub refused-serves : (s : State) (q : Option Request) → system_accepted (raw_state s) ≡ false → (r : Done) → r ≡ refusal s refusals.OutOfRange → ServesAsked s q r
refused-serves s none h r e = e ∙ ap (λ (x : Bool). refusal s (cond x refusals.Form refusals.OutOfRange)) (sym h)
refused-serves s (some q) h r e = subst (λ x. Serves s q x) (sym e) (two-serves s q h)

-- ---- what `Serves` says in the words of the model: the answer, and the meaning of the state that comes back
module _ (s : State) (q : Request) (r : Done) (w : Serves s q r) where
  pub serves-answer : outcome_of r.outcome ≡ outcome (defined s q)
  unfolding serve_handed system_in
  serves-answer = w.returns.outcome ∙ go (defined s q)
    where
      go : (m : Res (System × Result)) → (hand_back (raw_state s) m).outcome ≡ outcome m
      go (refuse e) = refl
      go (ok x) = refl

  pub serves-means : system_in r.state ≡ leaves s q
  unfolding system_in
  serves-means = go (system_accepted (raw_state s)) refl
    where
      go : (b : Bool) → system_accepted (raw_state s) ≡ b → system_in r.state ≡ after (system_in s) (need b out_of_range λ _. serve (system_in s) q)
      go true e = returns-means (raw_state s) q (outcome_of r.outcome) (raw_state r.state) w.returns e
      go false e = ap system_in (refused-stays r.outcome w.stays out_of_range (w.returns.outcome ∙ ap (λ x. x.outcome) (refuses-out-of-range s q e)))

  -- every record counted before is stored as it was, a call's but for its flag (Q15)
  pub serves-before : Before (raw_state s) (raw_state r.state)
  serves-before = returns-before (raw_state s) q (outcome_of r.outcome) (raw_state r.state) w.returns
