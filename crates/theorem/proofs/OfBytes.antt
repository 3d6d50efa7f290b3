-- The theorem of a caller in C (specs/OfBytes): each contract is a step of a history, or says what the book says.
use mathlib.Core.Path.{◌≡◌, refl, ap, sym, subst, ◌∙◌}
use mathlib.Core.Logic.{◌↔◌}
use mathlib.Core.Bool.{Bool, true, false, So}
use mathlib.Core.List.{List, [], ◌∷◌, ◌++◌}
use mathlib.Core.Option.{Option}
use Prim.Native.Nat.{ℕ}
use native.Mathlib.Omega.{arith}
use lib.Dec.{eqb}
use lib.IntN.{ℤ, pos}
use lib.ListN.{length}
use Rattle.spec_model.specs.Basics.{ok, need, from, named}
use Rattle.spec_model.specs.Relations.{bit}
use Rattle.spec_model.specs.Requests.{Cell, System, Request, call, answer, Outcome, got, refused, max_calls_each}
use Rattle.spec_model.specs.Check.{RawTable, RawPlace, RawCall, RawSystem, system_of, system_accepted}
use Rattle.spec_model.specs.Handed.{raw_loaded, counted}
use Rattle.spec_model.specs.Book.{Book}
use Rattle.spec_model.specs.Callers.{Transcript, taken, accepted_calls, refused_before}
use Rattle.spec_model.specs.Refusals.{out_of_range, calls_full}
use Rattle.law_handed.proofs.Small.{refusal-number}
use Rattle.table_record.specs.Store.{raw_table}
use Rattle.spec_sheet.specs.Sheet.{read}
use Rattle.spec_sheet.specs.Text.{write}
use Rattle.sheet_read.specs.declared.Sheet.{Sheet}
use Rattle.request_words.specs.Words.{requests}
use Rattle.request_run.specs.Requested.{run_asked, run_handed}
use Rattle.request_run.specs.Ran.{room}
use Rattle.state_offers.specs.Chained.{offers_named, offers_handed}
use Rattle.state_bytes.specs.Flat.{Flat, counts_in, raw_cells, raw_places, raw_calls, raw_flat}
use Rattle.request_results.specs.States.{LentState, Handed, outcome_number, outcome_on}
use Rattle.export_runs.specs.Results.{offered_out, LoadedIs, LentRun, RanOut, RunsOut}
use Rattle.text_write.specs.Written.{WrittenIs}
use Rattle.theorem.specs.Shown.{Accepts, first, book_of, RunReturns, History, begins, asks, runs, alike, Holds, Permitted}
use Rattle.theorem.specs.OfStates.{seen_by}
use Rattle.theorem.specs.OfBytes.{sheet_in, ShownOfLoads, ShownOfBytes, ShownOfBytesApart}
use Rattle.theorem.proofs.Shown.{shown}
use Rattle.theorem.proofs.RunWords.{not-zero, outcomes-length, words-seen}
use Rattle.theorem.proofs.Full.{before-by, number_by, ran-full}
use Rattle.theorem.proofs.Offers.{offers-is, offers-yes, offers-no}
use Rattle.theorem.proofs.Writes.{written_back}

-- ---- load: no record is counted but the table's
none-counted : (t : RawTable) (a b c : ℕ) (xs : List Cell) (ys : List RawPlace) (zs : List RawCall) → a ≡ 0 → b ≡ 0 → c ≡ 0
    → counted (record { table = t; cells = a; places = b; calls = c; cell_records = xs; place_records = ys; call_records = zs }) ≡ counted (raw_loaded t)
unfolding counted from
none-counted t a b c xs ys zs p q r = rw (p, q, r)

load-counted : (bytes : List ℕ) (f : Sheet) (n at : ℕ) (x : Flat) → LoadedIs (read bytes) n at x → sheet_in n at x ≡ f → counted (raw_flat x) ≡ counted (first f)
load-counted bytes f n at x w e =
    none-counted (raw_table x.types x.links (counts_in x.counts)) _ _ _ (raw_cells x.cells) (raw_places x.places) (raw_calls x.calls) w.none.0 w.none.1 w.none.2
    ∙ ap (λ z. counted (first z)) e

pub shown-of-loads : ShownOfLoads
shown-of-loads bytes n at x w e = record { contract = w.sheet; accepted = e }

-- ---- a request: the number returned is 0 exactly where it was accepted
taken-by : (x : Flat) (q : Request) (n : ℕ) → n ≡ outcome_number (outcome_on x q) → taken (outcome_on x q) ≡ eqb n 0
taken-by x q n e = go (outcome_on x q) refl ∙ ap (λ i. eqb i 0) (sym e)
  where
    go : (o : Outcome) → outcome_on x q ≡ o → taken (outcome_on x q) ≡ eqb (outcome_number (outcome_on x q)) 0
    go (refused i) p = ap taken p ∙ sym (not-zero i (refusal-number (raw_flat x) q i p).0) ∙ sym (ap (λ o. eqb (outcome_number o) 0) p)
    go (got v) p = ap taken p ∙ sym (ap (λ o. eqb (outcome_number o) 0) p)

zero-taken : (x : Flat) (q : Request) (n : ℕ) → n ≡ outcome_number (outcome_on x q) → n ≡ 0 → So (taken (outcome_on x q))
zero-taken x q n e z = taken-by x q n e ∙ ap (λ i. eqb i 0) z

-- ---- a run on a state that passes the check
module _ (words : List ℤ) (n : ℕ) (old new : LentRun) (p : So (system_accepted (raw_flat old.state))) where
  abbrev x : Flat
  x = old.state

  abbrev x' : Flat
  x' = new.state

  abbrev qs : List (Option Request)
  qs = requests (room old.answers) words

  abbrev os : List Outcome
  os = (run_asked (system_of (raw_flat x)) qs).0

  abbrev m : System
  m = (run_asked (system_of (raw_flat x)) qs).1

  module _ (w : RunsOut (run_handed (raw_flat x) (room old.answers) words) n old new) where
    ran : RanOut os m n old new
    unfolding run_handed
    ran = subst (λ (c : Bool). RunsOut (need c out_of_range λ _. ok (os, m)) n old new) p w

    run-returns : RunReturns (raw_flat x) qs os (raw_flat x')
    run-returns = record { outcomes = refl; records = ran.records }

    run-goes-on : (f : Sheet) (l : Transcript) → History f (raw_flat x) l → (n ≡ 0) × (new.served ≡ length qs) × History f (raw_flat x') (l ++ seen_by qs new.answers)
    run-goes-on f l h = (
      ran.number,
      ran.served ∙ outcomes-length qs (system_of (raw_flat x)),
      subst (λ z. History f (raw_flat x') (l ++ z)) (sym (ap (seen_by qs) ran.answers ∙ words-seen words old.answers (system_of (raw_flat x)))) (runs {qs = qs} {os = os} h run-returns),
    )

-- ---- the number stored by offers
bit-true : (c : Bool) → bit c ≡ 1 → c ≡ true
bit-true true e = refl
bit-true false e = absurd (omega (arith, e))

bit-false : (c : Bool) → bit c ≡ 0 → c ≡ false
bit-false true e = absurd (omega (arith, e))
bit-false false e = refl

module _ (r : RawSystem) (b : Book) (x : Holds r b) (k : ℤ) (w : List ℤ) (n old new : ℕ) (e : (n, new) ≡ offered_out old (offers_handed r k w)) where
  abbrev c : Bool
  c = offers_named (system_of r) k w

  stores : (n, new) ≡ offered_out old (ok c)
  stores = e ∙ ap (offered_out old) (offers-is r b x k w)

  bit_is : new ≡ bit c
  bit_is = ap (λ z. z.1) stores

  offers-says : (n ≡ 0) × ((new ≡ 1) ↔ Permitted b k w) × ((new ≡ 0) ↔ (Permitted b k w → ⊥))
  offers-says = (
    ap (λ z. z.0) stores,
    (λ z. (offers-yes r b x k w).0 (bit-true c (sym bit_is ∙ z)), λ h. bit_is ∙ ap bit ((offers-yes r b x k w).1 h)),
    (λ z. (offers-no r b x k w).0 (bit-false c (sym bit_is ∙ z)), λ h. bit_is ∙ ap bit ((offers-no r b x k w).1 h)),
  )

full_by : (bytes : List ℕ) (f : Sheet) → Accepts bytes f → (l : Transcript) (subject k m : ℤ) (vs : List ℤ) (n : ℕ) (old new : LentState) → History f (raw_flat old.state) l
    → Handed (call subject k m vs) n old new → refused_before (refused n) ≡ false → (n ≡ calls_full) ↔ (accepted_calls (named subject) l ≡ max_calls_each)
full_by bytes f a l subject k m vs n old new h w p =
    let q = call subject k m vs in
    let x = (shown bytes f a (raw_flat old.state) l h).1.full subject k m vs (outcome_on old.state q) (raw_flat new.state) w.returns
    (sym (before-by (outcome_on old.state q) n w.number) ∙ p) in
    let y = number_by (outcome_on old.state q) n w.number in
    (λ z. x.0 (y.0 z), λ z. y.1 (x.1 z))

pub shown-of-bytes-apart : ShownOfBytesApart
shown-of-bytes-apart bytes f a subject old new old' new' l l' h h' e k m vs n w p k' m' vs' n' w' p' =
    let x = full_by bytes f a l (pos subject) k m vs n old new h w p in
    let x' = full_by bytes f a l' (pos subject) k' m' vs' n' old' new' h' w' p' in
    (λ z. x'.1 (sym e ∙ x.0 z), λ z. x.1 (e ∙ x'.0 z))

pub shown-of-bytes : ShownOfBytes
shown-of-bytes bytes f a = record {
  loads = λ n at x w. let e = w.sheet ∙ sym a.contract in (ap (λ (z : Sheet). z.refusal) e ∙ a.accepted, alike begins (load-counted bytes f n at x w e));
  serves = λ l q n old new h w. subst (λ (c : Bool). History f (raw_flat new.state) (l ++ ((q, c) ∷ []))) (taken-by old.state q n w.number) (asks h w.returns);
  calls = λ l subject k m vs n old new h w z. let q = call subject k m vs in
      (shown bytes f a (raw_flat old.state) l h).0.calls subject k m vs (outcome_on old.state q) (raw_flat new.state) w.returns (zero-taken old.state q n w.number z);
  answers = λ l subject j v n old new h w z. let q = answer subject j v in
      (shown bytes f a (raw_flat old.state) l h).0.answers subject j v (outcome_on old.state q) (raw_flat new.state) w.returns (zero-taken old.state q n w.number z);
  made = λ x l h. (shown bytes f a (raw_flat x) l h).1.made;
  full = λ l subject k m vs n old new h w p. full_by bytes f a l subject k m vs n old new h w p;
  ran_full = λ l words n old new h w before behind subject k m vs e i z p. let x = shown bytes f a (raw_flat old.state) l h in
      ran-full (raw_flat old.state) l x.1 words old.answers new.answers (ran words n old new x.0.passes w).answers (raw_flat new.state)
      (run-returns words n old new x.0.passes w) before behind subject k m vs e i z p;
  runs = λ l words n old new h w. run-goes-on words n old new (shown bytes f a (raw_flat old.state) l h).0.passes w f l h;
  offers = λ x l k w n old new h e. offers-says (raw_flat x) (book_of f l) (shown bytes f a (raw_flat x) l h).0 k w n old new e;
  writes = λ x l counts n before after old new h e w. subst (λ z. WrittenIs z n before after new)
      (ap (λ c. write (raw_table x.types x.links c) old) e ∙ written_back bytes f a (raw_flat x) l h old) w;
  reads = λ m at types links counts n before after old new e w. subst (λ z. WrittenIs z n before after new)
      (ap (λ (z : Sheet). write (first z).table old) (e ∙ sym a.contract) ∙ written_back bytes f a (first f) _ begins old) w;
}
