-- An argument list that is longer than any signature, cut behind one argument too many: on a state that passes the check of 2 both are refused alike, with 15 or before it (C4),
-- and on any other with 2.
use mathlib.Core.Path.{◌≡◌, refl, ap, sym, subst, ◌∙◌}
use mathlib.Core.Logic.{◌⊎◌, inl, inr}
use mathlib.Core.Bool.{Bool, true, false, So, not, ◌&&◌, ◌||◌}
use mathlib.Core.List.{List, [], ◌∷◌, ◌++◌, map, flatten}
use Prim.Native.Nat.{ℕ, suc, ◌*◌, ◌≤◌, ◌<◌}
use native.Mathlib.Omega.{arith}
use lib.IntN.{ℤ}
use lib.ListN.{length, take, drop}
use lib.Seq.{take_all, length-take-le}
use Rattle.spec_model.specs.Basics.{Res, refuse, need, names, named}
use Rattle.spec_model.specs.Table.{max_arguments, size, type_at, method_at, is_ref, is_avail}
use Rattle.spec_model.specs.Requests.{System, Request, call, Result, cell_at, held, arguments_held, call_request, serve, after}
use Rattle.spec_model.specs.Check.{RawSystem, system_fits, system_accepted, system_of}
use Rattle.spec_model.specs.Handed.{counted, hand_back, serve_handed}
use Rattle.spec_model.specs.Refusals.{out_of_range, unknown_subject, not_held, not_callable, wrong_values}
use Rattle.law_model.proofs.Checked.{fits-bounded}
use Rattle.law_model.proofs.Returned.{accepted-codes}
use Rattle.table_record.specs.Store.{with_count}
use Rattle.table_record.specs.Records.{bytes_of}
use Rattle.table_record.proofs.Lists.{lt-or-ge}
use Rattle.table_record.specs.Layout.{type_size}
use Rattle.state_bytes.specs.Flat.{counts_in, raw_flat}
use Rattle.request_results.specs.States.{LentState, outcome_number, outcome_values, defined, Handed}

-- ---- On a state whose signatures are short.
module _ (s : System) (h : So (system_fits s)) (subject k m : ℤ) where
  abbrev xs : List ℕ
  xs = (method_at s.table (cell_at s (named k)).type (named m)).args

  not-both : (b : Bool) → (b && false) ≡ false
  not-both true = refl
  not-both false = refl

  not-held : (ys : List ℕ) (vs : List ℤ) → length ys < length vs → arguments_held s subject ys vs ≡ false
  not-held [] [] l = absurd (omega arith)
  not-held [] (v ∷ vs) l = refl
  not-held (a ∷ ys) [] l = absurd (omega arith)
  not-held (a ∷ ys) (v ∷ vs) l = let x = not (is_ref (type_at s.table a).rep) || held s subject v in ap (λ (b : Bool). x && b) (not-held ys vs (omega arith)) ∙ not-both x

  -- with one argument too many or more, whatever they are
  abbrev too_many : Res (System × Result)
  too_many = need (names subject s.table.subjects) unknown_subject λ _. need (held s subject k) not_held λ _.
      need (names m s.table.methods && is_avail (method_at s.table (cell_at s (named k)).type (named m)).state) not_callable λ _. refuse wrong_values

  refuses : (vs : List ℤ) → max_arguments < length vs → call_request s subject k m vs ≡ too_many
  unfolding call_request
  refuses vs l = let short : length xs ≤ max_arguments = (fits-bounded s h).table.short (cell_at s (named k)).type (named m) in rw (not-held xs vs (omega arith))

  call-cut : (vs : List ℤ) → call_request s subject k m (take (suc max_arguments) vs) ≡ call_request s subject k m vs
  call-cut vs = go (lt-or-ge max_arguments (length vs))
    where
      go : (max_arguments < length vs) ⊎ (length vs ≤ max_arguments) → call_request s subject k m (take (suc max_arguments) vs) ≡ call_request s subject k m vs
      go (inl l) = let e = length-take-le (suc max_arguments) vs (omega arith) in refuses (take (suc max_arguments) vs) (omega arith) ∙ sym (refuses vs l)
      go (inr l) = ap (call_request s subject k m) (take_all (suc max_arguments) vs (omega arith))

-- ---- A request that comes to the same is owed the same.
module _ (q q' : Request) (n : ℕ) (old new : LentState) (e : defined (raw_flat old.state) q ≡ defined (raw_flat old.state) q') (h : Handed q n old new) where
  same : serve_handed (raw_flat old.state) q ≡ serve_handed (raw_flat old.state) q'
  unfolding serve_handed
  same = ap (hand_back (raw_flat old.state)) e

  handed-as : Handed q' n old new
  handed-as = record {
    number = h.number ∙ ap (λ x. outcome_number x.outcome) same;
    values = h.values ∙ ap (λ x. outcome_values old.values x.outcome) same;
    returns = record {
      outcome = refl;
      records = h.returns.records ∙ ap (λ x. counted x.state) same;
      untouched = λ d p. h.returns.untouched d (ap (λ x. x.outcome) same ∙ p);
    };
    refused = λ d p. h.refused d (ap (λ x. x.outcome) same ∙ p);
    links = h.links;
    counts = h.counts ∙ ap (λ x. with_count (counts_in old.state.counts) (size (after (system_of (raw_flat old.state)) x).table)) e;
    types = subst Bytes e h.types;
  }
    where
      Bytes : Res (System × Result) → Type 0
      Bytes x = let t = (after (system_of (raw_flat old.state)) x).table in let c = (counts_in old.state.counts).types in
          take (size t * type_size) new.state.types ≡ take (c * type_size) old.state.types ++ flatten (map bytes_of (drop c t.types))

-- ---- So a call is owed what it is with its arguments cut.
pub handed-cut : (subject k m : ℤ) (vs : List ℤ) (n : ℕ) (old new : LentState) → Handed (call subject k m (take (suc max_arguments) vs)) n old new → Handed (call subject k m vs) n old new
unfolding serve
handed-cut subject k m vs n old new = handed-as _ _ n old new (go (system_accepted r) refl)
  where
    r : RawSystem
    r = raw_flat old.state

    go : (b : Bool) → system_accepted r ≡ b → ◌≡◌ {A = Res (System × Result)} (need b out_of_range λ _. serve (system_of r) (call subject k m (take (suc max_arguments) vs)))
        (need b out_of_range λ _. serve (system_of r) (call subject k m vs))
    go true e = call-cut (system_of r) (accepted-codes r e).2 subject k m vs
    go false e = refl
