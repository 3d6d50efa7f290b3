-- What a request leaves of what was lent to it, from what `serve` promises of the state that was read out of it.
use mathlib.Core.Path.{◌≡◌, refl, ap, sym, subst, ◌∙◌}
use mathlib.Core.Bool.{Bool, true, false, not}
use mathlib.Core.List.{List, ◌++◌, map, flatten, append-nil}
use Prim.Native.Nat.{ℕ, ◌*◌, ◌≤◌}
use native.Mathlib.Omega.{arith}
use lib.IntN.{ℤ}
use lib.ListN.{take, drop, drop_of_length-le}
use Rattle.spec_model.specs.Basics.{refuse, need}
use Rattle.spec_model.specs.Table.{Ty, size}
use Rattle.spec_model.specs.Requests.{System, Request, Outcome as Outcomeᵐ, refused, serve, after}
use Rattle.spec_model.specs.Check.{system_of, system_accepted}
use Rattle.spec_model.specs.Handed.{counted, hand_back, serve_handed, Returns}
use Rattle.spec_model.proofs.Rules.{never}
use Rattle.spec_model.specs.Refusals.{out_of_range}
use Rattle.law_handed.proofs.Counted.{means-same, accepted-same, outcome-same}
use Rattle.law_handed.proofs.Laws.{returns_alike}
use Rattle.table_check_links.proofs.Steps.{passed}
use Rattle.table_check_links.proofs.Steps.{refused as unfit}
use Rattle.table_record.specs.Store.{table_in, with_count}
use Rattle.table_record.specs.Records.{bytes_of}
use Rattle.table_record.proofs.Tables.{size_is}
use Rattle.table_record.specs.Layout.{type_size}
use Rattle.state_record.specs.Whole.{Whole as State}
use Rattle.state_record.specs.View.{raw_state, system_in}
use Rattle.state_bytes.specs.Flat.{Flat, counts_in, raw_flat}
use Rattle.state_bytes.specs.Records.{state_from}
use Rattle.state_bytes.proofs.Laws.{codes_in, read-counted, codes-refused, written-counted}
use Rattle.std.specs.Prelude.{Ok, Err}
use Rattle.std.specs.Prelude.{Result as Either}
use Rattle.base_numbers.specs.declared.refusal.Refusal.{Refusal}
use Rattle.request_common.specs.declared.Answer.{Answer}
use Rattle.request_common.specs.Served.{Done as Served}
use Rattle.request_common.specs.Served.{outcome_of}
use Rattle.request_common.specs.Back.{is_accepted}
use Rattle.request_serve.specs.Serves.{Serves}
use Rattle.request_serve.specs.Serves.{leaves as leaves_state}
use Rattle.request_results.specs.States.{LentState, lent_state, outcome_number, outcome_values, leaves, outcome_on, Handed}
use Rattle.request_results.specs.Stored.{Stored, Back}

-- Every counted byte of the types: the equation of `Handed`, of the state x that is left, types b before and b' after, n of them before.
abbrev Bytes : System → ℕ → List ℕ → List ℕ → Type 0
Bytes x n b b' = take (size x.table * type_size) b' ≡ take (n * type_size) b ++ flatten (map bytes_of (drop n x.table.types))

-- what was lent, with other types
abbrev pub with_bytes : Flat → List ℕ → Flat
with_bytes f t = record { types = t; links = f.links; cells = f.cells; places = f.places; calls = f.calls; counts = f.counts }

-- which outcomes are refusals
refusal-of : (a : Either Answer Refusal) → is_accepted a ≡ false → (e : Refusal) × (a ≡ Err e)
refusal-of (Err e) h = (e, refl)
refusal-of (Ok x) h = never (sym h)

no-refusal : (a : Either Answer Refusal) (e : ℕ) → is_accepted a ≡ true → outcome_of a ≡ refused e → ⊥
no-refusal (Err n) e h p = never h
no-refusal (Ok x) e h p = let z : ◌≡◌ {A = ℕ} 0 1 = cc in omega arith

-- a state stored in the arrays is the one that they hold, as far as it is counted
pub stored-counted : (s : State) (old new : Flat) → Stored s old new → new.links ≡ s.links → counted (raw_flat new) ≡ counted (raw_state s)
stored-counted s old new z links =
    written-counted s new z.types links z.counts (z.cell_number, z.place_number, z.call_number) z.cells.counted z.places.counted z.calls.counted

-- ---- A code that names nothing: 2, and nothing else is looked at.
module _ (f : Flat) (q : Request) (v : List ℤ) (bad : codes_in f ≡ false) where
  no : system_accepted (raw_flat f) ≡ false
  no = codes-refused f bad

  refuses : serve_handed (raw_flat f) q ≡ hand_back (raw_flat f) (refuse out_of_range)
  unfolding serve_handed
  refuses = ap (λ (b : Bool). hand_back (raw_flat f) (need b out_of_range λ _. serve (system_of (raw_flat f)) q)) no

  stays : leaves (raw_flat f) q ≡ system_of (raw_flat f)
  stays = ap (λ (b : Bool). after (system_of (raw_flat f)) (need b out_of_range λ _. serve (system_of (raw_flat f)) q)) no

  abbrev n : ℕ
  n = (counts_in f.counts).types

  sized : size (system_of (raw_flat f)).table ≡ n
  unfolding system_of table_in
  sized = size_is f.types f.links (counts_in f.counts)

  all_old : Bytes (system_of (raw_flat f)) n f.types f.types
  unfolding flatten
  all_old = let e : size (system_of (raw_flat f)).table ≤ n = omega (arith, sized) in
      ap (λ (k : ℕ). take (k * type_size) f.types) sized
      ∙ sym (ap (λ (xs : List Ty). take (n * type_size) f.types ++ flatten (map bytes_of xs)) (drop_of_length-le (system_of (raw_flat f)).table.types e) ∙ append-nil (take (n * type_size) f.types))

  codes-handed : Handed q out_of_range (lent_state f v) (lent_state f v)
  codes-handed = let o : outcome_on f q ≡ refused out_of_range = ap (λ x. x.outcome) refuses in record {
    number = ap outcome_number (sym o);
    values = ap (outcome_values v) (sym o);
    returns = record { outcome = refl; records = ap (λ x. counted x.state) (sym refuses); untouched = λ e p. refl };
    refused = λ e p. refl;
    links = refl;
    counts = ap (with_count (counts_in f.counts)) (sym (ap (λ (x : System). size x.table) stays ∙ sized));
    types = subst (λ (x : System). Bytes x n f.types f.types) (sym stays) all_old;
  }

-- ---- The codes fit: the state s was read, and r is the answer with the state that is left.
module _ (f : Flat) (q : Request) (v : List ℤ) (fits : codes_in f ≡ true) (r : Served) (w : Serves (state_from f) q r) where
  abbrev s : State
  s = state_from f

  abbrev a : Outcomeᵐ
  a = outcome_of r.outcome

  alike : counted (raw_state s) ≡ counted (raw_flat f)
  alike = read-counted f fits

  is : a ≡ outcome_on f q
  is = w.returns.outcome ∙ outcome-same (raw_state s) (raw_flat f) alike q

  left : leaves_state s q ≡ leaves (raw_flat f) q
  unfolding system_in
  left = ap (λ (b : Bool). after (system_of (raw_state s)) (need b out_of_range λ _. serve (system_of (raw_state s)) q)) (accepted-same (raw_state s) (raw_flat f) alike)
      ∙ ap (λ (x : System). after x (need (system_accepted (raw_flat f)) out_of_range λ _. serve x q)) (means-same (raw_state s) (raw_flat f) alike)

  -- g is what the arrays hold afterwards, and u the values
  module _ (g : Flat) (n : ℕ) (u : List ℤ) (number : n ≡ outcome_number a) (values : u ≡ outcome_values v a) where
    handed : counted (raw_flat g) ≡ counted (raw_state r.state) → ((e : ℕ) → a ≡ refused e → lent_state g u ≡ lent_state f v) → g.links ≡ f.links
        → counts_in g.counts ≡ r.state.counts → g.types ≡ r.state.types
        → Handed q n (lent_state f v) (lent_state g u)
    handed same untouched links counts types = record {
      number = number ∙ ap outcome_number is;
      values = values ∙ ap (outcome_values v) is;
      returns = subst (λ (o : Outcomeᵐ). Returns (raw_flat f) q o (raw_flat g)) is
          (returns_alike (raw_state s) q a (raw_state r.state) w.returns (raw_flat f) (raw_flat g) (sym alike) same (λ e p. ap (λ (x : LentState). raw_flat x.state) (untouched e p)));
      refused = λ e p. untouched e (is ∙ p);
      links = links;
      counts = counts ∙ w.counts ∙ ap (λ (x : System). with_count (counts_in f.counts) (size x.table)) left;
      types = subst (λ (b : List ℕ). Bytes (leaves (raw_flat f) q) (counts_in f.counts).types f.types b) (sym types)
          (subst (λ (x : System). Bytes x (counts_in f.counts).types f.types r.state.types) left w.types);
    }

    accepted-handed : is_accepted r.outcome ≡ true → g.links ≡ f.links → (old : Flat) → Stored r.state old g → Handed q n (lent_state f v) (lent_state g u)
    accepted-handed h links old z = handed (stored-counted r.state old g z (links ∙ sym w.links))
        (λ e p. absurd (no-refusal r.outcome e h p)) links z.counts z.types

    refused-handed : is_accepted r.outcome ≡ false → g ≡ f → Handed q n (lent_state f v) (lent_state g u)
    refused-handed h stayed =
        let e = refusal-of r.outcome h in
        let same : r.state ≡ s = w.stays e.0 e.1 in
        let old : u ≡ v = values ∙ ap (λ x. outcome_values v (outcome_of x)) e.1 in
        handed (ap (λ x. counted (raw_flat x)) stayed ∙ sym (ap (λ (x : State). counted (raw_state x)) same ∙ alike)) (λ k p. rw (stayed, old)) (ap (λ (x : Flat). x.links) stayed)
        (ap (λ (x : Flat). counts_in x.counts) stayed ∙ sym (ap (λ (x : State). x.counts) same)) (ap (λ (x : Flat). x.types) stayed ∙ sym (ap (λ (x : State). x.types) same))

  -- what was lent, beside the types that the request has left by the time the rest is handed back
  abbrev f' : Flat
  f' = with_bytes f r.state.types

  -- which a refused one gave back
  back-same : is_accepted r.outcome ≡ false → f' ≡ f
  back-same h = let e = refusal-of r.outcome h in ap (λ (x : State). with_bytes f x.types) (w.stays e.0 e.1)

  back-handed : (g : Flat) (n : ℕ) (u : List ℤ) → g.links ≡ f.links → Back r n (lent_state f' v) (lent_state g u) → Handed q n (lent_state f v) (lent_state g u)
  back-handed g n u links b = go (is_accepted r.outcome) refl
    where
      go : (x : Bool) → is_accepted r.outcome ≡ x → Handed q n (lent_state f v) (lent_state g u)
      go false h = refused-handed g n u b.number b.values h (b.refused h ∙ back-same h)
      go true h = accepted-handed g n u b.number b.values h links f' (b.accepted h)

-- ---- As the C functions use it: b says whether the codes fit, s is the state that was read.
module _ (f : Flat) (q : Request) (v : List ℤ) (b : Bool) (tested : b ≡ codes_in f) where
  pub request-unfit : not b ≡ true → Handed q out_of_range (lent_state f v) (lent_state f v)
  request-unfit h = codes-handed f q v (unfit b _ tested h)

  pub request-handed : not b ≡ false → (s : State) → s ≡ state_from f → (r : Served) → Serves s q r → (g : Flat) (n : ℕ) (u : List ℤ) → g.links ≡ f.links
      → Back r n (lent_state (with_bytes f r.state.types) v) (lent_state g u)
      → Handed q n (lent_state f v) (lent_state g u)
  request-handed h s read r w = back-handed f q v (passed b _ tested h) r (subst (λ (x : State). Serves x q r) read w)
