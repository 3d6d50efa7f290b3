-- A reference that is sent becomes a cell, and the arguments are sent one behind the other: the rest follows from the state as it stands.
use mathlib.Core.Path.{◌≡◌, refl, sym, ap, ◌∙◌, subst}
use mathlib.Core.Logic.{◌⊎◌, inl, inr}
use mathlib.Core.Bool.{Bool, true, false}
use mathlib.Core.List.{List, [], ◌∷◌, map}
use mathlib.Core.Option.{Option}
use Prim.Native.Nat.{ℕ, suc, ◌+◌, ◌≤◌, ◌<◌}
use native.Mathlib.Numerals.{add-one}
use native.Mathlib.Omega.{arith}
use lib.Dec.{ltb}
use lib.IntN.{ℤ}
use lib.ListN.{length, get_or, drop, length-append, get_or-eq_default}
use Rattle.spec_model.specs.Basics.{Res, refuse, ok, try, need, named}
use Rattle.spec_model.specs.Table.{Table, type_at, argument_at, is_ref}
use Rattle.spec_model.specs.Crossing.{Reference}
use Rattle.spec_model.specs.Requests.{System, Result, pair, nothing, no_cell, leaving, with_cell, add_cell, after, max_cells, cross_layers, pass_layers, send, send_arguments}
use Rattle.spec_model.specs.Requests.{Cell as Cellᵐ}
use Rattle.spec_model.proofs.Rules.{never}
use Rattle.spec_model.specs.Refusals.{cells_full}
use Rattle.table_record.specs.declared.Counts.{Counts}
use Rattle.table_record.specs.Store.{table_in, ref_in}
use Rattle.table_record.proofs.Lists.{lt-or-ge}
use Rattle.table_record.proofs.Tables.{ref-table}
use Rattle.state_record.specs.declared.Cell.{Cell}
use Rattle.state_record.specs.Whole.{Whole as State}
use Rattle.state_record.specs.View.{cell_of, cells_in, places_in, system_in}
use Rattle.state_record.specs.Sound.{CellIn, Sound}
use Rattle.state_record.proofs.Laws.{cells-length, places-length, calls-length, system-is, means-counted}
use Rattle.crossing_meet.specs.declared.Crossed.{Crossed}
use Rattle.crossing_meet.specs.Crossed.{reference, Ready, PlaceKnown, crossed_of, Came, Leaves}
use Rattle.std.proofs.lemmas.Result.{IfOk-at_ok}
use Rattle.crossing_targets.specs.Targets.{passed_of}
use Rattle.std.specs.Prelude.{Ok, Err}
use Rattle.std.specs.Prelude.{Result as Either}
use Rattle.base_numbers.specs.declared.refusal.Refusal.{Refusal}
use Rattle.base_numbers.specs.Refusal.{number_of as refusal_number}
use Rattle.request_common.specs.declared.Answer.{Answer}
use Rattle.request_common.specs.declared.Answer.TheVariants.{Nothing}
use Rattle.request_common.specs.Outcome.{Outcome}
use Rattle.request_common.specs.Served.{Done as Served, refusal_of as refusal}
use Rattle.state_record.specs.View.{with_types}
use Rattle.request_common.specs.Served.{outcome_of, served_with, served_as, Stored, Step, Arrives, arrived}
use Rattle.request_common.proofs.Laws.{stored-self, stored_on, refuses, refuses-kept, step-as, table_is, calls_are}
use Rattle.request_value.specs.Sent.{send_argument, all_sent, Went, Sent}
use Rattle.request_common.specs.Back.{is_accepted}

-- ---- Answers.
-- a request that is not accepted is refused with some number
pub only-refused : (P : Outcome → Type 0) → ((e : Refusal) → P (Err e)) → (a : Outcome) → is_accepted a ≡ false → P a
only-refused P f (Ok a) h = never (sym h)
only-refused P f (Err e) h = f e

pub accepted-by : (a : Outcome) (s : System) {x : System × Result} → served_with s (outcome_of a) ≡ ok x → is_accepted a ≡ true
accepted-by (Ok a) s h = refl
accepted-by (Err e) s h = cc

-- an accepted step from a state that another has left
pub step_after : {s : State} {x : System × Result} (s₁ : State) → Stored s s₁ → (r : Served) → Step s₁ (ok x) r → Step s (ok x) r
step_after {s} s₁ k r g = record {
  is = g.is;
  stays = λ e u. never (sym (ap is_accepted u) ∙ accepted-by r.outcome (system_in r.state) g.is);
  stored = stored_on s s₁ r.state k g.stored;
  sound = g.sound;
}

-- what is refused is refused by whatever goes on with it
pub step-stops : {s : State} {m : Res (System × Result)} (k : System × Result → Res (System × Result)) (q : Served) → Step s m q → is_accepted q.outcome ≡ false → Step s (try m k) q
step-stops {s} {m} k q h z = record { is = same q.outcome z ∙ ap (λ (y : Res (System × Result)). try y k) h.is; stays = h.stays; stored = h.stored; sound = h.sound }
  where
    same : (a : Outcome) → is_accepted a ≡ false → served_with (system_in q.state) (outcome_of a) ≡ try (served_with (system_in q.state) (outcome_of a)) k
    same = only-refused (λ (a : Outcome). served_with (system_in q.state) (outcome_of a) ≡ try (served_with (system_in q.state) (outcome_of a)) k) (λ e. refl)

-- nothing is done
pub step-nothing : (s : State) → Sound s → Step s (ok (system_in s, nothing)) (record { outcome = Ok Nothing; state = s })
step-nothing s h = record { is = refl; stays = λ e y. refl; stored = stored-self s h; sound = h }

pub went-self : (s : State) → Went s s
went-self s = record { cells = omega arith; places = omega arith; calls = refl }

-- nor do the bytes of the types count
went-types : (s : State) (t : List ℕ) → Went s (with_types s t)
went-types s t = record { cells = omega arith; places = omega arith; calls = refl }

pub went_on : (s s₁ s₂ : State) → Went s s₁ → Went s₁ s₂ → Went s s₂
went_on s s₁ s₂ h k = record { cells = omega (arith, h.cells, k.cells); places = omega (arith, h.places, k.places); calls = k.calls ∙ h.calls }

pub went-counted : {s s' : State} → Went s s' → s'.calls.count ≡ s.calls.count
went-counted {s} {s'} w = sym (calls-length s'.calls) ∙ ap length w.calls ∙ calls-length s.calls

-- ---- Sending a reference.
-- where there is a place and a type, a cell by any number leads to one, by one
pub any-cell : (s : State) → Sound s → 0 < s.places.count → 0 < s.counts.types → (k : ℕ) → CellIn s (get_or (cells_in s.cells) k no_cell)
any-cell s h p t k = go (lt-or-ge k s.cells.count)
  where
    go : (k < s.cells.count) ⊎ (s.cells.count ≤ k) → CellIn s (get_or (cells_in s.cells) k no_cell)
    go (inl l) = h.cells k l
    go (inr l) =
        let n : length (cells_in s.cells) ≡ s.cells.count = cells-length s.cells in
        subst (CellIn s) (sym (get_or-eq_default (cells_in s.cells) no_cell {n = k} (omega arith))) (record { type = t; place = p })

-- what a new cell leaves of the counts
went-by : (s q : State) (x : System) → system_in q ≡ x → length (system_in s).cells ≤ length x.cells → s.places.count ≤ length x.places → x.calls ≡ (system_in s).calls
    → Went s q
went-by s q x e c p j =
    let c₀ : length (system_in s).cells ≡ s.cells.count = (means-counted s).cells in
    let c₁ : length x.cells ≡ q.cells.count = sym (ap (λ (y : System). length y.cells) e) ∙ (means-counted q).cells in
    let p₁ : length x.places ≡ q.places.count = sym (ap (λ (y : System). length y.places) e) ∙ (means-counted q).places in
    record {
      cells = omega arith;
      places = omega arith;
      calls = sym (calls_are q) ∙ ap (λ (y : System). y.calls) e ∙ j ∙ calls_are s;
    }

pub added_goes : (s : State) (r : ℕ) (f : Reference) → s.places.count ≤ length f.places → (q : Served) → Step s (add_cell (system_in s) r f) q → Went s q.state
unfolding add_cell
added_goes s r f more q k = go q.outcome refl (ltb (length (system_in s).cells) max_cells) k.is
  where
    new : System × Result
    new = (with_cell (system_in s) r f, pair (length (system_in s).cells) f.place)

    left : (b : Bool) → system_in q.state ≡ after (system_in s) (need b cells_full (λ _. ok new)) → Went s q.state
    left true e = went-by s q.state new.0 e (omega (arith, length-append (system_in s).cells (record { holder = r; type = f.type; place = f.place } ∷ []))) more refl
    left false e =
        went-by s q.state (system_in s) e (omega arith) (let p : length (system_in s).places ≡ s.places.count = (means-counted s).places in omega arith) refl

    go : (a : Outcome) → q.outcome ≡ a → (b : Bool) → served_with (system_in q.state) (outcome_of a) ≡ need b cells_full (λ _. ok new) → Went s q.state
    go (Ok a) z b e = left b (ap (after (system_in s)) e)
    go (Err d) z b e = subst (Went s) (sym (k.stays d z)) (went-types s q.state.types)

module _ (s : State) (h : Sound s) (r k : ℕ) (c : Cell) (is : cell_of c ≡ get_or (cells_in s.cells) k no_cell) (inside : CellIn s (get_or (cells_in s.cells) k no_cell)) (ts : List (Option ℕ))
    (ty place : ℕ) (type-is : ty ≡ c.ty) (place_is : place ≡ c.place) where
  type-at : ty ≡ (get_or (cells_in s.cells) k no_cell).type
  type-at = type-is ∙ ap (λ (x : Cellᵐ). x.type) is

  place-at : place ≡ (get_or (cells_in s.cells) k no_cell).place
  place-at = place_is ∙ ap (λ (x : Cellᵐ). x.place) is

  pub send-ready : Ready s.links s.counts s.types → Ready s.links s.counts s.types × PlaceKnown s.places place
  send-ready g = (g, record { descending = h.descending; place = subst (λ (n : ℕ). n < s.places.count) (sym place-at) inside.place })

  abbrev From : Reference
  From = reference (table_in s.types s.links s.counts) (places_in s.places) ty place

  leaving-is : leaving (system_in s) k ≡ From
  leaving-is =
      ap (λ (x : System). leaving x k) (system-is s)
      ∙ ap (λ (n : ℕ). reference (table_in s.types s.links s.counts) (places_in s.places) n (get_or (cells_in s.cells) k no_cell).place) (sym type-at)
      ∙ ap (λ (n : ℕ). reference (table_in s.types s.links s.counts) (places_in s.places) ty n) (sym place-at)

  module _ (b : List ℕ) (y : Either Crossed Refusal) (crossed : crossed_of b s.links s.counts y ≡ cross_layers true From r ts) (leaves : Leaves s.counts s.places ty s.types b y) where
    abbrev Adds : Res Reference → Res (System × Result)
    Adds z = try z (λ f. add_cell (system_in s) r f)

    send-is : send (system_in s) r k ts ≡ Adds (crossed_of b s.links s.counts y)
    unfolding send
    send-is = ap (λ (f : Reference). try (cross_layers true f r ts) (λ g. add_cell (system_in s) r g)) leaving-is ∙ ap Adds (sym crossed)

    pub send-refused : (e : Refusal) → y ≡ Err e → (q : Served) → q ≡ refusal (with_types s b) e → Step s (send (system_in s) r k ts) q × Went s q.state
    send-refused e z q u = (
      refuses-kept h leaves.long leaves.kept (send-is ∙ ap (λ (o : Either Crossed Refusal). Adds (crossed_of b s.links s.counts o)) z) u,
      subst (λ (o : Served). Went s o.state) (sym u) (went-types s b),
    )

    module _ (x : Crossed) (z : y ≡ Ok x) where
      came : Came s.counts s.places ty b x
      came = IfOk-at_ok (λ (o : Crossed). Came s.counts s.places ty b o) z leaves.came

      pub send-arrives : Arrives s b x.types x.places x.ty x.place
      send-arrives = record {
        sound = h;
        long = leaves.long;
        grew = came.types;
        kept = leaves.kept;
        descending = came.descending;
        typed = came.typed h.typed;
        more = came.before.more;
        ty = came.ty (subst (λ (n : ℕ). n < s.counts.types) (sym type-at) inside.type);
        place = came.place;
      }

      pub send-adds : (q : Served) → Step s (add_cell (system_in s) r (arrived s b x.types x.places x.ty x.place)) q → Step s (send (system_in s) r k ts) q × Went s q.state
      send-adds q g = (
        step-as (send-is ∙ ap (λ (o : Either Crossed Refusal). Adds (crossed_of b s.links s.counts o)) z) g,
        added_goes s r (arrived s b x.types x.places x.ty x.place) (let n : length (places_in x.places) ≡ x.places.count = places-length x.places in let m = came.before.more in omega arith) q g,
      )

-- ---- One argument.
module _ (s : State) (h : Sound s) (r : ℕ) (ls : List ℕ) (m i a : ℕ) (v : ℤ) (ts : List (Option ℕ))
    (are : (l : List ℕ) → ts ≡ map (argument_at (table_in s.types l s.counts) m i) ls) (q : Bool)
    (kind : q ≡ ref_in s.counts.types s.types a) where
  abbrev Either-by : Bool → List (Option ℕ) → Table → Res (System × Result)
  Either-by y os t = elim y [ true ↦ send (system_in s) r (named v) os | false ↦ try (pass_layers true t v os) λ _. ok (system_in s, nothing) ]

  argument_is : send_argument (system_in s) r ls m i a v ≡ Either-by q ts (table_in s.types s.links s.counts)
  argument_is =
      ap (λ (t : Table). Either-by (is_ref (type_at t a).rep) (map (argument_at t m i) ls) t) (table_is s)
      ∙ ap (λ (y : Bool). Either-by y (map (argument_at (table_in s.types s.links s.counts) m i) ls) (table_in s.types s.links s.counts))
      (ref-table s.types s.links s.counts a ∙ sym kind)
      ∙ ap (λ (os : List (Option ℕ)). Either-by q os (table_in s.types s.links s.counts)) (sym (are s.links))

  abbrev Goes : Served → Type 0
  Goes y = Step s (send_argument (system_in s) r ls m i a v) y × Went s y.state

  pub argument-sent : q ≡ true → (y : Served) → Step s (send (system_in s) r (named v) ts) y × Went s y.state → Goes y
  argument-sent z y k = (
    step-as (argument_is ∙ ap (λ (w : Bool). Either-by w ts (table_in s.types s.links s.counts)) z) k.0,
    k.1,
  )

  module _ (z : q ≡ false) (e : Either (Unit {0}) Refusal) (passed : (l : List ℕ) → passed_of e ≡ pass_layers true (table_in s.types l s.counts) v ts) where
    abbrev Passed : Either (Unit {0}) Refusal → Res (System × Result)
    Passed y = try (passed_of y) λ _. ok (system_in s, nothing)

    number_is : send_argument (system_in s) r ls m i a v ≡ Passed e
    number_is = argument_is ∙ ap (λ (w : Bool). Either-by w ts (table_in s.types s.links s.counts)) z
        ∙ ap (λ (y : Res (Unit {0})). try y (λ _. ok (system_in s, nothing))) (sym (passed s.links))

    pub number-refused : (d : Refusal) → e ≡ Err d → (y : Served) → y ≡ refusal s d → Goes y
    number-refused d w y u = (refuses h (number_is ∙ ap Passed w) u, subst (λ (k : Served). Went s k.state) (sym u) (went-self s))

    pub number-passes : (u : Unit {0}) → e ≡ Ok u → Goes (record { outcome = Ok Nothing; state = s })
    number-passes u w = (
      step-as (number_is ∙ ap Passed w) (step-nothing s h),
      went-self s,
    )

-- ---- All arguments.
send-step : (s : System) (r : ℕ) (ls : List ℕ) (m i a : ℕ) (xs : List ℕ) (v : ℤ) (vs : List ℤ) →
    send_arguments s r ls m i (a ∷ xs) (v ∷ vs) ≡ try (send_argument s r ls m i a v) (λ x. send_arguments x.0 r ls m (suc i) xs vs)
unfolding send_arguments
send-step s r ls m i a xs v vs = go (is_ref (type_at s.table a).rep)
  where
    ts : List (Option ℕ)
    ts = map (argument_at s.table m i) ls

    rest : System → Res System
    rest x = send_arguments x r ls m (suc i) xs vs

    number : (y : Res (Unit {0})) → try y (λ _. rest s) ≡ try {A = System × Result} (try y (λ _. ok (s, nothing))) (λ x. rest x.0)
    number (refuse e) = refl
    number (ok u) = refl

    go : (y : Bool) → ◌≡◌ {A = Res System} (elim y [ true ↦ try (send s r (named v) ts) (λ x. rest x.0) | false ↦ try (pass_layers true s.table v ts) λ _. rest s ])
        (try {A = System × Result} (elim y [ true ↦ send s r (named v) ts | false ↦ try (pass_layers true s.table v ts) λ _. ok (s, nothing) ]) (λ x. rest x.0))
    go true = refl
    go false = number (pass_layers true s.table v ts)

sent-over : (s : System) (r : ℕ) (ls : List ℕ) (m i : ℕ) (vs : List ℤ) → send_arguments s r ls m i [] vs ≡ ok s
unfolding send_arguments
sent-over s r ls m i vs = refl

sent-all : (s : System) (r : ℕ) (ls : List ℕ) (m i : ℕ) (xs : List ℕ) → send_arguments s r ls m i xs [] ≡ ok s
unfolding send_arguments
sent-all s r ls m i [] = refl
sent-all s r ls m i (a ∷ xs) = refl

-- ---- The numbers in front of the first reference.
number-first : (s : System) (r : ℕ) (ls : List ℕ) (m i a : ℕ) (xs : List ℕ) (v : ℤ) (vs : List ℤ) → is_ref (type_at s.table a).rep ≡ false →
    send_arguments s r ls m i (a ∷ xs) (v ∷ vs) ≡ try (pass_layers true s.table v (map (argument_at s.table m i) ls)) (λ _. send_arguments s r ls m (suc i) xs vs)
unfolding send_arguments
number-first s r ls m i a xs v vs e = ap Kind e
  where
    Kind : Bool → Res System
    Kind y = elim y [
      | true ↦ try (send s r (named v) (map (argument_at s.table m i) ls)) λ x. send_arguments x.0 r ls m (suc i) xs vs
      | false ↦ try (pass_layers true s.table v (map (argument_at s.table m i) ls)) λ _. send_arguments s r ls m (suc i) xs vs
    ]

module _ (s : System) (r : ℕ) (ls : List ℕ) (m : ℕ) (xs : List ℕ) (vs : List ℤ) where
  -- all arguments come to what those from i on come to
  abbrev pub NumbersRest : ℕ → Type 0
  NumbersRest i = send_arguments s r ls m i (drop i xs) (drop i vs) ≡ send_arguments s r ls m 0 xs vs

  module _ (i : ℕ) (w : NumbersRest i) where
    pub numbers-over : drop i xs ≡ [] → send_arguments s r ls m 0 xs vs ≡ ok s
    numbers-over e = sym w ∙ ap (λ (ys : List ℕ). send_arguments s r ls m i ys (drop i vs)) e ∙ sent-over s r ls m i (drop i vs)

    pub numbers-end : drop i vs ≡ [] → send_arguments s r ls m 0 xs vs ≡ ok s
    numbers-end e = sym w ∙ ap (send_arguments s r ls m i (drop i xs)) e ∙ sent-all s r ls m i (drop i xs)

    module _ (a : ℕ) (some : drop i xs ≡ a ∷ drop (i + 1) xs) (v : ℤ) (more : drop i vs ≡ v ∷ drop (i + 1) vs) (number : is_ref (type_at s.table a).rep ≡ false)
        (e : Either (Unit {0}) Refusal) (passed : passed_of e ≡ pass_layers true s.table v (map (argument_at s.table m i) ls)) where
      abbrev Behind : Either (Unit {0}) Refusal → Res System
      Behind y = try (passed_of y) λ _. send_arguments s r ls m (suc i) (drop (i + 1) xs) (drop (i + 1) vs)

      numbers-are : send_arguments s r ls m 0 xs vs ≡ Behind e
      numbers-are =
          sym w ∙ ap (λ (ys : List ℕ). send_arguments s r ls m i ys (drop i vs)) some ∙ ap (send_arguments s r ls m i (a ∷ drop (i + 1) xs)) more
          ∙ number-first s r ls m i a (drop (i + 1) xs) v (drop (i + 1) vs) number
          ∙ ap (λ (y : Res (Unit {0})). try y (λ _. send_arguments s r ls m (suc i) (drop (i + 1) xs) (drop (i + 1) vs))) (sym passed)

      pub numbers-stop : (d : Refusal) → e ≡ Err d → send_arguments s r ls m 0 xs vs ≡ refuse (refusal_number d)
      numbers-stop d z = numbers-are ∙ ap Behind z

      pub numbers-next : (u : Unit {0}) → e ≡ Ok u → NumbersRest (i + 1)
      numbers-next u z = ap (λ (n : ℕ). send_arguments s r ls m n (drop (i + 1) xs) (drop (i + 1) vs)) (add-one i) ∙ sym (numbers-are ∙ ap Behind z)

-- the state of which the lent types and the counts are part has their table
module _ (s : State) (b : List ℕ) (c : Counts) (t : s.types ≡ b) (n : s.counts ≡ c) where
  pub table-of : (system_in s).table ≡ table_in b s.links c
  table-of = table_is s ∙ ap (λ (x : List ℕ). table_in x s.links s.counts) t ∙ ap (table_in b s.links) n

  pub number_of : (a : ℕ) (q : Bool) → q ≡ ref_in c.types b a → q ≡ false → is_ref (type_at (system_in s).table a).rep ≡ false
  number_of a q is z = ap (λ (x : Table). is_ref (type_at x a).rep) table-of ∙ ref-table b s.links c a ∙ sym is ∙ z

  pub passed-of : (e : Either (Unit {0}) Refusal) (m i : ℕ) (v : ℤ) (ls : List ℕ) (ts : List (Option ℕ)) → ((l : List ℕ) → ts ≡ map (argument_at (table_in b l c) m i) ls) →
      ((l : List ℕ) → passed_of e ≡ pass_layers true (table_in b l c) v ts) → passed_of e ≡ pass_layers true (system_in s).table v (map (argument_at (system_in s).table m i) ls)
  passed-of e m i v ls ts are is =
      is s.links ∙ ap (pass_layers true (table_in b s.links c) v) (are s.links) ∙ ap (λ (x : Table). pass_layers true x v (map (argument_at x m i) ls)) (sym table-of)

module _ (s₀ : State) (r : ℕ) (ls : List ℕ) (m : ℕ) (xs : List ℕ) (vs : List ℤ) where
  abbrev All : Res (System × Result)
  All = all_sent (send_arguments (system_in s₀) r ls m 0 xs vs)

  abbrev Rest : System → ℕ → List ℕ → List ℤ → Res (System × Result)
  Rest s i ys us = all_sent (send_arguments s r ls m i ys us)

  -- all arguments are sent as those from i on, by the state as it has become
  pub record Sends (s : State) (i : ℕ) : Type 0 where
    pub sound : Sound s
    pub stored : Stored s₀ s
    pub went : Went s₀ s
    pub rest : Rest (system_in s) i (drop i xs) (drop i vs) ≡ All

  abbrev Done : Served → Type 0
  Done q = Sent s₀ All q

  module _ (s : State) (i : ℕ) (w : Sends s i) where
    done : Rest (system_in s) i (drop i xs) (drop i vs) ≡ ok (system_in s, nothing) → Done (record { outcome = Ok Nothing; state = s })
    done e = record { is = sym e ∙ w.rest; stored = w.stored; sound = w.sound; went = w.went }

    pub sends-over : drop i xs ≡ [] → Done (record { outcome = Ok Nothing; state = s })
    sends-over e = done (ap (λ (ys : List ℕ). Rest (system_in s) i ys (drop i vs)) e ∙ ap all_sent (sent-over (system_in s) r ls m i (drop i vs)))

    pub sends-end : drop i vs ≡ [] → Done (record { outcome = Ok Nothing; state = s })
    sends-end e = done (ap (Rest (system_in s) i (drop i xs)) e ∙ ap all_sent (sent-all (system_in s) r ls m i (drop i xs)))

    module _ (a : ℕ) (some : drop i xs ≡ a ∷ drop (i + 1) xs) (v : ℤ) (more : drop i vs ≡ v ∷ drop (i + 1) vs)
        (q : Served) (k : Step s (send_argument (system_in s) r ls m i a v) q) (g : Went s q.state) where
      abbrev After : System → Res System
      After x = send_arguments x r ls m (suc i) (drop (i + 1) xs) (drop (i + 1) vs)

      go_on : All ≡ all_sent (try (served_as q) (λ x. After x.0))
      go_on =
          sym w.rest ∙ ap (λ (ys : List ℕ). Rest (system_in s) i ys (drop i vs)) some ∙ ap (Rest (system_in s) i (a ∷ drop (i + 1) xs)) more
          ∙ ap all_sent (send-step (system_in s) r ls m i a (drop (i + 1) xs) v (drop (i + 1) vs) ∙ ap (λ (y : Res (System × Result)). try y (λ x. After x.0)) (sym k.is))

      pub sends-stop : (e : Refusal) → q.outcome ≡ Err e → Done (record { outcome = Err e; state = q.state })
      sends-stop e z = record {
        is = sym (go_on ∙ ap (λ (o : Outcome). all_sent (try (served_with (system_in q.state) (outcome_of o)) (λ x. After x.0))) z);
        stored = stored_on s₀ s q.state w.stored k.stored;
        sound = k.sound;
        went = went_on s₀ s q.state w.went g;
      }

      pub sends-next : (y : Answer) → q.outcome ≡ Ok y → Sends q.state (i + 1)
      sends-next y z = record {
        sound = k.sound;
        stored = stored_on s₀ s q.state w.stored k.stored;
        went = went_on s₀ s q.state w.went g;
        rest = ap (λ (n : ℕ). Rest (system_in q.state) n (drop (i + 1) xs) (drop (i + 1) vs)) (add-one i)
            ∙ sym (go_on ∙ ap (λ (o : Outcome). all_sent (try (served_with (system_in q.state) (outcome_of o)) (λ x. After x.0))) z);
      }
