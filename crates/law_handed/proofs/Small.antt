-- The numbers of an answer are small: a refusal is one of the rules', and not 0; a cell is one of the state that is left, with its place; a call has the count of calls before it,
-- and of adapters there are no more than places.
use mathlib.Core.Path.{◌≡◌, refl, ap, subst}
use mathlib.Core.Logic.{◌⊎◌, inl, inr}
use mathlib.Core.Bool.{Bool, true, false, So, not, ◌&&◌, ◌||◌, cond}
use mathlib.Core.List.{List, [], ◌∷◌, ◌++◌, map, reverse}
use mathlib.Core.Option.{Option, none, some}
use Prim.Native.Nat.{ℕ, zero, suc, ◌≤◌, ◌<◌}
use native.Mathlib.Omega.{arith}
use lib.Dec.{eqb, ltb}
use lib.IntN.{ℤ}
use lib.ListN.{length, length-append}
use lib.Seq.{get_or_at}
use Rattle.spec_model.specs.Basics.{Res, refuse, ok, try, need, names, named}
use Rattle.spec_model.specs.Table.{Rep, ref, w32, w64, Table, Kind, type_at, method_at, argument_at, answer_at, is_ref, is_avail, is_class, sub, closed, max_types}
use Rattle.spec_model.specs.Relations.{related, conforms, strict, free, loose, subtype}
use Rattle.spec_model.specs.Restriction.{derive, derived}
use Rattle.spec_model.specs.Crossing.{Place, object, adapter, place_at, place_type, base_of, base_owner, max_places, Reference, adapt, cross}
use Rattle.spec_model.specs.Requests.{Cell, System, Request, new, move, call, answer, Result, pair, number, nothing, Outcome, got, refused, no_cell, held, is_sheet_ref, add_cell, new_request}
use Rattle.spec_model.specs.Requests.{move_request, layers, at_layer, renumber, cross_layers, within, pass_layers, send, arguments_held, send_arguments, call_request, with_answer, give, answer_request}
use Rattle.spec_model.specs.Requests.{serve, leaving, cell_at, call_at, call_layers, max_cells, max_calls_each, made_by}
use Rattle.spec_model.specs.Check.{RawSystem, system_of, system_accepted}
use Rattle.spec_model.specs.Handed.{hand_back, serve_handed}
use Rattle.spec_model.specs.Refusals.{out_of_range, unknown_subject, not_held, unknown_type, unrelated, not_owner, not_strict, types_full, places_full, cells_full, not_callable, wrong_values, too_wide}
use Rattle.spec_model.specs.Refusals.{answered_already, calls_full, later_layer}

-- a refusal's number: never 0, which says that all went well
abbrev pub Number : ℕ → Type 0
Number e = (0 < e) × (e < 256)

-- A refusal is one of the rules'; what is given is as `Q` says.
abbrev pub Small : {A : Type 0} → (A → Type 0) → Res A → Type 0
Small Q (refuse e) = Number e
Small Q (ok a) = Q a

abbrev any : {A : Type 0} → A → Type 0
any a = Unit {0}

small-need : {B : Type 0} (Q : B → Type 0) (q : Bool) (e : ℕ) (k : Unit {0} → Res B) → Number e → (So q → Small Q (k tt)) → Small Q (need q e k)
small-need Q true e k h g = g refl
small-need Q false e k h g = h

small-try : {A B : Type 0} (P : A → Type 0) (Q : B → Type 0) (x : Res A) (k : A → Res B) → Small P x → ((a : A) → P a → Small Q (k a)) → Small Q (try x k)
small-try P Q (refuse e) k h g = h
small-try P Q (ok a) k h g = g a h

small-if : {A : Type 0} (Q : A → Type 0) (q : Bool) (x y : Res A) → Small Q x → Small Q y → Small {A = A} Q (elim q [ true ↦ x | false ↦ y ])
small-if Q true x y h g = h
small-if Q false x y h g = g

-- ---- Crossings.
small-derived : (t : Table) (d : Kind) (l r : ℕ) → Small any (derived t d l r)
unfolding derived
small-derived t d l r = go (derive max_types t d l r)
  where
    go : (o : Option (Table × ℕ)) → Small {A = Table × ℕ} any (elim o [ none ↦ refuse types_full | some p ↦ ok p ])
    go none = (omega arith, omega arith)
    go (some p) = tt

small-adapt : (t : Table) (ps : List Place) (to r p : ℕ) → Small any (adapt t ps to r p)
unfolding adapt
small-adapt t ps to r p = small-if any (related conforms t r (place_type (place_at ps p))) _ _ tt
    (small-need any (related strict t r (place_type (place_at ps p))) not_strict _ (omega arith, omega arith) λ _.
    small-try any any (derived t closed r (place_type (place_at ps p))) _ (small-derived t closed r (place_type (place_at ps p))) λ x _.
    small-need any (ltb (length ps) max_places) places_full _ (omega arith, omega arith) λ _. tt)

small-cross : (f : Reference) (to r : ℕ) → Small any (cross f to r)
unfolding cross
small-cross f to r = small-if any (type_at f.table to).own _ _
    (small-need any (related free f.table to f.type) unrelated _ (omega arith, omega arith) λ _.
    small-need any (eqb r (base_owner f.places f.place)) not_owner _ (omega arith, omega arith) λ _.
    small-adapt f.table f.places to to (base_of f.places f.place))
    (small-need any (related loose f.table to f.type) unrelated _ (omega arith, omega arith) λ _.
    small-if any (related subtype f.table to f.type) _ _ tt
    (small-try any any (derived f.table sub to f.type) _ (small-derived f.table sub to f.type) λ x _. small-adapt x.0 f.places to x.1 f.place))

small-layer : (first : Bool) (e : ℕ) → Number e → Number (at_layer first e)
small-layer true e h = h
small-layer false e h = go (eqb e unrelated || eqb e not_strict)
  where
    go : (q : Bool) → Number (cond q later_layer e)
    go true = (omega arith, omega arith)
    go false = h

small-renumber : (first : Bool) (x : Res Reference) → Small any x → Small any (renumber first x)
small-renumber first (refuse e) h = small-layer first e h
small-renumber first (ok a) h = tt

small-layers : (first : Bool) (f : Reference) (r : ℕ) (ts : List (Option ℕ)) → Small any (cross_layers first f r ts)
unfolding cross_layers
small-layers first f r [] = tt
small-layers first f r (none ∷ ts) = small-layer first unrelated (omega arith, omega arith)
small-layers first f r (some t ∷ ts) = small-try any any (renumber first (cross f t r)) _ (small-renumber first (cross f t r) (small-cross f t r)) λ g _. small-layers false g r ts

small-pass : (first : Bool) (t : Table) (v : ℤ) (ts : List (Option ℕ)) → Small any (pass_layers first t v ts)
unfolding pass_layers
small-pass first t v [] = tt
small-pass first t v (none ∷ ts) = small-layer first unrelated (omega arith, omega arith)
small-pass first t v (some a ∷ ts) = go (type_at t a).rep (small-pass false t v ts)
  where
    go : (r : Rep) → Small any (pass_layers false t v ts) → Small {A = Unit {0}} any (elim r [
      | ref ↦ refuse (at_layer first unrelated)
      | w32 ↦ need (within 2147483648 v) too_wide λ _. pass_layers false t v ts
      | w64 ↦ pass_layers false t v ts
    ])
    go ref h = small-layer first unrelated (omega arith, omega arith)
    go w32 h = small-need any (within 2147483648 v) too_wide _ (omega arith, omega arith) λ _. h
    go w64 h = h

-- ---- The numbers given.
-- a cell of the state that is left, with its place; or the next call of the state that there was, with adapters of it
abbrev pub Named : System → System → Result → Type 0
Named s s' (pair a b) = ((a < length s'.cells) × ((cell_at s' a).place ≡ b)) ⊎ ((a ≡ length s.calls) × (b ≤ length s.places))
Named s s' (number v) = Unit {0}
Named s s' nothing = Unit {0}

layers-few : (f : ℕ) (ps : List Place) (p : ℕ) → length (layers f ps p) ≤ f
unfolding layers
layers-few zero ps p = omega arith
layers-few (suc f) ps p = go (place_at ps p) (λ q. layers-few f ps q)
  where
    go : (x : Place) → ((q : ℕ) → length (layers f ps q) ≤ f) → length {A = ℕ} (elim x [ object c o ↦ c ∷ [] | adapter b c ↦ c ∷ layers f ps b ]) ≤ suc f
    go (object c o) h = omega arith
    go (adapter b c) h = let l : length (layers f ps b) ≤ f = h b in omega arith

-- ---- The requests.
module _ (s₀ : System) where
  abbrev Q : System × Result → Type 0
  Q x = Named s₀ x.0 x.1

  small-cell : (s : System) (r : ℕ) (f : Reference) → Small Q (add_cell s r f)
  unfolding add_cell
  small-cell s r f = small-need Q (ltb (length s.cells) max_cells) cells_full _ (omega arith, omega arith) λ room.
      let c : Cell = record { holder = r; type = f.type; place = f.place } in
      inl (omega (arith, length-append s.cells (c ∷ [])), ap (λ (x : Cell). x.place) (get_or_at s.cells c [] no_cell (length s.cells) refl))

  small-send : (s : System) (r k : ℕ) (ts : List (Option ℕ)) → Small Q (send s r k ts)
  unfolding send
  small-send s r k ts = small-try any Q (cross_layers true (leaving s k) r ts) _ (small-layers true (leaving s k) r ts) λ f _. small-cell s r f

  small-arguments : (s : System) (r : ℕ) (ls : List ℕ) (m i : ℕ) (xs : List ℕ) (vs : List ℤ) → Small any (send_arguments s r ls m i xs vs)
  unfolding send_arguments
  small-arguments s r ls m i [] vs = tt
  small-arguments s r ls m i (a ∷ xs) [] = tt
  small-arguments s r ls m i (a ∷ xs) (v ∷ vs) =
      let ts : List (Option ℕ) = map (argument_at s.table m i) ls in
      small-if any (is_ref (type_at s.table a).rep) _ _
      (small-try Q any (send s r (named v) ts) _ (small-send s r (named v) ts) λ x _. small-arguments x.0 r ls m (suc i) xs vs)
      (small-try any any (pass_layers true s.table v ts) _ (small-pass true s.table v ts) λ _ _. small-arguments s r ls m (suc i) xs vs)

  answered-named : (s : System) (j : ℕ) (x : Result) → Named s₀ s x → Named s₀ (with_answer s j) x
  answered-named s j (pair a b) h = h
  answered-named s j (number v) h = h
  answered-named s j nothing h = h

module _ (s : System) where
  small-new : (subject class to : ℤ) → Small (Q s) (new_request s subject class to)
  unfolding new_request
  small-new subject class to =
      let f : Reference = record { table = s.table; places = s.places ++ (object (named class) (named subject) ∷ []); type = named class; place = length s.places } in
      small-need (Q s) (names subject s.table.subjects) unknown_subject _ (omega arith, omega arith) λ _.
      small-need (Q s) (names class s.table.sheet && is_class (type_at s.table (named class))) unknown_type _ (omega arith, omega arith) λ _.
      small-need (Q s) (is_sheet_ref s.table to) unknown_type _ (omega arith, omega arith) λ _.
      small-need (Q s) (ltb (length s.places) max_places) places_full _ (omega arith, omega arith) λ _.
      small-try any (Q s) (cross f (named to) (named subject)) _ (small-cross f (named to) (named subject)) λ g _. small-cell s s (named subject) g

  small-move : (subject k receiver to : ℤ) → Small (Q s) (move_request s subject k receiver to)
  unfolding move_request
  small-move subject k receiver to =
      small-need (Q s) (names subject s.table.subjects && names receiver s.table.subjects) unknown_subject _ (omega arith, omega arith) λ _.
      small-need (Q s) (held s subject k) not_held _ (omega arith, omega arith) λ _.
      small-need (Q s) (is_sheet_ref s.table to) unknown_type _ (omega arith, omega arith) λ _.
      small-try any (Q s) (cross (leaving s (named k)) (named to) (named receiver)) _ (small-cross (leaving s (named k)) (named to) (named receiver)) λ g _. small-cell s s (named receiver) g

  small-call : (subject k m : ℤ) (vs : List ℤ) → Small (Q s) (call_request s subject k m vs)
  unfolding call_request
  small-call subject k m vs =
      let c = cell_at s (named k) in
      let xs = (method_at s.table c.type (named m)).args in
      small-need (Q s) (names subject s.table.subjects) unknown_subject _ (omega arith, omega arith) λ _.
      small-need (Q s) (held s subject k) not_held _ (omega arith, omega arith) λ _.
      small-need (Q s) (names m s.table.methods && is_avail (method_at s.table c.type (named m)).state) not_callable _ (omega arith, omega arith) λ _.
      small-need (Q s) (arguments_held s subject xs vs) wrong_values _ (omega arith, omega arith) λ _.
      small-need (Q s) (ltb (made_by (named subject) s.calls) max_calls_each) calls_full _ (omega arith, omega arith) λ _.
      small-try any (Q s) (send_arguments s (base_owner s.places c.place) (call_layers s c) (named m) 0 xs vs) _
      (small-arguments s s (base_owner s.places c.place) (call_layers s c) (named m) 0 xs vs) λ x _.
      let few = layers-few (length s.places) s.places c.place in
      inr (refl, omega (arith, few))

  small-give : (subject : ℤ) (j : ℕ) (due : Option ℕ) (v : Option ℤ) → Small (Q s) (give s subject j due v)
  unfolding give
  small-give subject j none none = tt
  small-give subject j none (some v) = (omega arith, omega arith)
  small-give subject j (some a) none = (omega arith, omega arith)
  small-give subject j (some a) (some v) =
      let ts : List (Option ℕ) = reverse (map (answer_at s.table (call_at s j).method) (call_layers s (cell_at s (call_at s j).cell))) in
      small-if (Q s) (is_ref (type_at s.table a).rep) _ _
      (small-need (Q s) (held s subject v) wrong_values _ (omega arith, omega arith) λ _.
      small-try (Q s) (Q s) (send s (call_at s j).caller (named v) ts) _ (small-send s s (call_at s j).caller (named v) ts) λ x h. answered-named s x.0 j x.1 h)
      (small-try any (Q s) (pass_layers true s.table v ts) _ (small-pass true s.table v ts) λ _ _. tt)

  small-answer : (subject j : ℤ) (v : Option ℤ) → Small (Q s) (answer_request s subject j v)
  unfolding answer_request
  small-answer subject j v =
      small-need (Q s) (names subject s.table.subjects) unknown_subject _ (omega arith, omega arith) λ _.
      small-need (Q s) (names j (length s.calls) && eqb (named subject) (base_owner s.places (cell_at s (call_at s (named j)).cell).place)) not_held _ (omega arith, omega arith) λ _.
      small-need (Q s) (not (call_at s (named j)).answered) answered_already _ (omega arith, omega arith) λ _.
      small-give subject (named j) (answer_at s.table (call_at s (named j)).method (cell_at s (call_at s (named j)).cell).type) v

  pub small-serve : (q : Request) → Small (λ (x : System × Result). Named s x.0 x.1) (serve s q)
  unfolding serve
  small-serve (new a b c) = small-new a b c
  small-serve (move a b c d) = small-move a b c d
  small-serve (call a b c vs) = small-call a b c vs
  small-serve (answer a b v) = small-answer a b v

-- What is refused on a state handed in has a number: 2, or one of the request's.
pub refusal-number : (r : RawSystem) (q : Request) (e : ℕ) → (serve_handed r q).outcome ≡ refused e → Number e
unfolding serve_handed
refusal-number r q e h = go (system_accepted r) h
  where
    number_in : Outcome → ℕ
    number_in (refused n) = n
    number_in (got x) = 1

    of : (m : Res (System × Result)) → Small (λ (x : System × Result). Named (system_of r) x.0 x.1) m → (hand_back r m).outcome ≡ refused e → Number e
    of (refuse n) k p = subst Number (ap number_in p) k
    of (ok x) k p = let z : 1 ≡ e = ap number_in p in (omega arith, omega arith)

    go : (b : Bool) → (hand_back r (need b out_of_range λ _. serve (system_of r) q)).outcome ≡ refused e → Number e
    go true p = of (serve (system_of r) q) (small-serve (system_of r) q) p
    go false p = subst Number (ap number_in p) (omega arith, omega arith)
