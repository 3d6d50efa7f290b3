-- No layer of a call or an answer unwraps, in a state that passes the check: neither request is refused with 9 (C13). The types that a value crosses to stand in
-- signatures of types that were there before; those name no own type, and they stay as they were while the table grows on the way.
use mathlib.Core.Path.{◌≡◌, refl, sym, subst}
use mathlib.Core.Logic.{◌≢◌}
use mathlib.Core.Bool.{Bool, true, false, not, ◌&&◌, ◌||◌, cond, So}
use mathlib.Core.List.{List, [], ◌∷◌, ◌++◌, map, reverse, reverse_aux}
use mathlib.Core.Option.{Option, none, some}
use Prim.Native.Nat.{ℕ, zero, suc, ◌<◌}
use native.Mathlib.Omega.{arith}
use lib.Dec.{eqb, ltb}
use lib.IntN.{ℤ}
use lib.ListN.{length, get_elem?}
use Rattle.spec_model.specs.Basics.{Res, refuse, ok, try, need, names, named, AllBelow}
use Rattle.spec_model.specs.Table.{Rep, ref, w32, w64, Kind, sub, closed, Table, max_types, size, type_at, method_at, argument_at, answer_at, is_ref, is_avail}
use Rattle.spec_model.specs.Relations.{conforms, strict, loose, free, subtype, related}
use Rattle.spec_model.specs.Restriction.{derive, derived}
use Rattle.spec_model.specs.Crossing.{Place, adapter, max_places, place_type, place_at, base_of, base_owner, Reference, adapt, cross}
use Rattle.spec_model.specs.Requests.{System, max_cells, max_calls_each, made_by, Result, number, cell_at, call_at, held, leaving, add_cell, call_layers, at_layer, renumber}
use Rattle.spec_model.specs.Requests.{cross_layers, within, pass_layers, send, arguments_held, send_arguments, call_request, with_answer, give, answer_request}
use Rattle.spec_model.specs.Check.{system_fits}
use Rattle.spec_model.proofs.Rules.{never}
use Rattle.spec_model.proofs.Derived.{AnswerBelow, SignaturesIn}
use Rattle.spec_model.proofs.Growth.{Grown, grown-refl, grown-trans, method-same}
use Rattle.spec_model.specs.Refusals.{unknown_subject, not_held, unrelated, not_owner, not_strict, types_full, places_full, cells_full, not_callable, wrong_values, too_wide, answered_already, calls_full}
use Rattle.spec_model.specs.Refusals.{later_layer}
use Rattle.law_model.proofs.Unowned.{AllUnowned, AnswerUnowned, UnownedSignatures}
use Rattle.law_model.proofs.Deriving.{IfSome, derive-grown}
use Rattle.law_model.proofs.Demand3.{held-in}
use Rattle.law_model.proofs.Fitting.{TableFitting, table-fitting, fitting-sigs, fitting-unowned}
use Rattle.law_model.proofs.Checked.{SystemFitting, bounded-layers, system-fitting, fits-bounded}

-- not refused with 9; if accepted, Q
abbrev NeverNotOwner : {A : Type 0} → Res A → (A → Type 0) → Type 0
NeverNotOwner (refuse e) Q = eqb e not_owner ≡ false
NeverNotOwner (ok a) Q = Q a

no-try : {A B : Type 0} (P : A → Type 0) (Q : B → Type 0) (m : Res A) (k : A → Res B) → NeverNotOwner m P → ((a : A) → P a → NeverNotOwner (k a) Q) → NeverNotOwner (try m k) Q
no-try P Q (refuse e) k h f = h
no-try P Q (ok a) k h f = f a h

no-need : {B : Type 0} (Q : B → Type 0) (b : Bool) (e : ℕ) (k : Unit {0} → Res B) → eqb e not_owner ≡ false → (So b → NeverNotOwner (k tt) Q) → NeverNotOwner (need b e k) Q
no-need Q true e k n h = h refl
no-need Q false e k n h = n

no-map : {A : Type 0} (P Q : A → Type 0) → ((a : A) → P a → Q a) → (m : Res A) → NeverNotOwner m P → NeverNotOwner m Q
no-map P Q f (refuse e) h = h
no-map P Q f (ok a) h = f a h

never-not-owner : {A : Type 0} (Q : A → Type 0) (m : Res A) → NeverNotOwner m Q → m ≢ refuse not_owner
never-not-owner Q m h e = never (sym (subst (λ x. NeverNotOwner x Q) e h))

-- a number at a layer is 9 only where it was
at-no : (b : Bool) (e : ℕ) → eqb e not_owner ≡ false → eqb (at_layer b e) not_owner ≡ false
at-no true e n = n
at-no false e n = go (eqb e unrelated || eqb e not_strict)
  where
    go : (c : Bool) → eqb (cond c later_layer e) not_owner ≡ false
    go true = refl
    go false = n

renumber-no : {A : Type 0} (Q : A → Type 0) (b : Bool) (m : Res A) → NeverNotOwner m Q → NeverNotOwner (renumber b m) Q
renumber-no Q b (refuse e) h = at-no b e h
renumber-no Q b (ok a) h = h

-- ---- a crossing to a type without own, from any table, which only grows
abbrev Onto : Table → Reference → Type 0
Onto t g = Grown t g.table

derived-no : (t : Table) (d : Kind) (l r : ℕ) → NeverNotOwner (derived t d l r) (λ x. Grown t x.0)
unfolding derived
derived-no t d l r = go (derive max_types t d l r) (derive-grown max_types t d l r)
  where
    go : (o : Option (Table × ℕ)) → IfSome o (λ x. Grown t x.0) → NeverNotOwner {A = Table × ℕ} (elim o [ none ↦ refuse types_full | some p ↦ ok p ]) (λ x. Grown t x.0)
    go none h = refl
    go (some p) h = h

adapt-no : (t : Table) (ps : List Place) (to r p : ℕ) → NeverNotOwner (adapt t ps to r p) (Onto t)
unfolding adapt
adapt-no t ps to r p = go (related conforms t r v)
  where
    v : ℕ
    v = place_type (place_at ps p)

    go : (b : Bool) → NeverNotOwner (elim b [
      | true ↦ ok (record { table = t; places = ps; type = to; place = p })
      | false ↦ need (related strict t r v) not_strict λ _. try (derived t closed r v) λ x. need (ltb (length ps) max_places) places_full λ _.
          ok (record { table = x.0; places = ps ++ (adapter p x.1 ∷ []); type = to; place = length ps })
    ]) (Onto t)
    go true = grown-refl t
    go false = no-need _ (related strict t r v) not_strict _ refl λ _.
        no-try _ (Onto t) (derived t closed r v) _ (derived-no t closed r v) λ x g. no-need _ (ltb (length ps) max_places) places_full _ refl λ _. g

cross-no : (f : Reference) (to r : ℕ) → (type_at f.table to).own ≡ false → NeverNotOwner (cross f to r) (Onto f.table)
unfolding cross
cross-no f to r e = go (type_at t to).own e (related subtype t to f.type)
  where
    t : Table
    t = f.table

    ps : List Place
    ps = f.places

    go : (own : Bool) → own ≡ false → (st : Bool) → NeverNotOwner (elim own [
      | true ↦ need (related free t to f.type) unrelated λ _. need (eqb r (base_owner ps f.place)) not_owner λ _. adapt t ps to to (base_of ps f.place)
      | false ↦ need (related loose t to f.type) unrelated λ _. elim st [
        | true ↦ ok (record { table = t; places = ps; type = to; place = f.place })
        | false ↦ try (derived t sub to f.type) λ x. adapt x.0 ps to x.1 f.place
      ]
    ]) (Onto t)
    go true q st = never (sym q)
    go false q true = no-need _ (related loose t to f.type) unrelated _ refl λ _. grown-refl t
    go false q false = no-need _ (related loose t to f.type) unrelated _ refl λ _. no-try _ (Onto t) (derived t sub to f.type) _ (derived-no t sub to f.type) λ x g.
        no-map _ _ (λ y k. grown-trans g k) (adapt x.0 ps to x.1 f.place) (adapt-no x.0 ps to x.1 f.place)

-- ---- types of the table without own, where there is one
abbrev TargetUnowned : Table → Option ℕ → Type 0
TargetUnowned t none = Unit
TargetUnowned t (some a) = (a < size t) × ((type_at t a).own ≡ false)

abbrev TargetsUnowned : Table → List (Option ℕ) → Type 0
TargetsUnowned t [] = Unit
TargetsUnowned t (o ∷ os) = TargetUnowned t o × TargetsUnowned t os

target-grow : {t u : Table} → Grown t u → (o : Option ℕ) → TargetUnowned t o → TargetUnowned u o
target-grow g none h = tt
target-grow g (some a) h = (omega (arith, h.0, g.more), rw (g.same a h.0) h.1)

targets-grow : {t u : Table} → Grown t u → (os : List (Option ℕ)) → TargetsUnowned t os → TargetsUnowned u os
targets-grow g [] h = tt
targets-grow g (o ∷ os) h = (target-grow g o h.0, targets-grow g os h.1)

reversed : (t : Table) (os acc : List (Option ℕ)) → TargetsUnowned t os → TargetsUnowned t acc → TargetsUnowned t (reverse_aux os acc)
reversed t [] acc h k = k
reversed t (o ∷ os) acc h k = reversed t os (o ∷ acc) h.1 (h.0, k)

-- ---- a value over such layers
layers-no : (ts : List (Option ℕ)) (b : Bool) (f : Reference) (r : ℕ) → TargetsUnowned f.table ts → NeverNotOwner (cross_layers b f r ts) (Onto f.table)
unfolding cross_layers
layers-no [] b f r h = grown-refl f.table
layers-no (none ∷ ts) b f r h = at-no b unrelated refl
layers-no (some to ∷ ts) b f r h = no-try _ (Onto f.table) (renumber b (cross f to r)) _ (renumber-no _ b (cross f to r) (cross-no f to r h.0.1)) λ g w.
    no-map _ _ (λ y k. grown-trans w k) (cross_layers false g r ts) (layers-no ts false g r (targets-grow w ts h.1))

pass-no : (ts : List (Option ℕ)) (b : Bool) (t : Table) (v : ℤ) → NeverNotOwner (pass_layers b t v ts) (λ _. Unit {0})
unfolding pass_layers
pass-no [] b t v = tt
pass-no (none ∷ ts) b t v = at-no b unrelated refl
pass-no (some a ∷ ts) b t v = go (type_at t a).rep (pass-no ts false t v)
  where
    go : (x : Rep) → NeverNotOwner (pass_layers false t v ts) (λ _. Unit {0}) → NeverNotOwner {A = Unit {0}} (elim x [
      | ref ↦ refuse (at_layer b unrelated)
      | w32 ↦ need (within 2147483648 v) too_wide λ _. pass_layers false t v ts
      | w64 ↦ pass_layers false t v ts
    ]) (λ _. Unit {0})
    go ref ih = at-no b unrelated refl
    go w32 ih = no-need _ (within 2147483648 v) too_wide _ refl λ _. ih
    go w64 ih = ih

send-no : (s : System) (r k : ℕ) (ts : List (Option ℕ)) → TargetsUnowned s.table ts → NeverNotOwner (send s r k ts) (λ x. Grown s.table x.0.table)
unfolding send add_cell
send-no s r k ts h = no-try _ _ (cross_layers true (leaving s k) r ts) _ (layers-no ts true (leaving s k) r h) λ f g. no-need _ (ltb (length s.cells) max_cells) cells_full _ refl λ _. g

-- ---- what signatures without own name, in a table t that has grown to u
at-unowned : (t : Table) (xs : List ℕ) (i : ℕ) → AllBelow (size t) xs → AllUnowned t xs → TargetUnowned t (get_elem? xs i)
at-unowned t [] i b u = tt
at-unowned t (x ∷ xs) zero b u = (b.0, u.0)
at-unowned t (x ∷ xs) (suc i) b u = at-unowned t xs i b.1 u.1

answer-unowned : (t : Table) (o : Option ℕ) → AnswerBelow (size t) o → AnswerUnowned t o → TargetUnowned t o
answer-unowned t none b u = tt
answer-unowned t (some a) b u = (b, u)

module _ (t : Table) (sigs : SignaturesIn t) (plain : UnownedSignatures t) (m : ℕ) where
  arguments-unowned : (u : Table) → Grown t u → (i : ℕ) (ls : List ℕ) → AllBelow (size t) ls → TargetsUnowned u (map (argument_at u m i) ls)
  arguments-unowned u g i [] l = tt
  arguments-unowned u g i (x ∷ xs) l = (
    rw (method-same t u g x m l.0) (target-grow g (get_elem? (method_at t x m).args i) (at-unowned t (method_at t x m).args i (sigs x m).0 (plain x m).0)),
    arguments-unowned u g i xs l.1,
  )

  answers-unowned : (ls : List ℕ) → TargetsUnowned t (map (answer_at t m) ls)
  answers-unowned [] = tt
  answers-unowned (x ∷ xs) = (answer-unowned t (method_at t x m).answer (sigs x m).1 (plain x m).1, answers-unowned xs)

  arguments-no : (r : ℕ) (ls : List ℕ) → AllBelow (size t) ls → (xs : List ℕ) (vs : List ℤ) (i : ℕ) (s : System) → Grown t s.table
      → NeverNotOwner (send_arguments s r ls m i xs vs) (λ _. Unit {0})
  unfolding send_arguments
  arguments-no r ls l [] vs i s g = tt
  arguments-no r ls l (a ∷ xs) [] i s g = tt
  arguments-no r ls l (a ∷ xs) (v ∷ vs) i s g = go (is_ref (type_at s.table a).rep) (arguments-no r ls l xs vs (suc i))
    where
      ts : List (Option ℕ)
      ts = map (argument_at s.table m i) ls

      go : (b : Bool) → ((u : System) → Grown t u.table → NeverNotOwner (send_arguments u r ls m (suc i) xs vs) (λ _. Unit {0})) → NeverNotOwner {A = System} (elim b [
        | true ↦ try (send s r (named v) ts) λ x. send_arguments x.0 r ls m (suc i) xs vs
        | false ↦ try (pass_layers true s.table v ts) λ _. send_arguments s r ls m (suc i) xs vs
      ]) (λ _. Unit {0})
      go true ih = no-try _ _ (send s r (named v) ts) _ (send-no s r (named v) ts (arguments-unowned s.table g i ls l)) λ x w. ih x.0 (grown-trans g w)
      go false ih = no-try _ _ (pass_layers true s.table v ts) _ (pass-no ts true s.table v) λ _ _. ih s g

-- ---- a state that passes the check: the types on a value's way are in its table
module _ (s : System) (fits : So (system_fits s)) where
  f : SystemFitting s
  f = system-fitting s fits

  t : TableFitting s.table
  t = table-fitting s.table f.table

  call-layers-in : (k : ℕ) → k < length s.cells → AllBelow (size s.table) (call_layers s (cell_at s k))
  call-layers-in k l = let c = (fits-bounded s fits).cells k l in (omega (arith, c.sheet, t.sheet), bounded-layers s (fits-bounded s fits) (length s.places) (cell_at s k).place c.place)

  -- C13, of a call and of an answer
  pub call-never-not-owner : (subject k m : ℤ) (vs : List ℤ) → call_request s subject k m vs ≢ refuse not_owner
  unfolding call_request
  call-never-not-owner subject k m vs = never-not-owner (λ _. Unit {0}) (call_request s subject k m vs) (
      no-need _ (names subject s.table.subjects) unknown_subject _ refl λ _.
      no-need _ (held s subject k) not_held _ refl λ h.
      let c = cell_at s (named k) in
      no-need _ (names m s.table.methods && is_avail (method_at s.table c.type (named m)).state) not_callable _ refl λ _.
      let xs = (method_at s.table c.type (named m)).args in
      no-need _ (arguments_held s subject xs vs) wrong_values _ refl λ _.
      no-need _ (ltb (made_by (named subject) s.calls) max_calls_each) calls_full _ refl λ _.
      no-try (λ _. Unit {0}) _ (send_arguments s (base_owner s.places c.place) (call_layers s c) (named m) 0 xs vs) _
      (arguments-no s.table (fitting-sigs s.table t) (fitting-unowned s.table t) (named m) (base_owner s.places c.place) (call_layers s c)
      (call-layers-in (named k) (held-in s subject k h)) xs vs 0 s (grown-refl s.table))
      λ x _. tt)

  give-no : (subject : ℤ) (j : ℕ) (due : Option ℕ) (v : Option ℤ) → NeverNotOwner (give s subject j due v) (λ _. Unit {0})
  unfolding give
  give-no subject j none none = tt
  give-no subject j none (some v) = refl
  give-no subject j (some a) none = refl
  give-no subject j (some a) (some v) = go (is_ref (type_at s.table a).rep)
    where
      ls : List ℕ
      ls = call_layers s (cell_at s (call_at s j).cell)

      m : ℕ
      m = (call_at s j).method

      ts : List (Option ℕ)
      ts = reverse (map (answer_at s.table m) ls)

      unowned : TargetsUnowned s.table ts
      unowned = reversed s.table (map (answer_at s.table m) ls) [] (answers-unowned s.table (fitting-sigs s.table t) (fitting-unowned s.table t) m ls) tt

      go : (b : Bool) → NeverNotOwner {A = System × Result} (elim b [
        | true ↦ need (held s subject v) wrong_values λ _. try (send s (call_at s j).caller (named v) ts) λ x. ok (with_answer x.0 j, x.1)
        | false ↦ try (pass_layers true s.table v ts) λ _. ok (with_answer s j, number v)
      ]) (λ _. Unit {0})
      go true = no-need _ (held s subject v) wrong_values _ refl λ _. no-try _ _ (send s (call_at s j).caller (named v) ts) _ (send-no s (call_at s j).caller (named v) ts unowned) λ x _. tt
      go false = no-try _ _ (pass_layers true s.table v ts) _ (pass-no ts true s.table v) λ _ _. tt

  pub answer-never-not-owner : (subject j : ℤ) (v : Option ℤ) → answer_request s subject j v ≢ refuse not_owner
  unfolding answer_request
  answer-never-not-owner subject j v = never-not-owner (λ _. Unit {0}) (answer_request s subject j v) (
      no-need _ (names subject s.table.subjects) unknown_subject _ refl λ _.
      let c = cell_at s (call_at s (named j)).cell in
      no-need _ (names j (length s.calls) && eqb (named subject) (base_owner s.places c.place)) not_held _ refl λ _.
      no-need _ (not (call_at s (named j)).answered) answered_already _ refl λ _.
      give-no subject (named j) (answer_at s.table (call_at s (named j)).method c.type) v)
