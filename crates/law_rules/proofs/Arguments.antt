-- The cells that the arguments of a call become (docs/SPEC.md, C9, C12, C17).
use mathlib.Core.Path.{◌≡◌, refl, ap, sym, subst, ◌∙◌}
use mathlib.Core.Bool.{Bool, true, false, ◌&&◌, So}
use mathlib.Core.List.{List, [], ◌∷◌, ◌++◌, map, map-append, append_assoc, append-nil}
use mathlib.Core.Option.{Option, some}
use Prim.Native.Nat.{ℕ, zero, suc, ◌<◌}
use native.Mathlib.Omega.{arith}
use native.Mathlib.Nat.{not-suc-le-zero}
use lib.Dec.{ltb}
use lib.IntN.{ℤ}
use lib.ListN.{length, get_elem?}
use Rattle.spec_model.specs.Basics.{Res, ok, try, names, named, AllBelow}
use Rattle.spec_model.specs.Table.{Table, size, type_at, method_at, argument_at, is_ref, is_avail}
use Rattle.spec_model.specs.Crossing.{Place, object, adapter, no_place, place_type, place_at, base, base_of, base_owner}
use Rattle.spec_model.specs.Requests.{Cell, System, max_calls_each, made_by, Result, pair, cell_at, held, adapter_count, layers, call_layers, pass_layers, send, arguments_held, send_arguments, with_call}
use Rattle.spec_model.specs.Requests.{call_request}
use Rattle.spec_model.specs.Check.{place_fits, system_fits}
use Rattle.spec_model.proofs.Tests.{ltb-so}
use Rattle.spec_model.proofs.Rules.{first, second}
use Rattle.spec_model.proofs.Growth.{Grown, grown-refl, grown-trans, method-same}
use Rattle.spec_model.specs.Refusals.{unknown_subject, not_held, not_callable, wrong_values, calls_full}
use Rattle.law_model.proofs.Steps.{IfOk, ok-try, ok-map, ok-need, whatever}
use Rattle.law_model.proofs.Good.{Sound, sheet-within}
use Rattle.law_model.proofs.Demand3.{held-in}
use Rattle.law_model.proofs.Fitting.{every-at}
use Rattle.law_model.proofs.Checked.{SystemFitting, system-fitting, fits-bounded}
use Rattle.law_rules.proofs.Numbering.{Sent, sent-last}

-- A reference (true) is the first of the new cells: r's, of the type o. A number makes none.
abbrev pub First : Bool → ℕ → Option ℕ → (List Cell → Type 0) → List Cell → Type 0
First false r o rest cs = rest cs
First true r o rest [] = ⊥
First true r o rest (c ∷ cs) = (c.holder ≡ r) × (o ≡ some c.type) × rest cs

-- The cells cs come of the values vs for the argument types xs, from position i on: one for each reference, in order, r's, and of the type that class has for the
-- argument of method m at that position.
abbrev pub Arrived : Table → ℕ → ℕ → ℕ → ℕ → List ℕ → List ℤ → List Cell → Type 0
Arrived t r class m i [] vs cs = cs ≡ []
Arrived t r class m i (a ∷ xs) [] cs = cs ≡ []
Arrived t r class m i (a ∷ xs) (v ∷ vs) cs = First (is_ref (type_at t a).rep) r (argument_at t m i class) (Arrived t r class m (suc i) xs vs) cs

-- through layers that end with the class, from a table whose types are those of t
module _ (t : Table) (r : ℕ) (outer : List ℕ) (class : ℕ) (class_in : class < size t) (m : ℕ) where
  abbrev ls : List ℕ
  ls = outer ++ (class ∷ [])

  abbrev Arrives : ℕ → List ℕ → List ℤ → System → System → Type 0
  Arrives i xs vs s x = (cs : List Cell) × (x.cells ≡ s.cells ++ cs) × Arrived t r class m i xs vs cs

  one-sent : (s : System) → Grown t s.table → (i k : ℕ)
      → IfOk (send s r k (map (argument_at s.table m i) ls)) (λ x. (type : ℕ) × (argument_at t m i class ≡ some type) × Sent s r type x)
  one-sent s g i k =
      let f = argument_at s.table m i in
      let e : f class ≡ argument_at t m i class = ap (λ y. get_elem? y.args i) (method-same t s.table g class m class_in) in
      subst (λ us. IfOk (send s r k us) (λ x. (type : ℕ) × (argument_at t m i class ≡ some type) × Sent s r type x)) (sym (map-append f outer (class ∷ [])))
      (ok-map _ _ (λ x w. (w.0, sym e ∙ w.1, w.2)) (send s r k (map f outer ++ (f class ∷ []))) (sent-last s r k (map f outer) (f class)))

  arguments-sent : (xs : List ℕ) (vs : List ℤ) (i : ℕ) (s : System) → Grown t s.table → AllBelow (size t) xs → IfOk (send_arguments s r ls m i xs vs) (Arrives i xs vs s)
  unfolding send_arguments
  arguments-sent [] vs i s g l = ([], sym (append-nil s.cells), refl)
  arguments-sent (a ∷ xs) [] i s g l = ([], sym (append-nil s.cells), refl)
  arguments-sent (a ∷ xs) (v ∷ vs) i s g l =
      let e : is_ref (type_at s.table a).rep ≡ is_ref (type_at t a).rep = ap (λ y. is_ref y.rep) (g.same a l.0) in
      subst (λ b. IfOk (next b) (λ x. (cs : List Cell) × (x.cells ≡ s.cells ++ cs) × First (is_ref (type_at t a).rep) r (argument_at t m i class) (Arrived t r class m (suc i) xs vs) cs)) (sym e)
      (go (is_ref (type_at t a).rep) (λ u h. arguments-sent xs vs (suc i) u h l.1))
    where
      ts : List (Option ℕ)
      ts = map (argument_at s.table m i) ls

      next : Bool → Res System
      next b = elim b [
        | true ↦ try (send s r (named v) ts) λ x. send_arguments x.0 r ls m (suc i) xs vs
        | false ↦ try (pass_layers true s.table v ts) λ _. send_arguments s r ls m (suc i) xs vs
      ]

      go : (b : Bool) → ((u : System) → Grown t u.table → IfOk (send_arguments u r ls m (suc i) xs vs) (Arrives (suc i) xs vs u))
          → IfOk (next b) (λ x. (cs : List Cell) × (x.cells ≡ s.cells ++ cs) × First b r (argument_at t m i class) (Arrived t r class m (suc i) xs vs) cs)
      go true ih = ok-try _ _ (send s r (named v) ts) _ (one-sent s g i (named v)) λ x w.
          ok-map _ _ (λ u d.
          let c : Cell = record { holder = r; type = w.0; place = w.2.next.place } in
          (c ∷ d.0, d.1 ∙ ap (λ cs. cs ++ d.0) w.2.next.cells ∙ append_assoc s.cells (c ∷ []) d.0, (refl, w.1, d.2)))
          (send_arguments x.0 r ls m (suc i) xs vs) (ih x.0 (grown-trans g w.2.table))
      go false ih = ok-try _ _ (pass_layers true s.table v ts) _ (whatever (pass_layers true s.table v ts)) λ _ _. ih s g

-- ---- the last layer is the class of the base (C9)
-- what stands behind an adapter is below it
abbrev Downward : List Place → Type 0
Downward ps = (p b c : ℕ) → p < length ps → place_at ps p ≡ adapter b c → b < p

abbrev Ends : ℕ → List Place → ℕ → Type 0
Ends f ps p = (outer : List ℕ) × (layers f ps p ≡ outer ++ (place_type (place_at ps (base f ps p)) ∷ [])) × (base f ps p < length ps)

layers-ends : (ps : List Place) → Downward ps → (f p : ℕ) → p < f → p < length ps → Ends f ps p
unfolding layers base
layers-ends ps d zero p l h = absurd (not-suc-le-zero l)
layers-ends ps d (suc f) p l h = go (place_at ps p) refl (λ b u v. layers-ends ps d f b u v)
  where
    go : (x : Place) → place_at ps p ≡ x → ((b : ℕ) → b < f → b < length ps → Ends f ps b)
        → let at = elim x as (λ _. ℕ) [ object c o ↦ p | adapter b c ↦ base f ps b ] in
        (outer : List ℕ) × ◌≡◌ {A = List ℕ} (elim x [ object c o ↦ c ∷ [] | adapter b c ↦ c ∷ layers f ps b ]) (outer ++ (place_type (place_at ps at) ∷ [])) × (at < length ps)
    go (object c o) e ih = ([], ap (λ y. place_type y ∷ []) (sym e), h)
    go (adapter b c) e ih = let q = d p b c h e in let w = ih b (omega arith) (omega arith) in (c ∷ w.0, ap {B = List ℕ} (λ z. c ∷ z) w.1, w.2)

-- the class of the base of a cell's place
abbrev pub class_of : System → Cell → ℕ
class_of s c = place_type (place_at s.places (base_of s.places c.place))

module _ (s : System) (fits : So (system_fits s)) where
  fit : SystemFitting s
  fit = system-fitting s fits

  sound : Sound s.table
  sound = (fits-bounded s fits).table

  place-fits : (p : ℕ) → p < length s.places → So (place_fits s p (place_at s.places p))
  place-fits p l = subst (λ n. So (place_fits s n (place_at s.places p))) (omega arith) (every-at (place_fits s) no_place 0 s.places fit.places p l)

  downward : Downward s.places
  downward p b c l e = let h = subst (λ x. So (place_fits s p x)) e (place-fits p l) in ltb-so (first (ltb b p) _ h)

  type-in : (p : ℕ) (x : Place) → So (place_fits s p x) → place_type x < size s.table
  type-in p (object c o) h =
      let q : c < s.table.sheet = ltb-so (first (ltb c s.table.sheet) _ (second (ltb o s.table.subjects) _ h)) in
      omega (arith, sheet-within s.table sound.counts)
  type-in p (adapter b c) h = ltb-so (first (ltb c (size s.table)) _ (second (ltb b p) _ h))

  -- C17. In a state that passes the check (H), the arguments of an accepted call that are references become the next cells, in order: of the owner of the base, and of
  -- the type that its class has for the argument.
  pub arguments-arrive : (subject k m : ℤ) (vs : List ℤ) → let c = cell_at s (named k) in IfOk (call_request s subject k m vs) (λ x.
      (cs : List Cell) × (x.0.cells ≡ s.cells ++ cs) × Arrived s.table (base_owner s.places c.place) (class_of s c) (named m) 0 (method_at s.table c.type (named m)).args vs cs)
  unfolding call_request
  arguments-arrive subject k m vs =
      ok-need _ (names subject t.subjects) unknown_subject _ λ _. ok-need _ (held s subject k) not_held _ λ h.
      ok-need _ (names m t.methods && is_avail (method_at t c.type (named m)).state) not_callable _ λ _.
      ok-need _ (arguments_held s subject xs vs) wrong_values _ λ _. ok-need _ (ltb (made_by (named subject) s.calls) max_calls_each) calls_full _ λ _. go (held-in s subject k h)
    where
      t : Table
      t = s.table

      c : Cell
      c = cell_at s (named k)

      xs : List ℕ
      xs = (method_at t c.type (named m)).args

      r : ℕ
      r = base_owner s.places c.place

      go : named k < length s.cells → IfOk {A = System × Result}
          (try (send_arguments s r (call_layers s c) (named m) 0 xs vs) λ x.
          ok (with_call x (record { caller = named subject; cell = named k; method = named m; answered = false }), pair (length s.calls) (adapter_count s.places c.place)))
          (λ x. (cs : List Cell) × (x.0.cells ≡ s.cells ++ cs) × Arrived t r (class_of s c) (named m) 0 xs vs cs)
      go l =
          let place_in : c.place < length s.places = ((fits-bounded s fits).cells (named k) l).place in
          let e = layers-ends s.places downward (length s.places) c.place place_in place_in in
          let class-in = type-in (base_of s.places c.place) (place_at s.places (base_of s.places c.place)) (place-fits (base_of s.places c.place) e.2) in
          let w = arguments-sent t r (c.type ∷ e.0) (class_of s c) class-in (named m) xs vs 0 s (grown-refl t) (sound.sigs c.type (named m)).0 in
          ok-try _ _ (send_arguments s r (call_layers s c) (named m) 0 xs vs) _
          (subst (λ ls. IfOk (send_arguments s r (c.type ∷ ls) (named m) 0 xs vs) (λ x. (cs : List Cell) × (x.cells ≡ s.cells ++ cs) × Arrived t r (class_of s c) (named m) 0 xs vs cs))
          (sym e.1) w) λ x d. d
