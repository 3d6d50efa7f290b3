-- What an accepted request makes: the place, the cell or the call that comes next, whose and of which type it is (docs/SPEC.md, Q6, N8, M6, C17 to C19, A10, A11).
-- That the old ones stay under their numbers is serve-onward (law_model, Onward).
use mathlib.Core.Path.{◌≡◌, refl, ap, sym}
use mathlib.Core.Logic.{◌⊎◌, inl, inr}
use mathlib.Core.Bool.{Bool, true, false}
use mathlib.Core.List.{List, [], ◌∷◌, ◌++◌}
use mathlib.Core.Option.{Option, none, some}
use Prim.Native.Nat.{ℕ}
use lib.Dec.{eqb, ltb}
use lib.ListN.{length}
use Rattle.spec_model.specs.Basics.{ok, try, need}
use Rattle.spec_model.specs.Table.{sub, closed, Table, type_at}
use Rattle.spec_model.specs.Relations.{subtype, conforms, strict, loose, free, related}
use Rattle.spec_model.specs.Restriction.{derived}
use Rattle.spec_model.specs.Crossing.{Place, adapter, max_places, place_type, place_at, base_of, base_owner, Reference, adapt, cross}
use Rattle.spec_model.specs.Requests.{System, max_cells, Result, pair, leaving, add_cell, renumber, cross_layers, send}
use Rattle.spec_model.proofs.Growth.{Grown, grown-refl, grown-trans}
use Rattle.spec_model.specs.Refusals.{unrelated, not_owner, not_strict, places_full, cells_full}
use Rattle.law_model.proofs.Steps.{IfOk, ok-try, ok-map, ok-need, whatever}
use Rattle.law_model.proofs.Trails.{ok-renumber}
use Rattle.law_model.proofs.Onward.{derived-grown}

-- ---- one crossing
-- It adds a place and leads to that, whose number is the count before,
pub record NextPlace (f g : Reference) : Type 0 where
  pub place : Place
  pub places : g.places ≡ f.places ++ (place ∷ [])
  pub number : g.place ≡ length f.places

-- or it leaves the places alone; and the reference has the type crossed to (X10).
pub record Passed (f : Reference) (to : ℕ) (g : Reference) : Type 0 where
  pub type : g.type ≡ to
  pub table : Grown f.table g.table
  pub places : (g.places ≡ f.places) ⊎ NextPlace f g

adapt-passes : (f : Reference) (t : Table) → Grown f.table t → (to r p : ℕ) → IfOk (adapt t f.places to r p) (Passed f to)
unfolding adapt
adapt-passes f t g to r p = go (related conforms t r v)
  where
    v : ℕ
    v = place_type (place_at f.places p)

    go : (b : Bool) → IfOk (elim b [
      | true ↦ ok (record { table = t; places = f.places; type = to; place = p })
      | false ↦ need (related strict t r v) not_strict λ _. try (derived t closed r v) λ x. need (ltb (length f.places) max_places) places_full λ _.
          ok (record { table = x.0; places = f.places ++ (adapter p x.1 ∷ []); type = to; place = length f.places })
    ]) (Passed f to)
    go true = record { type = refl; table = g; places = inl refl }
    go false = ok-need _ (related strict t r v) not_strict _ λ _. ok-try _ _ (derived t closed r v) _ (derived-grown t closed r v) λ x h.
        ok-need _ (ltb (length f.places) max_places) places_full _ λ _. record
        { type = refl; table = grown-trans g h; places = inr (record { place = adapter p x.1; places = refl; number = refl }) }

-- Q6 of places, X10
pub crossed : (f : Reference) (to r : ℕ) → IfOk (cross f to r) (Passed f to)
unfolding cross
crossed f to r = go (type_at t to).own (related subtype t to f.type)
  where
    t : Table
    t = f.table

    go : (own st : Bool) → IfOk (elim own [
      | true ↦ need (related free t to f.type) unrelated λ _. need (eqb r (base_owner f.places f.place)) not_owner λ _. adapt t f.places to to (base_of f.places f.place)
      | false ↦ need (related loose t to f.type) unrelated λ _. elim st [
        | true ↦ ok (record { table = t; places = f.places; type = to; place = f.place })
        | false ↦ try (derived t sub to f.type) λ x. adapt x.0 f.places to x.1 f.place
      ]
    ]) (Passed f to)
    go true st = ok-need _ (related free t to f.type) unrelated _ λ _. ok-need _ (eqb r (base_owner f.places f.place)) not_owner _ λ _. adapt-passes f t (grown-refl t) to to
        (base_of f.places f.place)
    go false true = ok-need _ (related loose t to f.type) unrelated _ λ _. record { type = refl; table = grown-refl t; places = inl refl }
    go false false = ok-need _ (related loose t to f.type) unrelated _ λ _. ok-try _ _ (derived t sub to f.type) _ (derived-grown t sub to f.type) λ x h.
        adapt-passes f x.0 h to x.1 f.place

-- several in turn: the last layer has a type at that position, and it is the reference's
pub layers-end : (ts : List (Option ℕ)) (o : Option ℕ) (b : Bool) (f : Reference) (r : ℕ)
    → IfOk (cross_layers b f r (ts ++ (o ∷ []))) (λ g. (o ≡ some g.type) × Grown f.table g.table)
unfolding cross_layers
layers-end [] none b f r = tt
layers-end [] (some to) b f r = ok-try _ _ (renumber b (cross f to r)) _ (ok-renumber _ b (cross f to r) (crossed f to r)) λ g h. (ap some (sym h.type), h.table)
layers-end (none ∷ ts) o b f r = tt
layers-end (some to ∷ ts) o b f r = ok-try _ _ (renumber b (cross f to r)) _ (ok-renumber _ b (cross f to r) (crossed f to r)) λ g h.
    ok-map _ _ (λ e q. (q.0, grown-trans h.table q.1)) (cross_layers false g r (ts ++ (o ∷ []))) (layers-end ts o false g r)

-- ---- cells
-- One cell more, r's and of that type. The result names it by the count before, and its place.
pub record NextCell (s : System) (r type : ℕ) (x : System × Result) : Type 0 where
  pub place : ℕ
  pub cells : x.0.cells ≡ s.cells ++ (record { holder = r; type = type; place = place } ∷ [])
  pub result : x.1 ≡ pair (length s.cells) place

pub record Sent (s : System) (r type : ℕ) (x : System × Result) : Type 0 where
  pub next : NextCell s r type x
  pub table : Grown s.table x.0.table
  pub calls : x.0.calls ≡ s.calls

pub cell-sent : (s : System) (r type : ℕ) (f : Reference) → f.type ≡ type → Grown s.table f.table → IfOk (add_cell s r f) (Sent s r type)
unfolding add_cell
cell-sent s r type f e g = ok-need _ (ltb (length s.cells) max_cells) cells_full _ λ _.
    record { next = record { place = f.place; cells = ap (λ n. s.cells ++ (record { holder = r; type = n; place = f.place } ∷ [])) e; result = refl }; table = g; calls = refl }

-- a reference sent through layers is of the type that the last of them has there
pub sent-last : (s : System) (r k : ℕ) (ts : List (Option ℕ)) (o : Option ℕ) → IfOk (send s r k (ts ++ (o ∷ []))) (λ x. (type : ℕ) × (o ≡ some type) × Sent s r type x)
unfolding send
sent-last s r k ts o = ok-try _ _ (cross_layers true (leaving s k) r (ts ++ (o ∷ []))) _ (layers-end ts o true (leaving s k) r) λ f h.
    ok-map _ _ (λ x w. (f.type, h.0, w)) (add_cell s r f) (cell-sent s r f.type f refl h.1)

-- sending a reference makes no call
pub send-calls : (s : System) (r k : ℕ) (ts : List (Option ℕ)) → IfOk (send s r k ts) (λ x. x.0.calls ≡ s.calls)
unfolding send add_cell
send-calls s r k ts = ok-try _ _ (cross_layers true (leaving s k) r ts) _ (whatever (cross_layers true (leaving s k) r ts)) λ f _. ok-need _ (ltb (length s.cells) max_cells) cells_full _ λ _. refl
