-- A state stays within its limits, with every number below its count, through every request: one induction, over what is known of its table.
use mathlib.Core.Path.{◌≡◌, refl, ap, sym, subst, ◌∙◌}
use mathlib.Core.Bool.{Bool, true, false, not, ◌&&◌, So}
use mathlib.Core.List.{List, [], ◌∷◌, ◌++◌, map, reverse, reverse_aux}
use mathlib.Core.Option.{Option, none, some}
use Prim.Native.Nat.{ℕ, zero, suc, ◌≤◌, ◌<◌}
use native.Mathlib.Nat.{not-suc-le-zero}
use native.Mathlib.Omega.{arith}
use native.Mathlib.Decide.{dec_lt, ℕ_discrete}
use lib.Dec.{eqb, ltb}
use lib.IntN.{ℤ}
use lib.ListN.{length, get_or, set, length-append, length-set, get_or-append, get_elem?}
use lib.Seq.{get_or_at, get_or-set_same, get_or-set_other}
use Rattle.spec_model.specs.Basics.{Res, refuse, ok, try, need, names, named, AllBelow}
use Rattle.spec_model.specs.Table.{Kind, sub, closed, Table, no_method, size, type_at, method_at, argument_at, answer_at, is_ref, is_avail, is_class}
use Rattle.spec_model.specs.Relations.{conforms, strict, loose, free, subtype, related}
use Rattle.spec_model.specs.Restriction.{main_side, derived}
use Rattle.spec_model.specs.Crossing.{Place, object, adapter, no_place, max_places, place_type, owner_of, place_at, base, base_of, base_owner, Reference, adapt, cross}
use Rattle.spec_model.specs.Requests.{Cell, Call, System, max_cells, max_calls_each, Request, new, move, call, answer, Result, pair, number, no_cell, no_call, cell_at, call_at, is_sheet_ref, held, leaving}
use Rattle.spec_model.specs.Requests.{with_cell, add_cell, new_request, move_request, layers, layers_of, adapter_count, call_layers, renumber, cross_layers, pass_layers, send, arguments_held, send_arguments}
use Rattle.spec_model.specs.Requests.{made_by, with_call, call_request, flagged, with_answer, give, answer_request, serve, after}
use Rattle.spec_model.proofs.Tests.{ltb-so}
use Rattle.spec_model.proofs.Rules.{first, second}
use Rattle.spec_model.proofs.Derived.{AnswerBelow, SignaturesIn}
use Rattle.spec_model.proofs.Order.{strict→loose, loose→free}
use Rattle.spec_model.proofs.ChainLaws.{sort-eq}
use Rattle.spec_model.proofs.Growth.{Grown, grown-refl, grown-trans}
use Rattle.spec_model.specs.Refusals.{unknown_subject, not_held, unknown_type, unrelated, not_owner, not_strict, places_full, cells_full, not_callable, wrong_values}
use Rattle.spec_model.specs.Refusals.{answered_already, calls_full}
use Rattle.law_model.proofs.Completes.{all-below-more}
use Rattle.law_model.proofs.Steps.{IfOk, ok-try, ok-map, ok-need, whatever}
use Rattle.law_model.proofs.Trails.{ok-renumber}
use Rattle.law_model.proofs.Demand3.{names-below, held-in, Held, arguments-in, held_more}
use Rattle.law_model.proofs.Callers.{made-answered, Calling, calling-more}

-- a list has a last entry, and it is below n
abbrev LastBelow : ℕ → List (Option ℕ) → Type 0
LastBelow n [] = ⊥
LastBelow n (x ∷ []) = AnswerBelow n x
LastBelow n (x ∷ y ∷ ts) = LastBelow n (y ∷ ts)

-- the calls of a state: each has a caller, a cell and a method, and nobody made more than its own count
pub record CallIn (s : System) (c : Call) : Type 0 where
  pub caller : c.caller < s.table.subjects
  pub cell : c.cell < length s.cells
  pub method : c.method < s.table.methods

pub record CallsIn (s : System) : Type 0 where
  pub each : (j : ℕ) → j < length s.calls → CallIn s (call_at s j)
  pub few : (k : ℕ) → made_by k s.calls ≤ max_calls_each

pub calling : (s : System) → CallsIn s → Calling s.table.subjects s.calls
calling s h = record { callers = λ j l. (h.each j l).caller; few = h.few }

-- TP is what is known of the table, RF what is known of a type that is to stand in an adapter.
module _ (TP : Table → Type 0) (RF : Table → ℕ → Type 0)
    (rf-ref : (t : Table) (i : ℕ) → So (is_ref (type_at t i).rep) → RF t i)
    (rf-grow : (t u : Table) (i : ℕ) → Grown t u → i < size t → RF t i → RF u i)
    (sheet-in : (t : Table) → TP t → t.sheet ≤ size t)
    (sheet-sigs : (t : Table) → TP t → (a m : ℕ) → a < t.sheet → AllBelow t.sheet (method_at t a m).args × AnswerBelow t.sheet (method_at t a m).answer)
    (sigs-in : (t : Table) → TP t → SignaturesIn t)
    (deriving-ok : (t : Table) → TP t → (d : Kind) (l r : ℕ) → So (related free t l r)
    → IfOk (derived t d l r) (λ x. TP x.0 × Grown t x.0 × (x.1 < size x.0) × (RF t (main_side d l r) → RF x.0 x.1))) where
  abbrev pub PlaceIn : Table → ℕ → Place → Type 0
  PlaceIn t p (object c o) = (o < t.subjects) × (c < t.sheet) × So (is_class (type_at t c))
  PlaceIn t p (adapter b c) = (b < p) × (c < size t) × RF t c

  -- places, each with its number
  pub record PlacesIn (t : Table) (ps : List Place) : Type 0 where
    pub count : length ps ≤ max_places
    pub each : (p : ℕ) → p < length ps → PlaceIn t p (place_at ps p)

  place-grow : (t u : Table) → TP t → Grown t u → (p : ℕ) (x : Place) → PlaceIn t p x → PlaceIn u p x
  place-grow t u k g p (object c o) h = (rw g.subjects h.0, rw g.sheet h.1, rw (g.same c (let l = sheet-in t k in omega (arith, h.1))) h.2)
  place-grow t u k g p (adapter b c) h = (h.0, omega (arith, h.1, g.more), rf-grow t u c g h.1 h.2)

  places-grow : (t u : Table) → TP t → Grown t u → (ps : List Place) → PlacesIn t ps → PlacesIn u ps
  places-grow t u k g ps h = record { count = h.count; each = λ p l. place-grow t u k g p (place_at ps p) (h.each p l) }

  places-add : (t : Table) (ps : List Place) → PlacesIn t ps → length ps < max_places → (x : Place) → PlaceIn t (length ps) x → PlacesIn t (ps ++ (x ∷ []))
  places-add t ps h r x k = record { count = omega (arith, length-append ps (x ∷ [])); each = λ p l. go p (dec_lt p (length ps)) (omega (arith, length-append ps (x ∷ []))) }
    where
      go : (p : ℕ) → Dec (p < length ps) → p < suc (length ps) → PlaceIn t p (place_at (ps ++ (x ∷ [])) p)
      go p (yes l) u = rw (get_or-append ps (x ∷ []) no_place p l) (h.each p l)
      go p (no l) u = let e : length ps ≡ p = omega arith in rw (get_or_at ps x [] no_place p e) (subst (λ n. PlaceIn t n x) e k)

  -- the base of a place is a place, an object whose owner is a subject, and the last layer is its class
  module _ (t : Table) (ps : List Place) (h : PlacesIn t ps) where
    base-in : (f p : ℕ) → p < length ps → base f ps p < length ps
    unfolding base
    base-in zero p l = l
    base-in (suc f) p l = go (place_at ps p) (h.each p l) (base-in f)
      where
        go : (x : Place) → PlaceIn t p x → ((b : ℕ) → b < length ps → base f ps b < length ps) → elim x [ object c o ↦ p | adapter b c ↦ base f ps b ] < length ps
        go (object c o) k ih = l
        go (adapter b c) k ih = ih b (omega (arith, k.0))

    owner-in : (f p : ℕ) → p < f → p < length ps → owner_of (place_at ps (base f ps p)) < t.subjects
    unfolding base
    owner-in zero p u l = absurd (not-suc-le-zero u)
    owner-in (suc f) p u l = go (place_at ps p) refl (h.each p l) (owner-in f)
      where
        go : (x : Place) → place_at ps p ≡ x → PlaceIn t p x → ((b : ℕ) → b < f → b < length ps → owner_of (place_at ps (base f ps b)) < t.subjects)
            → owner_of (place_at ps (elim x [ object c o ↦ p | adapter b c ↦ base f ps b ])) < t.subjects
        go (object c o) e k ih = rw e k.0
        go (adapter b c) e k ih = ih b (omega (arith, k.0)) (omega (arith, k.0))

    layers-last : (g : ℕ → Option ℕ) (n : ℕ) → ((c : ℕ) → c < t.sheet → AnswerBelow n (g c)) → (f p : ℕ) → p < f → p < length ps → LastBelow n (map g (layers f ps p))
    unfolding layers
    layers-last g n s zero p u l = absurd (not-suc-le-zero u)
    layers-last g n s (suc f) p u l = go (place_at ps p) (h.each p l) (layers-last g n s f)
      where
        more : (c : ℕ) (ls : List ℕ) → LastBelow n (map g ls) → LastBelow n (g c ∷ map g ls)
        more c [] h = absurd h
        more c (x ∷ xs) h = h

        go : (x : Place) → PlaceIn t p x → ((b : ℕ) → b < f → b < length ps → LastBelow n (map g (layers f ps b)))
            → LastBelow n (map g (elim x [ object c o ↦ c ∷ [] | adapter b c ↦ c ∷ layers f ps b ]))
        go (object c o) k ih = s c k.1
        go (adapter b c) k ih = more c (layers f ps b) (ih b (omega (arith, k.0)) (omega (arith, k.0)))

    pub layers-below : (f p : ℕ) → t.sheet ≤ size t → p < length ps → AllBelow (size t) (layers f ps p)
    unfolding layers
    layers-below zero p q l = tt
    layers-below (suc f) p q l = go (place_at ps p) (h.each p l) (λ b. layers-below f b q)
      where
        go : (x : Place) → PlaceIn t p x → ((b : ℕ) → b < length ps → AllBelow (size t) (layers f ps b))
            → AllBelow (size t) (elim x [ object c o ↦ c ∷ [] | adapter b c ↦ c ∷ layers f ps b ])
        go (object c o) k ih = (omega (arith, k.1), tt)
        go (adapter b c) k ih = (k.1, ih b (omega (arith, k.0)))

  -- a reference on its way
  pub record ReferenceIn (f : Reference) : Type 0 where
    pub table : TP f.table
    pub places : PlacesIn f.table f.places
    pub place : f.place < length f.places
    pub isref : So (is_ref (type_at f.table f.type).rep)

  pub record Arrived (f : Reference) (to : ℕ) (g : Reference) : Type 0 where
    pub within : ReferenceIn g
    pub grow : Grown f.table g.table
    pub more : length f.places ≤ length g.places
    pub type : g.type ≡ to

  -- X6 to X10: the reference f has reached the table t
  adapt-in : (f : Reference) → TP f.table → (t : Table) → Grown f.table t → TP t → PlacesIn t f.places → (to r p : ℕ) → So (is_ref (type_at t to).rep) → to < size t
      → RF t r → p < length f.places
      → IfOk (adapt t f.places to r p) (Arrived f to)
  unfolding adapt
  adapt-in f kf t gf k h to r p isr to_in rf l = go (related conforms t r v) (related strict t r v) refl
    where
      ps : List Place
      ps = f.places

      v : ℕ
      v = place_type (place_at f.places p)

      go : (c s : Bool) → related strict t r v ≡ s → IfOk (elim c [
        | true ↦ ok (record { table = t; places = ps; type = to; place = p })
        | false ↦ need s not_strict λ _. try (derived t closed r v) λ x. need (ltb (length ps) max_places) places_full λ _.
            ok (record { table = x.0; places = ps ++ (adapter p x.1 ∷ []); type = to; place = length ps })
      ]) (Arrived f to)
      go true s e = record { within = record { table = k; places = h; place = l; isref = isr }; grow = gf; more = omega arith; type = refl }
      go false false e = tt
      go false true e = ok-try _ (Arrived f to) (derived t closed r v) _ (deriving-ok t k closed r v (loose→free t r v (strict→loose t r v e))) λ x d.
          ok-need (Arrived f to) (ltb (length ps) max_places) places_full _ λ m.
          let room : length ps < max_places = ltb-so m in
          record {
            within = record {
              table = d.0;
              places = places-add x.0 ps (places-grow t x.0 k d.1 ps h) room (adapter p x.1) (l, d.2, d.3 rf);
              place = omega (arith, length-append ps (adapter p x.1 ∷ []));
              isref = rw (d.1.same to to_in) isr;
            };
            grow = grown-trans gf d.1;
            more = omega (arith, length-append ps (adapter p x.1 ∷ []));
            type = refl;
          }

  pub cross-in : (f : Reference) → ReferenceIn f → (to r : ℕ) → to < size f.table → IfOk (cross f to r) (Arrived f to)
  unfolding cross
  cross-in f k to r to_in = go (type_at t to).own (related free t to s) refl (related loose t to s) refl (related subtype t to s)
    where
      t : Table
      t = f.table

      s : ℕ
      s = f.type

      ps : List Place
      ps = f.places

      ref-to : So (related free t to s) → So (is_ref (type_at t to).rep)
      ref-to h = rw (sort-eq t to s h) k.isref

      go : (own fr : Bool) → related free t to s ≡ fr → (lo : Bool) → related loose t to s ≡ lo → (st : Bool) → IfOk (elim own [
        | true ↦ need fr unrelated λ _. need (eqb r (base_owner ps f.place)) not_owner λ _. adapt t ps to to (base_of ps f.place)
        | false ↦ need lo unrelated λ _.
            elim st [ true ↦ ok (record { table = t; places = ps; type = to; place = f.place }) | false ↦ try (derived t sub to s) λ x. adapt x.0 ps to x.1 f.place ]
      ]) (Arrived f to)
      go true true e lo d st = ok-need (Arrived f to) (eqb r (base_owner ps f.place)) not_owner _ λ _.
          adapt-in f k.table t (grown-refl t) k.table k.places to to (base_of ps f.place) (ref-to e) to_in (rf-ref t to (ref-to e))
          (base-in t ps k.places (length ps) f.place k.place)
      go true false e lo d st = tt
      go false fr e true d true =
          record { within = record { table = k.table; places = k.places; place = k.place; isref = ref-to (loose→free t to s d) }; grow = grown-refl t; more = omega arith; type = refl }
      go false fr e true d false = let h = loose→free t to s d in ok-try _ (Arrived f to) (derived t sub to s) _ (deriving-ok t k.table sub to s h) λ x w.
          adapt-in f k.table x.0 w.1 w.0 (places-grow t x.0 k.table w.1 ps k.places) to x.1 f.place (rw (w.1.same to to_in) (ref-to h)) (omega (arith, w.1.more))
          (w.3 (rf-ref t to (ref-to h))) k.place
      go false fr e false d st = tt

  -- every type of a list, if there, lies in the table
  abbrev AllIn : ℕ → List (Option ℕ) → Type 0
  AllIn n [] = Unit
  AllIn n (x ∷ ts) = AnswerBelow n x × AllIn n ts

  below_more : (n k : ℕ) → n ≤ k → (x : Option ℕ) → AnswerBelow n x → AnswerBelow k x
  below_more n k l none h = tt
  below_more n k l (some x) h = omega arith

  all_more : (n k : ℕ) → n ≤ k → (ts : List (Option ℕ)) → AllIn n ts → AllIn k ts
  all_more n k l [] h = tt
  all_more n k l (x ∷ ts) h = (below_more n k l x h.0, all_more n k l ts h.1)

  -- a reference that has arrived at a sheet type
  pub record Landed (f g : Reference) : Type 0 where
    pub within : ReferenceIn g
    pub grow : Grown f.table g.table
    pub more : length f.places ≤ length g.places
    pub sheet : g.type < g.table.sheet

  landed-one : (f : Reference) (to : ℕ) → to < f.table.sheet → (g : Reference) → Arrived f to g → Landed f g
  landed-one f to l g a = record { within = a.within; grow = a.grow; more = a.more; sheet = rw (a.type, a.grow.sheet) l }

  cross_layers-in : (ts : List (Option ℕ)) (b : Bool) (f : Reference) → ReferenceIn f → (r : ℕ) → LastBelow f.table.sheet ts → AllIn (size f.table) ts
      → IfOk (cross_layers b f r ts) (Landed f)
  unfolding cross_layers
  cross_layers-in [] b f k r h a = absurd h
  cross_layers-in (none ∷ ts) b f k r h a = tt
  cross_layers-in (some x ∷ []) b f k r h a = ok-try (Arrived f x) (Landed f) (renumber b (cross f x r)) _ (ok-renumber (Arrived f x) b (cross f x r) (cross-in f k x r a.0)) λ g w.
      landed-one f x h g w
  cross_layers-in (some x ∷ y ∷ ts) b f k r h a = ok-try (Arrived f x) (Landed f) (renumber b (cross f x r)) _ (ok-renumber (Arrived f x) b (cross f x r) (cross-in f k x r a.0)) λ g w.
      ok-map (Landed g) (Landed f) (λ e z. record { within = z.within; grow = grown-trans w.grow z.grow; more = omega (arith, w.more, z.more); sheet = z.sheet })
      (cross_layers false g r (y ∷ ts))
      (cross_layers-in (y ∷ ts) false g w.within r (subst (λ n. LastBelow n (y ∷ ts)) (sym w.grow.sheet) h) (all_more (size f.table) (size g.table) w.grow.more (y ∷ ts) a.1))

  -- ---- states
  pub record CellIn (s : System) (c : Cell) : Type 0 where
    pub holder : c.holder < s.table.subjects
    pub place : c.place < length s.places
    pub sheet : c.type < s.table.sheet
    pub isref : So (is_ref (type_at s.table c.type).rep)

  pub record SystemIn (s : System) : Type 0 where
    pub table : TP s.table
    pub places : PlacesIn s.table s.places
    pub cell_count : length s.cells ≤ max_cells
    pub cells : (k : ℕ) → k < length s.cells → CellIn s (cell_at s k)
    pub calls : CallsIn s

  system-reference : (s : System) → SystemIn s → (k : ℕ) → k < length s.cells → ReferenceIn (leaving s k)
  system-reference s h k l = let c = h.cells k l in record { table = h.table; places = h.places; place = c.place; isref = c.isref }

  -- what stays of cells and calls as the state grows
  cell-grow : (s : System) → SystemIn s → (v : System) → Grown s.table v.table → length s.places ≤ length v.places → (c : Cell) → CellIn s c → CellIn v c
  cell-grow s h v g l c k = record {
    holder = rw g.subjects k.holder;
    place = omega (arith, k.place);
    sheet = rw g.sheet k.sheet;
    isref = rw (g.same c.type (let q = sheet-in s.table h.table in omega (arith, k.sheet))) k.isref;
  }

  call-grow : (s v : System) → Grown s.table v.table → length s.cells ≤ length v.cells → (c : Call) → CallIn s c → CallIn v c
  call-grow s v g l c k = record { caller = rw g.subjects k.caller; cell = omega (arith, k.cell); method = rw g.methods k.method }

  -- a request leaves such a state, with at least the cells there were
  pub record Left (s s' : System) : Type 0 where
    pub within : SystemIn s'
    pub grow : Grown s.table s'.table
    pub more : length s.cells ≤ length s'.cells
    pub calls : s'.calls ≡ s.calls

  add_cell-in : (s : System) → SystemIn s → (r : ℕ) → r < s.table.subjects → (f₀ : Reference) → f₀.table ≡ s.table → length s.places ≤ length f₀.places
      → (f : Reference) → Landed f₀ f
      → IfOk (add_cell s r f) (λ x. Left s x.0)
  unfolding add_cell
  add_cell-in s h r r_in f₀ e m f w = ok-need _ (ltb (length s.cells) max_cells) cells_full _ λ room.
      let l : length s.cells < max_cells = ltb-so room in
      let g : Grown s.table f.table = subst (λ t. Grown t f.table) e w.grow in
      record {
        grow = g;
        more = omega (arith, long);
        calls = refl;
        within = record {
          table = w.within.table;
          places = w.within.places;
          cell_count = omega (arith, long);
          cells = λ k i. go g k (dec_lt k (length s.cells)) (omega (arith, long));
          calls = record { each = λ j i. call-grow s (with_cell s r f) g (omega (arith, long)) (call_at s j) (h.calls.each j i); few = h.calls.few };
        };
      }
    where
      c : Cell
      c = record { holder = r; type = f.type; place = f.place }

      long : length (s.cells ++ (c ∷ [])) ≡ suc (length s.cells)
      long = length-append s.cells (c ∷ []) ∙ omega arith

      s' : System
      s' = with_cell s r f

      go : Grown s.table f.table → (k : ℕ) → Dec (k < length s.cells) → k < suc (length s.cells) → CellIn s' (get_or (s.cells ++ (c ∷ [])) k no_cell)
      go g k (yes i) u = rw (get_or-append s.cells (c ∷ []) no_cell k i) (cell-grow s h (with_cell s r f) g (omega (arith, w.more)) (cell_at s k) (h.cells k i))
      go g k (no i) u = let q : length s.cells ≡ k = omega arith in rw (get_or_at s.cells c [] no_cell k q)
          (record { holder = rw g.subjects r_in; place = w.within.place; sheet = w.sheet; isref = w.within.isref })

  send-in : (s : System) → SystemIn s → (r : ℕ) → r < s.table.subjects → (k : ℕ) → k < length s.cells → (ts : List (Option ℕ)) → LastBelow s.table.sheet ts
      → AllIn (size s.table) ts → IfOk (send s r k ts) (λ x. Left s x.0)
  unfolding send
  send-in s h r r_in k l ts last all = ok-try (Landed (leaving s k)) (λ x. Left s x.0) (cross_layers true (leaving s k) r ts) (λ f. add_cell s r f)
      (cross_layers-in ts true (leaving s k) (system-reference s h k l) r last all) λ f w. add_cell-in s h r r_in (leaving s k) refl (omega arith) f w

  -- ---- the types on a value's way lie in the table, the last of them in the sheet
  at-below : (n : ℕ) (xs : List ℕ) (i : ℕ) → AllBelow n xs → AnswerBelow n (get_elem? xs i)
  at-below n [] i h = tt
  at-below n (x ∷ xs) zero h = h.0
  at-below n (x ∷ xs) (suc i) h = at-below n xs i h.1

  all-in-map : (n : ℕ) (g : ℕ → Option ℕ) → ((l : ℕ) → AnswerBelow n (g l)) → (ls : List ℕ) → AllIn n (map g ls)
  all-in-map n g h [] = tt
  all-in-map n g h (l ∷ ls) = (h l, all-in-map n g h ls)

  -- reversal: the first becomes the last
  aux-last : (n : ℕ) (xs : List (Option ℕ)) (a : Option ℕ) (as' : List (Option ℕ)) → LastBelow n (a ∷ as') → LastBelow n (reverse_aux xs (a ∷ as'))
  aux-last n [] a acc h = h
  aux-last n (x ∷ xs) a acc h = aux-last n xs x (a ∷ acc) h

  aux-all : (n : ℕ) (xs acc : List (Option ℕ)) → AllIn n xs → AllIn n acc → AllIn n (reverse_aux xs acc)
  aux-all n [] acc h k = k
  aux-all n (x ∷ xs) acc h k = aux-all n xs (x ∷ acc) h.1 (h.0, k)

  -- what argument i, and the answer, of method m are on the way to the class or back
  module _ (s : System) (h : SystemIn s) (k : ℕ) (l : k < length s.cells) (m : ℕ) where
    argument-last : (i : ℕ) → LastBelow s.table.sheet (map (argument_at s.table m i) (call_layers s (cell_at s k)))
    argument-last i = go (layers_of s.places (cell_at s k).place)
        (layers-last s.table s.places h.places (argument_at s.table m i) s.table.sheet
        (λ c q. at-below s.table.sheet (method_at s.table c m).args i (sheet-sigs s.table h.table c m q).0)
        (length s.places) (cell_at s k).place (h.cells k l).place (h.cells k l).place)
      where
        go : (ls : List ℕ) → LastBelow s.table.sheet (map (argument_at s.table m i) ls) → LastBelow s.table.sheet (map (argument_at s.table m i) ((cell_at s k).type ∷ ls))
        go [] q = absurd q
        go (x ∷ xs) q = q

    answer-last : LastBelow s.table.sheet (reverse (map (answer_at s.table m) (call_layers s (cell_at s k))))
    answer-last = aux-last s.table.sheet (map (answer_at s.table m) (layers_of s.places (cell_at s k).place)) (answer_at s.table m (cell_at s k).type) []
        (sheet-sigs s.table h.table (cell_at s k).type m (h.cells k l).sheet).1

    answer-all : AllIn (size s.table) (reverse (map (answer_at s.table m) (call_layers s (cell_at s k))))
    answer-all = aux-all (size s.table) (map (answer_at s.table m) (call_layers s (cell_at s k))) []
        (all-in-map (size s.table) (answer_at s.table m) (λ c. (sigs-in s.table h.table c m).1) (call_layers s (cell_at s k))) tt

  -- what the layers have for an argument is the same in a table that has grown, if they lie in the old one
  arguments-grow : (t u : Table) → Grown t u → (m i : ℕ) (ls : List ℕ) → AllBelow (size t) ls → map (argument_at u m i) ls ≡ map (argument_at t m i) ls
  arguments-grow t u g m i [] h = refl
  arguments-grow t u g m i (x ∷ xs) h = ap (λ (y : Option ℕ). y ∷ map (argument_at u m i) xs) (ap (λ y. get_elem? (get_or y.methods m no_method).args i) (g.same x h.0))
      ∙ ap {B = List (Option ℕ)} (λ r. argument_at t m i x ∷ r) (arguments-grow t u g m i xs h.1)

  -- what the arguments still need: types on their way, and cells where references are due
  pub record Sending (s : System) (ls : List ℕ) (m : ℕ) : Type 0 where
    pub in_table : AllBelow (size s.table) ls
    pub last : (i : ℕ) → LastBelow s.table.sheet (map (argument_at s.table m i) ls)

  sending-on : (s s' : System) (ls : List ℕ) (m : ℕ) → Grown s.table s'.table → Sending s ls m → Sending s' ls m
  sending-on s s' ls m g w = record {
    in_table = all-below-more g.more ls w.in_table;
    last = λ i. rw (arguments-grow s.table s'.table g m i ls w.in_table, g.sheet) (w.last i);
  }

  left-on : {s u v : System} → Left s u → Left u v → Left s v
  left-on p q = record { within = q.within; grow = grown-trans p.grow q.grow; more = omega (arith, p.more, q.more); calls = q.calls ∙ p.calls }

  module _ (r : ℕ) (ls : List ℕ) (m : ℕ) where
    send_arguments-in : (xs : List ℕ) (vs : List ℤ) (i : ℕ) (s : System) → SystemIn s → r < s.table.subjects → Sending s ls m → AllBelow (size s.table) xs → Held s xs vs
        → IfOk (send_arguments s r ls m i xs vs) (Left s)
    unfolding send_arguments
    send_arguments-in [] vs i s h q w n e = record { within = h; grow = grown-refl s.table; more = omega arith; calls = refl }
    send_arguments-in (a ∷ xs) [] i s h q w n e = record { within = h; grow = grown-refl s.table; more = omega arith; calls = refl }
    send_arguments-in (a ∷ xs) (v ∷ vs) i s h q w n e = go (is_ref (type_at s.table a).rep) e.0 (λ s' h' q' w' n' e'. send_arguments-in xs vs (suc i) s' h' q' w' n' e')
      where
        ts : List (Option ℕ)
        ts = map (argument_at s.table m i) ls

        go : (b : Bool) → (So b → named v < length s.cells)
            →
            ((s' : System) → SystemIn s' → r < s'.table.subjects → Sending s' ls m → AllBelow (size s'.table) xs → Held s' xs vs
            → IfOk (send_arguments s' r ls m (suc i) xs vs) (Left s'))
            → IfOk (elim b [
              | true ↦ try (send s r (named v) ts) λ x. send_arguments x.0 r ls m (suc i) xs vs
              | false ↦ try (pass_layers true s.table v ts) λ _. send_arguments s r ls m (suc i) xs vs
            ]) (Left s)
        go true l ih = ok-try (λ x. Left s x.0) (Left s) (send s r (named v) ts) (λ x. send_arguments x.0 r ls m (suc i) xs vs)
            (send-in s h r q (named v) (l refl) ts (w.last i)
            (all-in-map (size s.table) (argument_at s.table m i) (λ c. at-below (size s.table) (method_at s.table c m).args i (sigs-in s.table h.table c m).0) ls)) λ x d.
            ok-map (Left x.0) (Left s) (λ y z. left-on d z) (send_arguments x.0 r ls m (suc i) xs vs)
            (ih x.0 d.within (rw d.grow.subjects q) (sending-on s x.0 ls m d.grow w) (all-below-more d.grow.more xs n.1)
            (held_more s x.0 d.grow d.more xs vs n.1 e.1))
        go false l ih = ok-try (λ _. Unit) (Left s) (pass_layers true s.table v ts) (λ _. send_arguments s r ls m (suc i) xs vs) (whatever (pass_layers true s.table v ts)) λ _ _.
            ih s h q w n.1 e.1

  -- ---- the four requests
  after-in : {s : System} (x : System × Result) → Left s x.0 → SystemIn x.0
  after-in x w = w.within

  module _ (s : System) (h : SystemIn s) where
    new_in : (subject class to : ℤ) → IfOk (new_request s subject class to) (λ x. SystemIn x.0)
    unfolding new_request
    new_in subject class to =
        ok-need _ (names subject s.table.subjects) unknown_subject _ λ a.
        ok-need _ (names class s.table.sheet && is_class (type_at s.table (named class))) unknown_type _ λ c.
        ok-need _ (is_sheet_ref s.table to) unknown_type _ λ d.
        ok-need _ (ltb (length s.places) max_places) places_full _ λ e.
        go (names-below subject _ a) (names-below class _ (first (names class s.table.sheet) _ c)) (second (names class s.table.sheet) _ c)
        (names-below to _ (first (names to s.table.sheet) _ d)) (ltb-so e)
      where
        t : Table
        t = s.table

        x : Place
        x = object (named class) (named subject)

        f : Reference
        f = record { table = s.table; places = s.places ++ (object (named class) (named subject) ∷ []); type = named class; place = length s.places }

        go : named subject < t.subjects → named class < t.sheet → So (is_class (type_at t (named class))) → named to < t.sheet → length s.places < max_places
            → IfOk (try (cross f (named to) (named subject)) λ y. add_cell s (named subject) y) (λ x. SystemIn x.0)
        go a c i d e =
            let q = sheet-in t h.table in
            let k : ReferenceIn f =
            record {
              table = h.table;
              places = places-add t s.places h.places e x (a, c, i);
              place = omega (arith, length-append s.places (x ∷ []));
              isref = first (is_ref (type_at t (named class)).rep) _ i;
            } in
            ok-try (Arrived f (named to)) _ (cross f (named to) (named subject)) _ (cross-in f k (named to) (named subject) (omega arith)) λ g w.
            ok-map (λ x. Left s x.0) (λ x. SystemIn x.0) after-in (add_cell s (named subject) g)
            (add_cell-in s h (named subject) a f refl (omega (arith, length-append s.places (x ∷ []))) g (landed-one f (named to) d g w))

    move_in : (subject k receiver to : ℤ) → IfOk (move_request s subject k receiver to) (λ x. SystemIn x.0)
    unfolding move_request
    move_in subject k receiver to =
        ok-need _ (names subject s.table.subjects && names receiver s.table.subjects) unknown_subject _ λ a.
        ok-need _ (held s subject k) not_held _ λ c.
        ok-need _ (is_sheet_ref s.table to) unknown_type _ λ d.
        let l = held-in s subject k c in let q = sheet-in s.table h.table in let n = names-below to _ (first (names to s.table.sheet) _ d) in
        let r = names-below receiver _ (second (names subject s.table.subjects) _ a) in
        ok-try (Arrived (leaving s (named k)) (named to)) _ (cross (leaving s (named k)) (named to) (named receiver)) _
        (cross-in (leaving s (named k)) (system-reference s h (named k) l) (named to) (named receiver) (omega arith)) λ g w.
        ok-map (λ x. Left s x.0) (λ x. SystemIn x.0) after-in (add_cell s (named receiver) g)
        (add_cell-in s h (named receiver) r (leaving s (named k)) refl (omega arith) g (landed-one (leaving s (named k)) (named to) n g w))

    owner-of : (k : ℕ) → k < length s.cells → base_owner s.places (cell_at s k).place < s.table.subjects
    owner-of k l = owner-in s.table s.places h.places (length s.places) (cell_at s k).place (h.cells k l).place (h.cells k l).place

    call-layers-in : (k m : ℕ) → k < length s.cells → Sending s (call_layers s (cell_at s k)) m
    call-layers-in k m l = let q = sheet-in s.table h.table in
        record {
          in_table = (omega (arith, (h.cells k l).sheet), layers-below s.table s.places h.places (length s.places) (cell_at s k).place q (h.cells k l).place);
          last = argument-last s h k l m;
        }

  with-call-in : (x : System) → SystemIn x → (c : Call) → made_by c.caller x.calls < max_calls_each → CallIn x c → SystemIn (with_call x c)
  with-call-in x h c room k =
      record {
        table = h.table;
        places = h.places;
        cell_count = h.cell_count;
        cells = λ i l. same-cell (h.cells i l);
        calls = record { each = λ j l. go j (dec_lt j (length x.calls)) (omega (arith, long)); few = (calling-more (calling x h.calls) c k.caller room).few };
      }
    where
      long : length (x.calls ++ (c ∷ [])) ≡ suc (length x.calls)
      long = length-append x.calls (c ∷ []) ∙ omega arith

      same-cell : {y : Cell} → CellIn x y → CellIn (with_call x c) y
      same-cell d = record { holder = d.holder; place = d.place; sheet = d.sheet; isref = d.isref }

      same-call : {y : Call} → CallIn x y → CallIn (with_call x c) y
      same-call d = record { caller = d.caller; cell = d.cell; method = d.method }

      go : (j : ℕ) → Dec (j < length x.calls) → j < suc (length x.calls) → CallIn (with_call x c) (get_or (x.calls ++ (c ∷ [])) j no_call)
      go j (yes l) u = rw (get_or-append x.calls (c ∷ []) no_call j l) (same-call (h.calls.each j l))
      go j (no l) u = rw (get_or_at x.calls c [] no_call j (omega arith)) (same-call k)

  with-answer-in : (x : System) → SystemIn x → (i : ℕ) → i < length x.calls → SystemIn (with_answer x i)
  with-answer-in x h i i_in = record {
    table = h.table;
    places = h.places;
    cell_count = h.cell_count;
    cells = λ k l. let d = h.cells k l in record { holder = d.holder; place = d.place; sheet = d.sheet; isref = d.isref };
    calls = record { each = λ j l. go j (ℕ_discrete j i) (omega (arith, long)); few = λ n. rw (made-answered n x.calls i true) (h.calls.few n) };
  }
    where
      c : Call
      c = flagged (call_at x i) true

      long : length (set x.calls i c) ≡ length x.calls
      long = length-set x.calls i c

      go : (j : ℕ) → Dec (j ≡ i) → j < length x.calls → CallIn (with_answer x i) (get_or (set x.calls i c) j no_call)
      go j (yes e) l = rw (e, get_or-set_same x.calls i c no_call i_in) (let d = h.calls.each i i_in in record { caller = d.caller; cell = d.cell; method = d.method })
      go j (no e) l = rw (get_or-set_other x.calls i j c no_call e) (let d = h.calls.each j l in record { caller = d.caller; cell = d.cell; method = d.method })

  module _ (s : System) (h : SystemIn s) where
    call-in : (subject k m : ℤ) (vs : List ℤ) → IfOk (call_request s subject k m vs) (λ x. SystemIn x.0)
    unfolding call_request
    call-in subject k m vs =
        ok-need _ (names subject s.table.subjects) unknown_subject _ λ a.
        ok-need _ (held s subject k) not_held _ λ c.
        ok-need _ (names m s.table.methods && is_avail (method_at s.table (cell_at s (named k)).type (named m)).state) not_callable _ λ d.
        ok-need _ (arguments_held s subject (method_at s.table (cell_at s (named k)).type (named m)).args vs) wrong_values _ λ e.
        ok-need _ (ltb (made_by (named subject) s.calls) max_calls_each) calls_full _ λ room.
        go (names-below subject _ a) (held-in s subject k c) (names-below m _ (first (names m s.table.methods) _ d)) e (ltb-so room)
      where
        ty : ℕ
        ty = (cell_at s (named k)).type

        ls : List ℕ
        ls = call_layers s (cell_at s (named k))

        r : ℕ
        r = base_owner s.places (cell_at s (named k)).place

        xs : List ℕ
        xs = (method_at s.table (cell_at s (named k)).type (named m)).args

        c : Call
        c = record { caller = named subject; cell = named k; method = named m; answered = false }

        go : named subject < s.table.subjects → named k < length s.cells → named m < s.table.methods → So (arguments_held s subject xs vs) → made_by (named subject) s.calls < max_calls_each
            → IfOk {A = System × Result} (try (send_arguments s r ls (named m) 0 xs vs) λ x. ok (with_call x c, pair (length s.calls) (adapter_count s.places (cell_at s (named k)).place)))
            (λ x. SystemIn x.0)
        go a l d e room = ok-try (Left s) _ (send_arguments s r ls (named m) 0 xs vs) _
            (send_arguments-in r ls (named m) xs vs 0 s h (owner-of s h (named k) l) (call-layers-in s h (named k) (named m) l) (sigs-in s.table h.table ty (named m)).0
            (arguments-in s subject xs vs e)) λ x w.
            with-call-in x w.within c (subst (λ cs. made_by (named subject) cs < max_calls_each) (sym w.calls) room)
            (record { caller = rw w.grow.subjects a; cell = omega (arith, w.more); method = rw w.grow.methods d })

    give-in : (subject : ℤ) (i : ℕ) (due : Option ℕ) (v : Option ℤ) → i < length s.calls → IfOk (give s subject i due v) (λ x. SystemIn x.0)
    unfolding give
    give-in subject i none none l = with-answer-in s h i l
    give-in subject i none (some v) l = tt
    give-in subject i (some a) none l = tt
    give-in subject i (some a) (some v) l = go (is_ref (type_at s.table a).rep)
      where
        k : ℕ
        k = (call_at s i).cell

        ts : List (Option ℕ)
        ts = reverse (map (answer_at s.table (call_at s i).method) (call_layers s (cell_at s k)))

        go : (b : Bool) → IfOk {A = System × Result} (elim b [
          | true ↦ need (held s subject v) wrong_values λ _. try (send s (call_at s i).caller (named v) ts) λ x. ok (with_answer x.0 i, x.1)
          | false ↦ try (pass_layers true s.table v ts) λ _. ok (with_answer s i, number v)
        ]) (λ x. SystemIn x.0)
        go true = ok-need _ (held s subject v) wrong_values _ λ e. let c = h.calls.each i l in
            ok-try (λ x. Left s x.0) _ (send s (call_at s i).caller (named v) ts) _
            (send-in s h (call_at s i).caller c.caller (named v) (held-in s subject v e) ts (answer-last s h k c.cell (call_at s i).method)
            (answer-all s h k c.cell (call_at s i).method)) λ x w.
            with-answer-in x.0 w.within i (subst (λ cs. i < length cs) (sym w.calls) l)
        go false = ok-try (λ _. Unit) _ (pass_layers true s.table v ts) _ (whatever (pass_layers true s.table v ts)) λ _ _. with-answer-in s h i l

    answer-in : (subject i : ℤ) (v : Option ℤ) → IfOk (answer_request s subject i v) (λ x. SystemIn x.0)
    unfolding answer_request
    answer-in subject i v =
        ok-need _ (names subject s.table.subjects) unknown_subject _ λ _.
        ok-need _ (names i (length s.calls) && eqb (named subject) (base_owner s.places (cell_at s (call_at s (named i)).cell).place)) not_held _ λ e.
        ok-need _ (not (call_at s (named i)).answered) answered_already _ λ _. give-in subject (named i) (answer_at s.table (call_at s (named i)).method (cell_at s (call_at s (named i)).cell).type) v
        (names-below i _ (first (names i (length s.calls)) _ e))

    kept : (m : Res (System × Result)) → IfOk m (λ x. SystemIn x.0) → SystemIn (after s m)
    kept (refuse e) k = h
    kept (ok x) k = k

    -- one request
    pub serve-in : (q : Request) → SystemIn (after s (serve s q))
    unfolding serve
    serve-in (new a b c) = kept (new_request s a b c) (new_in s h a b c)
    serve-in (move a b c d) = kept (move_request s a b c d) (move_in s h a b c d)
    serve-in (call a b c vs) = kept (call_request s a b c vs) (call-in a b c vs)
    serve-in (answer a b v) = kept (answer_request s a b v) (answer-in a b v)
