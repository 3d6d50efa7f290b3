-- A reference and its page: what the two have in common, and that a crossing keeps it.
use mathlib.Core.Path.{◌≡◌, refl, ap, sym, subst, ◌∙◌}
use mathlib.Core.Logic.{◌↔◌}
use mathlib.Core.Bool.{Bool, true, false, So, cond}
use mathlib.Core.List.{List, [], ◌∷◌, ◌++◌}
use mathlib.Core.Option.{Option, none, some}
use Prim.Native.Nat.{ℕ, zero, suc, ◌<◌}
use native.Mathlib.Nat.{not-suc-le-zero}
use native.Mathlib.Omega.{arith}
use lib.Dec.{eqb, ltb}
use lib.ListN.{length, length-append}
use lib.Seq.{get_or-append_seam}
use Rattle.spec_model.specs.Basics.{Res, refuse, ok, try, need, AllBelow}
use Rattle.spec_model.specs.Table.{sub, closed, Table, max_types, size, type_at}
use Rattle.spec_model.specs.Relations.{subtype, conforms, strict, loose, free, related}
use Rattle.spec_model.specs.Restriction.{derive, derived}
use Rattle.spec_model.specs.Crossing.{Place, object, adapter, no_place, max_places, place_type, owner_of, place_at, base, base_of, Reference, adapt, cross}
use Rattle.spec_model.specs.Requests.{layers, renumber, cross_layers}
use Rattle.spec_model.specs.Chains.{Permits, AllPermit}
use Rattle.spec_model.specs.Book.{Page, last_or, last_type, last_closed, empty_page, joins, add_closed, page_adapt, page_cross, page_cross_all}
use Rattle.spec_model.proofs.Largest.{keeps-related}
use Rattle.spec_model.proofs.Lists.{Prefix, prefix_refl, prefix_trans, prefix-add}
use Rattle.spec_model.proofs.Growth.{Grown, grown-refl, grown-trans, related-grow, permits-grow}
use Rattle.spec_model.specs.Refusals.{unrelated, not_owner, not_strict, types_full, places_full}
use Rattle.law_model.proofs.Completes.{all-below-more}
use Rattle.law_model.proofs.Good.{Good}
use Rattle.law_model.proofs.Steps.{IfOk, ok-try, ok-map, ok-need, finish, Crossed, typed, typed-ok, Settled, settled-grow, or_else, Before, Passed}

-- places are only added
abbrev pub Kept : List Place → List Place → Type 0
Kept ps qs = Prefix no_place ps qs

-- place p is the closed types ks, outermost first, over an object of class c
abbrev pub Unwinds : List Place → ℕ → ℕ → List ℕ → Type 0
Unwinds ps p c [] = (o : ℕ) × (p < length ps) × (place_at ps p ≡ object c o)
Unwinds ps p c (k ∷ ks) = (b : ℕ) × (p < length ps) × (place_at ps p ≡ adapter b k) × (b < p) × Unwinds ps b c ks

pub unwinds-kept : {ps qs : List Place} → Kept ps qs → (p c : ℕ) (ks : List ℕ) → Unwinds ps p c ks → Unwinds qs p c ks
unwinds-kept e p c [] u = (u.0, omega (arith, u.1, e.more), e.same p u.1 ∙ u.2)
unwinds-kept e p c (k ∷ ks) u = (u.0, omega (arith, u.1, e.more), e.same p u.1 ∙ u.2, u.3, unwinds-kept e u.0 c ks u.4)

pub unwinds-in : (ps : List Place) (p c : ℕ) (ks : List ℕ) → Unwinds ps p c ks → p < length ps
unwinds-in ps p c [] u = u.1
unwinds-in ps p c (k ∷ ks) u = u.1

pub unwinds-type : (ps : List Place) (p c : ℕ) (ks : List ℕ) → Unwinds ps p c ks → place_type (place_at ps p) ≡ last_or ks c
unwinds-type ps p c [] u = ap place_type u.2
unwinds-type ps p c (k ∷ ks) u = ap place_type u.2

-- the base is an object of the class
pub base-is : (f : ℕ) (ps : List Place) (p c : ℕ) (ks : List ℕ) → p < f → Unwinds ps p c ks → Unwinds ps (base f ps p) c []
unfolding base
base-is zero ps p c ks l u = absurd (not-suc-le-zero l)
base-is (suc f) ps p c [] l u = subst (λ x. Unwinds ps (elim x [ object c o ↦ p | adapter b c ↦ base f ps b ]) c []) (sym u.2) u
base-is (suc f) ps p c (k ∷ ks) l u = subst (λ x. Unwinds ps (elim x [ object c o ↦ p | adapter b c ↦ base f ps b ]) c []) (sym u.2) (base-is f ps u.0 c ks (omega (arith, u.3)) u.4)

-- the layers are the closed types and the class
pub layers-are : (f : ℕ) (ps : List Place) (p c : ℕ) (ks : List ℕ) → p < f → Unwinds ps p c ks → layers f ps p ≡ ks ++ (c ∷ [])
unfolding layers
layers-are zero ps p c ks l u = absurd (not-suc-le-zero l)
layers-are (suc f) ps p c [] l u = ap (λ x. elim x [ object c o ↦ c ∷ [] | adapter b c ↦ c ∷ layers f ps b ]) u.2
layers-are (suc f) ps p c (k ∷ ks) l u = ap (λ x. elim x [ object c o ↦ c ∷ [] | adapter b c ↦ c ∷ layers f ps b ]) u.2
    ∙ ap {B = List ℕ} (λ x. k ∷ x) (layers-are f ps u.0 c ks (omega (arith, u.3)) u.4)

-- Reference f has page g.
pub record Track (f : Reference) (g : Page) : Type 0 where
  pub last : last_type g ≡ f.type
  pub unwinds : Unwinds f.places f.place g.class g.closed
  pub class_in : g.class < size f.table
  pub class_settled : Settled f.table g.class
  pub below : So (related conforms f.table f.type (last_closed g))
  pub settled : Settled f.table (last_closed g)
  pub trail_in : AllBelow (size f.table) g.trail
  pub chains : (w : List ℕ) → (Permits f.table f.type w × Permits f.table (last_closed g) w) ↔ (Permits f.table g.class w × AllPermit f.table g.trail w)

-- the latest type of the page's trail is the reference's
abbrev pub Trailed : Reference → Page → Type 0
Trailed f g = (before : List ℕ) × (g.trail ≡ f.type ∷ before)

-- the same reference in a table that has grown, with places added
abbrev pub moved : Reference → Table → List Place → Reference
moved f u qs = record { table = u; places = qs; type = f.type; place = f.place }

module _ (t u : Table) (x : Grown t u) (good : Good t) where
  all-grow : (xs : List ℕ) → AllBelow (size t) xs → (w : List ℕ) → AllPermit t xs w ↔ AllPermit u xs w
  all-grow [] h w = (λ k. k, λ k. k)
  all-grow (y ∷ ys) h w = let p = permits-grow t u x good.sigs w y h.0 in let q = all-grow ys h.1 w in (λ k. (p.0 k.0, q.0 k.1), λ k. (p.1 k.0, q.1 k.1))

pub track-grow : (f : Reference) (u : Table) → Grown f.table u → Good f.table → (qs : List Place) → Kept f.places qs → (g : Page) → Track f g → Track (moved f u qs) g
track-grow f u x good qs e g k =
    let t = f.table in let s = f.type in
    let q = keeps-related conforms t s (last_closed g) k.below in
    let a : (w : List ℕ) → Permits t s w ↔ Permits u s w = λ w. permits-grow t u x good.sigs w s q.low in
    let b : (w : List ℕ) → Permits t (last_closed g) w ↔ Permits u (last_closed g) w = λ w. permits-grow t u x good.sigs w (last_closed g) q.high in
    let c : (w : List ℕ) → Permits t g.class w ↔ Permits u g.class w = λ w. permits-grow t u x good.sigs w g.class k.class_in in
    let d = all-grow t u x good g.trail k.trail_in in
    record {
      last = k.last;
      unwinds = unwinds-kept e f.place g.class g.closed k.unwinds;
      class_in = omega (arith, k.class_in, x.more);
      class_settled = settled-grow t u x g.class k.class_in k.class_settled;
      below = related-grow t u x conforms s (last_closed g) k.below;
      settled = settled-grow t u x (last_closed g) q.high k.settled;
      trail_in = all-below-more x.more g.trail k.trail_in;
      chains = λ w. (
        (λ h. let r = (k.chains w).0 ((a w).1 h.0, (b w).1 h.1) in ((c w).0 r.0, (d w).0 r.1)),
        λ h. let r = (k.chains w).1 ((c w).1 h.0, (d w).1 h.1) in ((a w).0 r.0, (b w).0 r.1),
      );
    }

-- What a crossing by types leaves in the places: b is the base of p
unfoldable pub land : List Place → ℕ → ℕ → ℕ → Crossed → Res Reference
land ps to p b x = elim x.adapter [
  | none ↦ ok (record { table = x.table; places = ps; type = to; place = cond x.unwraps b p })
  | some c ↦ need (ltb (length ps) max_places) places_full λ _.
      ok (record { table = x.table; places = ps ++ (adapter (cond x.unwraps b p) c ∷ []); type = to; place = length ps })
]

abbrev mark : Bool → Table × Option ℕ → Res Crossed
mark w x = ok (record { table = x.0; unwraps = w; adapter = x.1 })

adapt-is : (t : Table) (ps : List Place) (to r p b : ℕ) (w : Bool)
    → adapt t ps to r (cond w b p) ≡ try (try (finish t r (place_type (place_at ps (cond w b p)))) (mark w)) (land ps to p b)
unfolding adapt finish land
adapt-is t ps to r p b w = go (related conforms t r v) (related strict t r v) (derived t closed r v)
  where
    v : ℕ
    v = place_type (place_at ps (cond w b p))

    go : (c s : Bool) (m : Res (Table × ℕ)) → ◌≡◌ {A = Res Reference}
        (elim c [
          | true ↦ ok (record { table = t; places = ps; type = to; place = cond w b p })
          | false ↦ need s not_strict λ _. try m λ x. need (ltb (length ps) max_places) places_full λ _.
              ok (record { table = x.0; places = ps ++ (adapter (cond w b p) x.1 ∷ []); type = to; place = length ps })
        ])
        (try (try (elim c as (λ _. Res (Table × Option ℕ)) [ true ↦ ok (t, none) | false ↦ need s not_strict λ _. try m λ p. ok (p.0, some p.1) ]) (mark w)) (land ps to p b))
    go true s m = refl
    go false false m = refl
    go false true (refuse e) = refl
    go false true (ok x) = refl

-- the crossing is the crossing by types, then landed
pub cross-is : (f : Reference) (to r : ℕ) → let b = base_of f.places f.place in
    cross f to r ≡ try (typed f.table f.type to (place_type (place_at f.places f.place)) (place_type (place_at f.places b)) (eqb r (owner_of (place_at f.places b))))
    (land f.places to f.place b)
unfolding cross typed land
cross-is f to r = go (type_at t to).own (related free t to s) (eqb r (owner_of (place_at ps b))) (related loose t to s) (related subtype t to s) (derived t sub to s)
  where
    t : Table
    t = f.table

    ps : List Place
    ps = f.places

    s : ℕ
    s = f.type

    p : ℕ
    p = f.place

    b : ℕ
    b = base_of f.places f.place

    go : (own fr ow lo st : Bool) (m : Res (Table × ℕ)) → ◌≡◌ {A = Res Reference}
        (elim own [
          | true ↦ need fr unrelated λ _. need ow not_owner λ _. adapt t ps to to b
          | false ↦ need lo unrelated λ _. elim st [ true ↦ ok (record { table = t; places = ps; type = to; place = p }) | false ↦ try m λ x. adapt x.0 ps to x.1 p ]
        ])
        (try (elim own as (λ _. Res Crossed) [
          | true ↦ need fr unrelated λ _. need ow not_owner λ _. try (finish t to (place_type (place_at ps b))) (mark true)
          | false ↦ need lo unrelated λ _.
              elim st [ true ↦ ok (record { table = t; unwraps = false; adapter = none }) | false ↦ try m λ x. try (finish x.0 x.1 (place_type (place_at ps p))) (mark false) ]
        ]) (land ps to p b))
    go true true true lo st m = adapt-is t ps to to p b true
    go true true false lo st m = refl
    go true false ow lo st m = refl
    go false fr ow true true m = refl
    go false fr ow true false (refuse e) = refl
    go false fr ow true false (ok x) = adapt-is x.0 ps to x.1 p b false
    go false fr ow false st m = refl

-- What a crossing by types does to a page
abbrev pub add : Option ℕ → List ℕ → List ℕ
add none xs = xs
add (some c) xs = c ∷ xs

abbrev pub crossed_page : Page → ℕ → Crossed → Page
crossed_page g to x = record { class = g.class; closed = add x.adapter (cond x.unwraps [] g.closed); trail = to ∷ cond x.unwraps [] g.trail }

page-adapts : (t : Table) (g : Page) (to r : ℕ) → IfOk (finish t r (last_closed g))
    (λ q. page_adapt t g to r ≡ (q.0, record { class = g.class; closed = add q.1 g.closed; trail = to ∷ g.trail }))
unfolding finish page_adapt derived
page-adapts t g to r = go (related conforms t r (last_closed g)) (related strict t r (last_closed g)) (derive max_types t closed r (last_closed g))
  where
    go : (c s : Bool) (o : Option (Table × ℕ)) → IfOk {A = Table × Option ℕ} (elim c
        [ true ↦ ok (t, none) | false ↦ need s not_strict λ _. try {A = Table × ℕ} (elim o [ none ↦ refuse types_full | some p ↦ ok p ]) λ p. ok (p.0, some p.1) ])
        (λ q. ◌≡◌ {A = Table × Page} (elim c [ true ↦ (t, joins to g) | false ↦ elim o [ none ↦ (t, g) | some x ↦ (x.0, joins to (add_closed x.1 g)) ] ])
        (q.0, record { class = g.class; closed = add q.1 g.closed; trail = to ∷ g.trail }))
    go true s o = refl
    go false false o = tt
    go false true none = tt
    go false true (some x) = refl

-- an accepted crossing by types is what the book does, whoever owns the base
page-crosses : (t : Table) (g : Page) (to : ℕ) (owns : Bool) → IfOk (typed t (last_type g) to (last_closed g) g.class owns) (λ x. page_cross t g to ≡ (x.table, crossed_page g to x))
unfolding typed page_cross derived
page-crosses t g to owns = go (type_at t to).own (related free t to (last_type g)) owns (related loose t to (last_type g)) (related subtype t to (last_type g)) (derive max_types t sub to (last_type g))
  where
    go : (own fr ow lo st : Bool) (o : Option (Table × ℕ)) → IfOk (elim own as (λ _. Res Crossed) [
      | true ↦ need fr unrelated λ _. need ow not_owner λ _. try (finish t to g.class) (mark true)
      | false ↦ need lo unrelated λ _. elim st [
        | true ↦ ok (record { table = t; unwraps = false; adapter = none })
        | false ↦ try {A = Table × ℕ} (elim o [ none ↦ refuse types_full | some p ↦ ok p ]) λ x. try (finish x.0 x.1 (last_closed g)) (mark false)
      ]
    ])
        (λ x. ◌≡◌ {A = Table × Page} (elim own [
          | true ↦ page_adapt t (empty_page g.class) to to
          | false ↦ elim st [ true ↦ (t, joins to g) | false ↦ elim o [ none ↦ (t, g) | some x ↦ page_adapt x.0 g to x.1 ] ]
        ]) (x.table, crossed_page g to x))
    go true true true lo st o = ok-try _ _ (finish t to g.class) (mark true) (page-adapts t (empty_page g.class) to to) λ q e. e
    go true true false lo st o = tt
    go true false ow lo st o = tt
    go false fr ow true true o = refl
    go false fr ow true false none = tt
    go false fr ow true false (some x) = ok-try _ _ (finish x.0 x.1 (last_closed g)) (mark false) (page-adapts x.0 g to x.1) λ q e. e
    go false fr ow false st o = tt

-- What has become of a reference f and its page: f', with the table and the page of b
pub record Flown (f : Reference) (b : Table × Page) (f' : Reference) : Type 0 where
  pub good : Good f'.table
  pub grow : Grown f.table f'.table
  pub kept : Kept f.places f'.places
  pub book : b.0 ≡ f'.table
  pub track : Track f' b.1
  pub trailed : Trailed f' b.1

module _ (f : Reference) (good : Good f.table) (g : Page) (k : Track f g) (to : ℕ) where
  b : ℕ
  b = base_of f.places f.place

  at_base : Unwinds f.places b g.class []
  unfolding b
  at_base = base-is (length f.places) f.places f.place g.class g.closed (unwinds-in f.places f.place g.class g.closed k.unwinds) k.unwinds

  settle : (u : Table) (w : Bool) (a : Option ℕ) → Passed f.table f.type to (last_closed g) g.class (record { table = u; unwraps = w; adapter = a })
      → (qs : List Place) → Kept f.places qs → (q : ℕ) → Unwinds qs q g.class (add a (cond w [] g.closed))
      → Flown f (u, crossed_page g to (record { table = u; unwraps = w; adapter = a })) (record { table = u; places = qs; type = to; place = q })
  settle u w a h qs e q z =
      let y = track-grow f u h.grow good qs e g k in
      record {
        good = h.good;
        grow = h.grow;
        kept = e;
        book = refl;
        trailed = (cond w [] g.trail, refl);
        track = record {
          last = refl;
          unwinds = z;
          class_in = y.class_in;
          class_settled = y.class_settled;
          below = go₁ a w h.below;
          settled = go₂ a w h.settled;
          trail_in = ((keeps-related conforms u to _ h.below).low, go₃ w y.trail_in);
          chains = λ c. go₄ a w c (h.chains c) (y.chains c);
        };
      }
    where
      top : (a : Option ℕ) (w : Bool) → ℕ
      top a w = or_else a (cond w g.class (last_closed g))

      go₁ : (a : Option ℕ) (w : Bool) → So (related conforms u to (top a w)) → So (related conforms u to (last_or (add a (cond w [] g.closed)) g.class))
      go₁ none true h = h
      go₁ none false h = h
      go₁ (some c) w h = h

      go₂ : (a : Option ℕ) (w : Bool) → Settled u (top a w) → Settled u (last_or (add a (cond w [] g.closed)) g.class)
      go₂ none true h = h
      go₂ none false h = h
      go₂ (some c) w h = h

      go₃ : (w : Bool) → AllBelow (size u) g.trail → AllBelow (size u) (cond w [] g.trail)
      go₃ true h = tt
      go₃ false h = h

      go₄ : (a : Option ℕ) (w : Bool) (c : List ℕ) → (Permits u to c × Permits u (top a w) c) ↔ (Permits u to c × Before u w f.type (last_closed g) g.class c)
          → (Permits u f.type c × Permits u (last_closed g) c) ↔ (Permits u g.class c × AllPermit u g.trail c)
          → (Permits u to c × Permits u (last_or (add a (cond w [] g.closed)) g.class) c) ↔ (Permits u g.class c × (Permits u to c × AllPermit u (cond w [] g.trail) c))
      go₄ none true c h y = (λ x. let r = h.0 x in (r.1, (r.0, tt)), λ x. h.1 (x.1.0, x.0))
      go₄ (some i) true c h y = (λ x. let r = h.0 x in (r.1, (r.0, tt)), λ x. h.1 (x.1.0, x.0))
      go₄ none false c h y = (λ x. let r = h.0 x in let q = y.0 r.1 in (q.0, (r.0, q.1)), λ x. h.1 (x.1.0, y.1 (x.0, x.1.1)))
      go₄ (some i) false c h y = (λ x. let r = h.0 x in let q = y.0 r.1 in (q.0, (r.0, q.1)), λ x. h.1 (x.1.0, y.1 (x.0, x.1.1)))

  behind : (w : Bool) → Unwinds f.places (cond w b f.place) g.class (cond w [] g.closed)
  behind true = at_base
  behind false = k.unwinds

  landed : (u : Table) (w : Bool) (a : Option ℕ) → Passed f.table f.type to (last_closed g) g.class (record { table = u; unwraps = w; adapter = a })
      → IfOk (land f.places to f.place b (record { table = u; unwraps = w; adapter = a })) (Flown f (u, crossed_page g to (record { table = u; unwraps = w; adapter = a })))
  unfolding land
  landed u w none h = settle u w none h f.places (prefix_refl no_place f.places) (cond w b f.place) (behind w)
  landed u w (some c) h = let ps = f.places in let q = cond w b f.place in ok-need _ (ltb (length ps) max_places) places_full _ λ _.
      settle u w (some c) h (ps ++ (adapter q c ∷ [])) (prefix-add no_place ps _) (length ps) (
        q,
        omega (arith, length-append ps (adapter q c ∷ [])),
        get_or-append_seam ps (adapter q c) [] no_place,
        unwinds-in ps q g.class (cond w [] g.closed) (behind w),
        unwinds-kept (prefix-add no_place ps _) q g.class (cond w [] g.closed) (behind w),
      )

  from-typed : (m : Res Crossed) → IfOk m (Passed f.table f.type to (last_closed g) g.class) → IfOk m (λ x. page_cross f.table g to ≡ (x.table, crossed_page g to x))
      → IfOk (try m (land f.places to f.place b)) (Flown f (page_cross f.table g to))
  from-typed (refuse e) h q = tt
  from-typed (ok x) h q = subst (λ y. IfOk (land f.places to f.place b x) (Flown f y)) (sym q) (landed x.table x.unwraps x.adapter h)

  -- a crossing keeps the tie between a reference and its page
  pub cross-ok : (r : ℕ) → IfOk (cross f to r) (Flown f (page_cross f.table g to))
  unfolding b
  cross-ok r = subst (λ m. IfOk m (Flown f (page_cross f.table g to))) (sym (cross-is f to r))
      (go (place_type (place_at f.places f.place)) (unwinds-type f.places f.place g.class g.closed k.unwinds) (place_type (place_at f.places b))
      (unwinds-type f.places b g.class [] at_base)
      (eqb r (owner_of (place_at f.places b))))
    where
      t : Table
      t = f.table

      held : (o : Bool) → IfOk (typed t f.type to (last_closed g) g.class o) (λ x. page_cross t g to ≡ (x.table, crossed_page g to x))
      held o = subst (λ s. IfOk (typed t s to (last_closed g) g.class o) (λ x. page_cross t g to ≡ (x.table, crossed_page g to x))) k.last (page-crosses t g to o)

      go : (v : ℕ) → v ≡ last_closed g → (c : ℕ) → c ≡ g.class → (o : Bool) → IfOk (try (typed t f.type to v c o) (land f.places to f.place b)) (Flown f (page_cross t g to))
      go v e c h o = subst (λ y. IfOk (try (typed t f.type to y c o) (land f.places to f.place b)) (Flown f (page_cross t g to))) (sym e)
          (subst (λ y. IfOk (try (typed t f.type to (last_closed g) y o) (land f.places to f.place b)) (Flown f (page_cross t g to))) (sym h)
          (from-typed (typed t f.type to (last_closed g) g.class o)
          (typed-ok t good f.type to (last_closed g) g.class (keeps-related conforms t f.type (last_closed g) k.below).high k.class_in k.settled k.class_settled k.below o)
          (held o)))

pub ok-renumber : {A : Type 0} (Q : A → Type 0) (b : Bool) (m : Res A) → IfOk m Q → IfOk (renumber b m) Q
ok-renumber Q b (refuse e) h = tt
ok-renumber Q b (ok a) h = h

flown-on : {f g h : Reference} {b c : Table × Page} → Flown f b g → Flown g c h → Flown f c h
flown-on p q = record { good = q.good; grow = grown-trans p.grow q.grow; kept = prefix_trans no_place p.kept q.kept; book = q.book; track = q.track; trailed = q.trailed }

-- so do several in turn
pub cross_layers-ok : (ts : List (Option ℕ)) (first : Bool) (f : Reference) → Good f.table → (r : ℕ) (g : Page) → Track f g → Trailed f g
    → IfOk (cross_layers first f r ts) (Flown f (page_cross_all f.table g ts))
unfolding cross_layers page_cross_all
cross_layers-ok [] c f good r g k z = record { good = good; grow = grown-refl f.table; kept = prefix_refl no_place f.places; book = refl; track = k; trailed = z }
cross_layers-ok (none ∷ ts) c f good r g k z = tt
cross_layers-ok (some x ∷ ts) c f good r g k z =
    let y = page_cross f.table g x in
    ok-try (Flown f y) (Flown f (page_cross_all y.0 y.1 ts)) (renumber c (cross f x r)) (λ h. cross_layers false h r ts)
    (ok-renumber (Flown f y) c (cross f x r) (cross-ok f good g k x r)) λ h p.
    ok-map (Flown h (page_cross_all h.table y.1 ts)) (Flown f (page_cross_all y.0 y.1 ts))
    (λ e q. subst (λ z. Flown f (page_cross_all z y.1 ts) e) (sym p.book) (flown-on p q))
    (cross_layers false h r ts) (cross_layers-ok ts false h p.good r y.1 p.track p.trailed)
