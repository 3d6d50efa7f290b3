-- The definition of `adapt` by its cases, and what a crossing leaves of the bytes.
use mathlib.Core.Path.{◌≡◌, refl, sym, ap, ◌∙◌, subst}
use mathlib.Core.Logic.{◌⊎◌, inl, inr}
use mathlib.Core.Bool.{Bool, true, false, So}
use mathlib.Core.List.{List, [], ◌∷◌, ◌++◌}
use Prim.Native.Nat.{ℕ, ◌≤◌, ◌<◌}
use native.Mathlib.Omega.{arith}
use lib.Dec.{eqb, ltb}
use lib.ListN.{length}
use lib.Seq.{get_or-set_other}
use borrow.Author.Tests.{eq-eqb, ne_eqb, lt-ltb, le-ltb}
use Rattle.spec_model.specs.Basics.{Res, refuse, ok, need, try}
use Rattle.spec_model.specs.Table.{Kind, Table, Ty, is_ref, closed, max_types}
use Rattle.spec_model.specs.Relations.{related, conforms, strict, free}
use Rattle.spec_model.specs.Restriction.{derived}
use Rattle.spec_model.specs.Crossing.{Place, Reference, place_at, place_type, max_places, adapter, adapt}
use Rattle.spec_model.proofs.Largest.{keeps-related}
use Rattle.spec_model.proofs.Order.{strict→loose, loose→free}
use Rattle.spec_model.proofs.ChainLaws.{sort-eq}
use Rattle.spec_model.specs.Refusals.{not_strict, types_full, places_full}
use Rattle.table_record.specs.declared.Counts.{Counts}
use Rattle.table_record.specs.Store.{table_in, with_count}
use Rattle.table_record.specs.Limits.{Checked}
use Rattle.table_record.proofs.Lists.{lt-or-ge}
use Rattle.table_record.proofs.Tables.{size_is, type-is}
use Rattle.table_record.specs.Layout.{types_size}
use Rattle.std.specs.Prelude.{Some, None, Result, Ok, Err}
use Rattle.std.proofs.lemmas.Result.{IfOk-weaker}
use Rattle.base_numbers.specs.declared.refusal.Refusal.{Refusal}
use Rattle.base_numbers.specs.declared.refusal.Refusal.TheVariants.{NotStrict, TypesFull, PlacesFull}
use Rattle.base_numbers.specs.Refusal.{number_of}
use Rattle.derive_record.specs.Begins.{Derived}
use Rattle.derive_sub_sup.specs.Link.{derivation_in, Kept, ExactAt, ExactTo, Sized, Derives}
use Rattle.derive_closed.specs.Numbers.{Alike}
use Rattle.derive_sub_sup.specs.Link.{Leaves as Left, Ready as Derivable}
use Rattle.derive_sub_sup.proofs.Bytes.{exact_same}
use Rattle.state_record.specs.Counted.{Places}
use Rattle.state_record.specs.declared.Place.TheVariants.{Adapter}
use Rattle.state_record.specs.View.{places_in, blank_place}
use Rattle.state_record.specs.Sound.{Descending}
use Rattle.state_record.proofs.Laws.{places-length}
use Rattle.state_record.proofs.Kept.{descending-more, typed-more}
use Rattle.crossing_meet.specs.declared.Landing.TheVariants as landing
use Rattle.crossing_meet.specs.declared.Crossed.{Crossed}
use Rattle.crossing_meet.specs.Crossed.{Ready, reference, crossed_of, Grew, Came, Leaves, landed}

-- R meets the type of place p.
module _ (t : Table) (ps : List Place) (to r p v : ℕ) (is : v ≡ place_type (place_at ps p)) where
  abbrev Meets : Bool → Bool → Res (Table × ℕ) → Bool → Res Reference
  Meets passes fits d room = elim passes [
    | true ↦ ok (reference t ps to p)
    | false ↦ need fits not_strict λ _. try d λ x. need room places_full λ _. ok (reference x.0 (ps ++ (adapter p x.1 ∷ [])) to (length ps))
  ]

  adapt-is : adapt t ps to r p ≡ Meets (related conforms t r v) (related strict t r v) (derived t closed r v) (ltb (length ps) max_places)
  unfolding adapt
  adapt-is = ap (λ (z : ℕ). Meets (related conforms t r z) (related strict t r z) (derived t closed r z) (ltb (length ps) max_places)) (sym is)

  meet-passes : related conforms t r v ≡ true → ok (reference t ps to p) ≡ adapt t ps to r p
  meet-passes e = sym (adapt-is ∙ rw e)

  module _ (less : related conforms t r v ≡ false) where
    meet-not-strict : related strict t r v ≡ false → refuse not_strict ≡ adapt t ps to r p
    meet-not-strict e = sym (adapt-is ∙ rw (less, e))

    module _ (met : related strict t r v ≡ true) where
      meet-types-full : refuse types_full ≡ derived t closed r v → refuse types_full ≡ adapt t ps to r p
      meet-types-full e = sym (adapt-is ∙ rw (less, met, ← e))

      module _ (u : Table) (i : ℕ) (e : ok (u, i) ≡ derived t closed r v) where
        meet-places-full : ltb (length ps) max_places ≡ false → refuse places_full ≡ adapt t ps to r p
        meet-places-full f = sym (adapt-is ∙ rw (less, met, ← e, f))

        meet-adapts : ltb (length ps) max_places ≡ true → ok (reference u (ps ++ (adapter p i ∷ [])) to (length ps)) ≡ adapt t ps to r p
        meet-adapts f = sym (adapt-is ∙ rw (less, met, ← e, f))

-- ---- What a crossing leaves.
pub grown-checked : (l : List ℕ) (c : Counts) (m : ℕ) → Checked l c → c.types ≤ m → m ≤ max_types → Checked l (with_count c m)
grown-checked l c m h p q = let x = h.limits in record {
  limits = record { subjects = x.subjects; methods = x.methods; cats = x.cats; sheet = x.sheet; counted = let u = x.counted in omega arith; types = q };
  descends = h.descends;
}

pub same_kept : (n : ℕ) (b : List ℕ) → Kept n b b
same_kept n b i h = refl

pub none-new : (c : Counts) (b : List ℕ) → c.types ≤ max_types → Grew c c.types b
none-new c b h = record { more = omega arith; room = h; exact = λ i p q. absurd (omega arith) }

-- new types behind new types
pub grew-on : (c : Counts) (m n : ℕ) (b b' : List ℕ) → Grew c m b → Kept m b b' → Grew (with_count c m) n b' → Grew c n b'
grew-on c m n b b' g k h = record {
  more = let u = g.more in let w = h.more in omega arith;
  room = h.room;
  exact = λ i p q. go i p q (lt-or-ge i m);
} where
  go : (i : ℕ) → c.types ≤ i → i < n → (i < m) ⊎ (m ≤ i) → ExactAt c b' i
  go i p q (inl l) = let r = g.room in exact_same c b b' i (omega arith) (k i l) (g.exact i p l)
  go i p q (inr l) = h.exact i l q

derives-sized : (n t s : ℕ) {b b' : List ℕ} {d : Derived} {i m : ℕ} → d ≡ Some (i, m) → Left n t s b b' d → Sized n t s (Some (i, m))
derives-sized n t s e k = subst (Sized n t s) e k.sized

pub derives-grew : (c : Counts) (t s : ℕ) {k : Kind} {b b' : List ℕ} {d : Derived} {i m : ℕ} → d ≡ Some (i, m) → Derives k c t s b b' d → Grew c m b'
derives-grew c t s {b' = b'} e g = let z = derives-sized c.types t s e g.keeps in record { more = z.0; room = z.1; exact = subst (ExactTo c c.types b') e g.exact }

pub differ : {m n : ℕ} → (m ≡ n → ⊥) → eqb m n ≡ false
differ {m} {n} h = ne_eqb m n h

pub equal : {m n : ℕ} → m ≡ n → eqb m n ≡ true
equal {m} {n} h = eq-eqb m n h

-- a refusal, of what the model refuses with its number
pub stops : (b b' l : List ℕ) (c : Counts) (ps : Places) (s : ℕ) (e : Refusal) → {m : Res Reference} → refuse (number_of e) ≡ m → length b' ≡ types_size → Kept c.types b b'
    → (crossed_of b' l c (Err e) ≡ m) × Leaves c ps s b b' (Err e)
stops b b' l c ps s e is long kept = (is, record { long = long; kept = kept; came = tt })

-- the reference leads to a place that stands
pub stands : (c : Counts) (ps : Places) (s to p n : ℕ) (b : List ℕ) → Descending ps → p < ps.count → Grew c n b → (s < c.types → to < n) → Came c ps s b (landed ps to (landing.Stands p) n)
stands c ps s to p n b desc place g ty = record {
  ty = ty;
  types = g;
  descending = desc;
  place = place;
  typed = λ t k l. let u = g.more in let v = t k l in omega arith;
  before = record { more = omega arith; same = λ k l. refl };
}

-- what is known behind two crossings, or behind what a derivation left and a crossing
module _ (c : Counts) (ps : Places) (s : ℕ) (b b₁ : List ℕ) (x : Crossed) (h : Leaves c ps s b b₁ (Ok x)) where
  came : Came c ps s b₁ x
  came = h.came

  pub leaves-on : (b₂ : List ℕ) (q : Result Crossed Refusal) → Leaves (with_count c x.types) x.places x.ty b₁ b₂ q → Leaves c ps s b b₂ q
  leaves-on b₂ q k = record {
    long = k.long;
    kept = λ j y. k.kept j (let u = came.types.more in omega arith) ∙ h.kept j y;
    came = IfOk-weaker q (λ y. Came (with_count c x.types) x.places x.ty b₂ y) (λ y. Came c ps s b₂ y) (λ y m. record {
      ty = λ g. m.ty (came.ty g);
      types = grew-on c x.types y.types b₁ b₂ came.types k.kept m.types;
      descending = m.descending;
      place = m.place;
      typed = λ t. m.typed (came.typed t);
      before = record {
        more = let u = came.before.more in let v = m.before.more in omega arith;
        same = λ j g. m.before.same j (let u = came.before.more in omega arith) ∙ came.before.same j g;
      };
    }) k.came;
  }

-- what a derivation asks, of two types that are related
pub derivable : (b l : List ℕ) (c : Counts) → Ready l c b → (t s : ℕ) → So (related free (table_in b l c) t s) → Derivable c c.types t s b
derivable b l c h t s e =
    let q = keeps-related free (table_in b l c) t s e in
    let low : t < c.types = subst (λ (n : ℕ). t < n) (size_is b l c) q.low in
    let high : s < c.types = subst (λ (n : ℕ). s < n) (size_is b l c) q.high in
    let n = h.checked.limits.types in
    record { limits = h.checked.limits; left = omega arith; right = omega arith; long = h.long }

-- ---- X6 to X10: R is r, and the type of place p is v.
module _ (b l : List ℕ) (c : Counts) (h : Ready l c b) (ps : Places) (desc : Descending ps) (to r p : ℕ) (place : p < ps.count) (v : ℕ) (is : v ≡ place_type (place_at (places_in ps) p)) where
  abbrev U : Table
  U = table_in b l c

  abbrev Meets-as : List ℕ → Result Crossed Refusal → Type 0
  Meets-as b' q = (crossed_of b' l c q ≡ adapt U (places_in ps) to r p) × Leaves c ps to b b' q

  pub meets-passes : true ≡ related conforms U r v → (q : Crossed) → q ≡ landed ps to (landing.Stands p) c.types → Meets-as b (Ok q)
  meets-passes e q z = subst (λ (x : Crossed). Meets-as b (Ok x)) (sym z) (
    meet-passes U (places_in ps) to r p v is (sym e),
    record { long = h.long; kept = same_kept c.types b; came = stands c ps to to p c.types b desc place (none-new c b h.checked.limits.types) (λ k. k) },
  )

  module _ (less : false ≡ related conforms U r v) where
    pub meets-not-strict : false ≡ related strict U r v → Meets-as b (Err NotStrict)
    meets-not-strict e = stops b b l c ps to NotStrict (meet-not-strict U (places_in ps) to r p v is (sym less) (sym e)) h.long (same_kept c.types b)

    module _ (met : true ≡ related strict U r v) where
      meets-free : So (related free U r v)
      meets-free = loose→free U r v (strict→loose U r v (sym met))

      -- both are of the table, and of one sort
      pub closable : Derivable c c.types r v b × Alike c.types b r v
      closable =
          let q = keeps-related free U r v meets-free in
          let low : r < c.types = subst (λ (n : ℕ). r < n) (size_is b l c) q.low in
          let high : v < c.types = subst (λ (n : ℕ). v < n) (size_is b l c) q.high in (
            derivable b l c h r v meets-free,
            record {
              left = low;
              right = high;
              same = sym (ap (λ (x : Ty). is_ref x.rep) (type-is b l c r low)) ∙ sort-eq U r v meets-free ∙ ap (λ (x : Ty). is_ref x.rep)
                  (type-is b l c v high);
            },
          )

      module _ (b' : List ℕ) (d : Derived) (g : Derives closed c r v b b' d) where
        gives : (x : Derived) → d ≡ x → derivation_in b' l c x ≡ derived U closed r v
        gives x e = sym (ap (derivation_in b' l c) e) ∙ g.is l

        pub meets-types-full : d ≡ None → Meets-as b' (Err TypesFull)
        meets-types-full e = stops b b' l c ps to TypesFull (meet-types-full U (places_in ps) to r p v is (sym less) (sym met) (gives None e)) g.keeps.long g.keeps.kept

        module _ (i m : ℕ) (e : d ≡ Some (i, m)) where
          closed-low : i < m
          closed-low =
              let z = derives-sized c.types r v e g.keeps in let q = closable.1 in let u = z.0 in
              z.2 m (omega arith) (let w = q.left in omega arith) (let w = q.right in omega arith)

          pub closed-byte : i < 256
          closed-byte = let z = derives-sized c.types r v e g.keeps in let w = closed-low in let u = z.1 in omega arith

          pub meets-places-full : max_places ≤ ps.count → Meets-as b' (Err PlacesFull)
          meets-places-full f = stops b b' l c ps to PlacesFull
              (meet-places-full U (places_in ps) to r p v is (sym less) (sym met) (table_in b' l (with_count c m)) i (gives (Some (i, m)) e)
              (ap (λ (n : ℕ). ltb n max_places) (places-length ps) ∙ le-ltb ps.count max_places f))
              g.keeps.long g.keeps.kept

          -- the adapter's record has x and y
          module _ (f : ps.count < max_places) (x y : ℕ) (ex : x ≡ p) (ey : y ≡ i) where
            abbrev New : Crossed
            New = landed ps to (landing.Adapter (record { place = Adapter x y })) m

            adapts : places_in New.places ≡ places_in ps ++ (adapter x y ∷ []) → Meets-as b' (Ok New)
            adapts are = (
              ap (λ (k : List Place). ok (reference (table_in b' l (with_count c m)) k to ps.count)) (are ∙ ap (λ (k : ℕ). places_in ps ++ (adapter k y ∷ [])) ex
                  ∙ ap (λ (k : ℕ). places_in ps ++ (adapter p k ∷ [])) ey)
                  ∙ ap (λ (k : ℕ). ok (reference (table_in b' l (with_count c m)) (places_in ps ++ (adapter p i ∷ [])) to k)) (sym (places-length ps))
                  ∙ meet-adapts U (places_in ps) to r p v is (sym less) (sym met) (table_in b' l (with_count c m)) i (gives (Some (i, m)) e)
                  (ap (λ (n : ℕ). ltb n max_places) (places-length ps) ∙ lt-ltb ps.count max_places f),
              record {
                long = g.keeps.long;
                kept = g.keeps.kept;
                came = let w = derives-grew c r v e g in record {
                  ty = λ k. let u = w.more in omega arith;
                  types = w;
                  descending = descending-more ps New.places (adapter x y) refl are desc f (λ _. omega (arith, ex, place));
                  place = omega arith;
                  typed = λ t. typed-more ps New.places (adapter x y) refl are (with_count c m) (λ k u. let n = t k u in let o = w.more in omega arith) (omega (arith, ey, closed-low));
                  before = record { more = omega arith; same = λ k u. get_or-set_other ps.list ps.count k (record { place = Adapter x y }) blank_place (λ n. omega (arith, n, u)) };
                };
              },
            )

            pub meets-adapts : (q : Crossed) → (q ≡ New) × (places_in q.places ≡ places_in ps ++ (adapter x y ∷ [])) → Meets-as b' (Ok q)
            meets-adapts q k = subst (λ (z : Crossed). Meets-as b' (Ok z)) (sym k.0) (adapts (sym (ap (λ (z : Crossed). places_in z.places) k.0) ∙ k.1))
