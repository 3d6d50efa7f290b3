-- The definition of `cross` by its cases, and what comes of them.
use mathlib.Core.Path.{◌≡◌, refl, sym, ap, ◌∙◌, subst}
use mathlib.Core.Logic.{◌⊎◌, inl, inr}
use mathlib.Core.Bool.{Bool, true, false, So, ◌&&◌}
use mathlib.Core.List.{List}
use Prim.Native.Nat.{ℕ, ◌≤◌, ◌<◌}
use native.Mathlib.Omega.{arith}
use lib.Dec.{eqb}
use lib.ListN.{get_or}
use borrow.Author.Tests.{lt-ltb, le-ltb}
use Rattle.spec_model.specs.Basics.{refuse, ok, ◌⇒◌}
use Rattle.spec_model.specs.Table.{Table, Ty, is_avail, permit, type_at, sub}
use Rattle.spec_model.specs.Relations.{related, subtype, loose, free, outer_rule, state_le, same_rep}
use Rattle.spec_model.specs.Restriction.{derived}
use Rattle.spec_model.specs.Crossing.{Place, base_of, base_owner, adapt, cross}
use Rattle.spec_model.specs.Check.{no_raw_type}
use Rattle.spec_model.proofs.Largest.{keeps-related}
use Rattle.spec_model.proofs.Rules.{first, applied}
use Rattle.spec_model.proofs.States.{each₂}
use Rattle.spec_model.proofs.Order.{weaken, same-sort, loose→free}
use Rattle.spec_model.specs.Refusals.{unrelated, not_owner, types_full}
use Rattle.table_record.specs.declared.Counts.{Counts}
use Rattle.table_record.specs.Store.{types_in, table_in, with_count, own_of}
use Rattle.table_record.proofs.Lists.{lt-or-ge}
use Rattle.table_record.proofs.Tables.{size_is, type-is, type-out}
use Rattle.std.specs.Prelude.{Some, None, Result, Ok, Err}
use Rattle.std.proofs.lemmas.Result.{IfOk-weaker}
use Rattle.base_numbers.specs.declared.refusal.Refusal.{Refusal}
use Rattle.base_numbers.specs.declared.refusal.Refusal.TheVariants.{Unrelated, NotOwner, TypesFull}
use Rattle.derive_record.specs.Begins.{Derived}
use Rattle.derive_sub_sup.specs.Link.{derivation_in, Derives, Ready as Derivable}
use Rattle.state_record.specs.Counted.{Places}
use Rattle.state_record.specs.View.{places_in}
use Rattle.state_record.specs.Sound.{Descending}
use Rattle.state_places.specs.Behind.{BaseAt}
use Rattle.crossing_meet.specs.declared.Landing.TheVariants as landing
use Rattle.crossing_meet.specs.declared.Crossed.{Crossed}
use Rattle.crossing_meet.specs.Crossed.{Ready, reference, crossed_of, Came, Leaves, landed}
use Rattle.crossing_meet.proofs.Laws.{same_kept, none-new, derives-grew, differ, equal, stops, stands, leaves-on, derivable}
use Rattle.crossing_one.specs.declared.Crossing.{Crossing}
use Rattle.crossing_one.specs.Crosses.{own_in, crossing}

-- A subtype is loosely related (R8, R10): where X4 holds, X1 does.
subtype→loose : (t : Table) (a b : ℕ) → So (related subtype t a b) → So (related loose t a b)
unfolding outer_rule
subtype→loose t = weaken subtype loose t (λ a b h. same-sort a.rep b.rep (first (same_rep a.rep b.rep) _ h))
    (λ a b. applied (each₂ (λ a b. state_le a b ⇒ (is_avail a ⇒ permit b)) refl a b))

-- ---- The definitions, case by case.
module _ (t : Table) (ps : List Place) (s p to r : ℕ) where
  -- an own target
  module _ (own : (type_at t to).own ≡ true) where
    own-unrelated : related free t to s ≡ false → refuse unrelated ≡ cross (reference t ps s p) to r
    unfolding cross
    own-unrelated e = rw (own, e)

    module _ (met : related free t to s ≡ true) where
      own-not-owner : eqb r (base_owner ps p) ≡ false → refuse not_owner ≡ cross (reference t ps s p) to r
      unfolding cross
      own-not-owner e = rw (own, met, e)

      own_meets : eqb r (base_owner ps p) ≡ true → adapt t ps to to (base_of ps p) ≡ cross (reference t ps s p) to r
      unfolding cross
      own_meets e = rw (own, met, e)

  -- any other
  module _ (own : (type_at t to).own ≡ false) where
    other-unrelated : related loose t to s ≡ false → refuse unrelated ≡ cross (reference t ps s p) to r
    unfolding cross
    other-unrelated e = rw (own, e)

    module _ (met : related loose t to s ≡ true) where
      other-stays : related subtype t to s ≡ true → ok (reference t ps to p) ≡ cross (reference t ps s p) to r
      unfolding cross
      other-stays e = rw (own, met, e)

      module _ (less : related subtype t to s ≡ false) where
        other-types-full : refuse types_full ≡ derived t sub to s → refuse types_full ≡ cross (reference t ps s p) to r
        unfolding cross
        other-types-full e = rw (own, met, less, ← e)

        other-meets : (u : Table) (i : ℕ) → ok (u, i) ≡ derived t sub to s → adapt u ps to i p ≡ cross (reference t ps s p) to r
        unfolding cross
        other-meets u i e = rw (own, met, less, ← e)

-- ---- The own flag.
own_out : (n t : ℕ) (b : List ℕ) → n ≤ t → false ≡ own_in n b t
own_out n t b h = ap (λ (z : Bool). z && own_of (get_or (types_in b) t no_raw_type)) (sym (le-ltb t n h))

own-table : (b l : List ℕ) (c : Counts) (t : ℕ) → (type_at (table_in b l c) t).own ≡ own_in c.types b t
own-table b l c t = go (lt-or-ge t c.types) where
  go : (t < c.types) ⊎ (c.types ≤ t) → (type_at (table_in b l c) t).own ≡ own_in c.types b t
  go (inl h) = ap (λ (x : Ty). x.own) (type-is b l c t h) ∙ ap (λ (z : Bool). z && own_of (get_or (types_in b) t no_raw_type)) (sym (lt-ltb t c.types h))
  go (inr h) = ap (λ (x : Ty). x.own) (type-out b l c t h) ∙ own_out c.types t b h

-- what a derivation of Sub asks, of two types that are related
pub sub-asked : (b l : List ℕ) (c : Counts) → Ready l c b → (t s : ℕ) → true ≡ related loose (table_in b l c) t s → Derivable c c.types t s b
sub-asked b l c h t s e = derivable b l c h t s (loose→free (table_in b l c) t s (sym e))

-- ---- X1 to X5: the table is that of bytes b, and x crosses.
module _ (b l : List ℕ) (c : Counts) (h : Ready l c b) (ps : Places) (x : Crossing) where
  abbrev T : Table
  T = table_in b l c

  abbrev Crosses : List ℕ → Result Crossed Refusal → Type 0
  Crosses b' q = (crossed_of b' l c q ≡ crossing T ps x) × Leaves c ps x.from b b' q

  -- the target is a type of the table, so what comes of the meeting is known of any static type before it
  known : So (related free T x.to x.from) → x.to < c.types
  known e = subst (λ (n : ℕ). x.to < n) (size_is b l c) (keeps-related free T x.to x.from e).low

  module _ (own : own_in c.types b x.to ≡ true) where
    pub unwrap-unrelated : false ≡ related free T x.to x.from → Crosses b (Err Unrelated)
    unwrap-unrelated e = stops b b l c ps x.from Unrelated (own-unrelated T (places_in ps) x.from x.place x.to x.receiver (own-table b l c x.to ∙ own) (sym e)) h.long
        (same_kept c.types b)

    module _ (met : true ≡ related free T x.to x.from) (o : ℕ) (is : o ≡ base_owner (places_in ps) x.place) where
      pub unwrap-not-owner : (o ≡ x.receiver → ⊥) → Crosses b (Err NotOwner)
      unwrap-not-owner e = stops b b l c ps x.from NotOwner
          (own-not-owner T (places_in ps) x.from x.place x.to x.receiver (own-table b l c x.to ∙ own) (sym met) (differ (λ z. e (is ∙ sym z)))) h.long (same_kept c.types b)

      pub unwrap_meets : o ≡ x.receiver → (base : ℕ) → BaseAt ps x.place base → (b' : List ℕ) (q : Result Crossed Refusal) →
          crossed_of b' l c q ≡ adapt T (places_in ps) x.to x.to base → Leaves c ps x.to b b' q → Crosses b' q
      unwrap_meets e base at b' q m k = (
        m ∙ ap (adapt T (places_in ps) x.to x.to) at.is
            ∙ own_meets T (places_in ps) x.from x.place x.to x.receiver (own-table b l c x.to ∙ own) (sym met) (equal (sym e ∙ is)),
        record {
          long = k.long;
          kept = k.kept;
          came = IfOk-weaker q (λ y. Came c ps x.to b' y) (λ y. Came c ps x.from b' y)
              (λ y w. record { ty = λ _. w.ty (known (sym met)); types = w.types; descending = w.descending; place = w.place; typed = w.typed; before = w.before }) k.came;
        },
      )

  module _ (desc : Descending ps) (place : x.place < ps.count) (own : own_in c.types b x.to ≡ false) where
    pub restrict-unrelated : false ≡ related loose T x.to x.from → Crosses b (Err Unrelated)
    restrict-unrelated e = stops b b l c ps x.from Unrelated
        (other-unrelated T (places_in ps) x.from x.place x.to x.receiver (own-table b l c x.to ∙ own) (sym e)) h.long (same_kept c.types b)

    pub restrict-stays : true ≡ related subtype T x.to x.from → (q : Crossed) → q ≡ landed ps x.to (landing.Stands x.place) c.types → Crosses b (Ok q)
    restrict-stays e q z = let met = subtype→loose T x.to x.from (sym e) in subst (λ (y : Crossed). Crosses b (Ok y)) (sym z) (
      other-stays T (places_in ps) x.from x.place x.to x.receiver (own-table b l c x.to ∙ own) met (sym e),
      record {
        long = h.long;
        kept = same_kept c.types b;
        came = stands c ps x.from x.to x.place c.types b desc place (none-new c b h.checked.limits.types) (λ _. known (loose→free T x.to x.from met));
      },
    )

    module _ (met : true ≡ related loose T x.to x.from) where
      low : x.to < c.types
      low = known (loose→free T x.to x.from (sym met))

      module _ (less : false ≡ related subtype T x.to x.from) (b₁ : List ℕ) (d : Derived) (g : Derives sub c x.to x.from b b₁ d) where
        answer : (y : Derived) → d ≡ y → derivation_in b₁ l c y ≡ derived T sub x.to x.from
        answer y e = sym (ap (derivation_in b₁ l c) e) ∙ g.is l

        pub restrict-types-full : d ≡ None → Crosses b₁ (Err TypesFull)
        restrict-types-full e = stops b b₁ l c ps x.from TypesFull
            (other-types-full T (places_in ps) x.from x.place x.to x.receiver (own-table b l c x.to ∙ own) (sym met) (sym less) (answer None e)) g.keeps.long g.keeps.kept

        module _ (i m : ℕ) (e : d ≡ Some (i, m)) (n : Counts) (en : n ≡ with_count c m) where
          -- the reference of type `to` at its place, with the types that the derivation left
          half : Leaves c ps x.from b b₁ (Ok (landed ps x.to (landing.Stands x.place) m))
          half = let w = derives-grew c x.to x.from e g in record {
            long = g.keeps.long;
            kept = g.keeps.kept;
            came = stands c ps x.from x.to x.place m b₁ desc place w (λ _. let u = w.more in omega (arith, low, u));
          }

          pub restrict-meets : (b₂ : List ℕ) (q : Result Crossed Refusal) → crossed_of b₂ l n q ≡ adapt (table_in b₁ l n) (places_in ps) x.to i x.place → Leaves n ps x.to b₁ b₂ q → Crosses b₂ q
          restrict-meets b₂ q is k = (
            subst (λ (y : Counts). crossed_of b₂ l y q ≡ adapt (table_in b₁ l y) (places_in ps) x.to i x.place) en is
                ∙ other-meets T (places_in ps) x.from x.place x.to x.receiver (own-table b l c x.to ∙ own) (sym met) (sym less) (table_in b₁ l (with_count c m)) i (answer (Some (i, m)) e),
            leaves-on c ps x.from b b₁ (landed ps x.to (landing.Stands x.place) m) half b₂ q (subst (λ (y : Counts). Leaves y ps x.to b₁ b₂ q) en k),
          )
