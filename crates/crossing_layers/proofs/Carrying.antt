-- A reference over all layers: what the crossings leave is put together, and the rest of the way follows. And what the next crossing asks holds at each layer (C11).
use mathlib.Core.Path.{◌≡◌, refl, sym, ap, ◌∙◌, subst}
use mathlib.Core.Bool.{Bool, true, false}
use mathlib.Core.List.{List, [], ◌∷◌, map}
use mathlib.Core.Option.{Option, none, some}
use Prim.Native.Nat.{ℕ, ◌+◌, ◌≤◌, ◌<◌}
use native.Mathlib.Omega.{arith}
use lib.Dec.{eqb}
use lib.ListN.{length, get_or, take, drop}
use borrow.Author.Tests.{ne_eqb}
use Rattle.spec_model.specs.Basics.{Res, ok, try}
use Rattle.spec_model.specs.Crossing.{Reference}
use Rattle.spec_model.specs.Requests.{cross_layers}
use Rattle.std.specs.Prelude.{None, Result, Ok, Err}
use Rattle.std.specs.Prelude.{Option as Maybe}
use Rattle.base_numbers.specs.declared.refusal.Refusal.{Refusal}
use Rattle.table_record.specs.declared.Counts.{Counts}
use Rattle.table_record.specs.Store.{table_in, with_count}
use Rattle.state_record.specs.Counted.{Places}
use Rattle.state_record.specs.View.{places_in}
use Rattle.crossing_meet.specs.declared.Crossed.{Crossed}
use Rattle.crossing_meet.specs.Crossed.{Ready, PlaceKnown, reference, reference_of, crossed_of, Leaves}
use Rattle.crossing_meet.proofs.Laws.{grown-checked, leaves-on}
use Rattle.crossing_targets.specs.Targets.{option_of}
use Rattle.crossing_targets.proofs.Laws.{rest-next, nothing_left}
use Rattle.crossing_layers.specs.Carried.{cross_to}

-- ---- One layer: ready by counts that are equal.
pub one-ready : (b l : List ℕ) (c d : Counts) (n : ℕ) → d ≡ with_count c n → Ready l (with_count c n) b → Ready l d b
one-ready b l c d n e h = subst (λ (k : Counts). Ready l k b) (sym e) h

-- ---- All layers.
cross-step : (first : Bool) (f : Reference) (r : ℕ) (o : Option ℕ) (os : List (Option ℕ)) → cross_layers first f r (o ∷ os) ≡ try (cross_to first f r o) (λ g. cross_layers false g r os)
unfolding cross_layers
cross-step first f r none os = refl
cross-step first f r (some t) os = refl

cross-end : (first : Bool) (f : Reference) (r : ℕ) → cross_layers first f r [] ≡ ok f
unfolding cross_layers
cross-end first f r = refl

module _ (b l : List ℕ) (c : Counts) (ps : Places) (s p r : ℕ) (list : List (Maybe ℕ)) (n : ℕ) where
  abbrev All : Res Reference
  All = cross_layers true (reference (table_in b l c) (places_in ps) s p) r (map option_of (take n list))

  -- all n targets are met as those from i on, by the reference as it has become
  pub record Goes (b₁ : List ℕ) (x : Crossed) (i : ℕ) : Type 0 where
    pub carries : Leaves c ps s b b₁ (Ok x)
    pub rest : cross_layers (eqb i 0) (reference_of b₁ l c x) r (map option_of (drop i (take n list))) ≡ All

  pub goes-starts : Ready l c b → PlaceKnown ps p → Goes b (record { ty = s; place = p; places = ps; types = c.types }) 0
  goes-starts h k = record {
    carries = record {
      long = h.long;
      kept = λ i q. refl;
      came = record {
        ty = λ k. k;
        types = record { more = omega arith; room = h.checked.limits.types; exact = λ i u v. absurd (omega (arith, u, v)) };
        descending = k.descending;
        place = k.place;
        typed = λ t. t;
        before = record { more = omega arith; same = λ i q. refl };
      };
    };
    rest = refl;
  }

  module _ (h : Ready l c b) (b₁ : List ℕ) (x : Crossed) (i : ℕ) (w : Goes b₁ x i) where
    -- the reference as it has become may cross again
    pub goes-ready : Ready l (with_count c x.types) b₁ × PlaceKnown x.places x.place
    goes-ready =
        let k = w.carries.came in
        (record { checked = grown-checked l c x.types h.checked k.types.more k.types.room; long = w.carries.long }, record { descending = k.descending; place = k.place })

    abbrev Done : List ℕ → Result Crossed Refusal → Type 0
    Done b₂ q = (crossed_of b₂ l c q ≡ All) × Leaves c ps s b b₂ q

    pub goes-ends : n ≤ i → Done b₁ (Ok x)
    goes-ends g = (
      sym (sym w.rest ∙ ap (λ (xs : List (Maybe ℕ)). cross_layers (eqb i 0) (reference_of b₁ l c x) r (map option_of xs)) (nothing_left list n i g)
          ∙ cross-end (eqb i 0) (reference_of b₁ l c x) r),
      w.carries,
    )

    module _ (few : n ≤ length list) (low : i < n) (b₂ : List ℕ) (q : Result Crossed Refusal)
        (step : crossed_of b₂ l c q ≡ cross_to (eqb i 0) (reference_of b₁ l c x) r (option_of (get_or list i None)))
        (k : Leaves (with_count c x.types) x.places x.ty b₁ b₂ q) where
      abbrev After : Reference → Res Reference
      After g = cross_layers false g r (map option_of (drop (i + 1) (take n list)))

      goes_on : All ≡ try (crossed_of b₂ l c q) After
      goes_on =
          sym w.rest ∙ ap (λ (xs : List (Maybe ℕ)). cross_layers (eqb i 0) (reference_of b₁ l c x) r (map option_of xs)) (rest-next list n few i low)
          ∙ cross-step (eqb i 0) (reference_of b₁ l c x) r (option_of (get_or list i None)) (map option_of (drop (i + 1) (take n list)))
          ∙ ap (λ (y : Res Reference). try y After) (sym step)

      both : Leaves c ps s b b₂ q
      both = leaves-on c ps s b b₁ x w.carries b₂ q k

      pub goes-stops : (e : Refusal) → q ≡ Err e → Done b₂ (Err e)
      goes-stops e z = (
        sym (goes_on ∙ ap (λ (y : Result Crossed Refusal). try (crossed_of b₂ l c y) After) z),
        subst (λ (y : Result Crossed Refusal). Leaves c ps s b b₂ y) z both,
      )

      pub goes-next : (y : Crossed) → q ≡ Ok y → Goes b₂ y (i + 1)
      goes-next y z = record {
        carries = subst (λ (o : Result Crossed Refusal). Leaves c ps s b b₂ o) z both;
        rest = sym (goes_on ∙ ap (λ (o : Result Crossed Refusal). try (crossed_of b₂ l c o) After) z
            ∙ ap (λ (f : Bool). cross_layers f (reference_of b₂ l c y) r (map option_of (drop (i + 1) (take n list)))) (sym (ne_eqb (i + 1) 0 (λ u. omega (arith, u)))));
      }
