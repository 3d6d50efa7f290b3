-- The walk down the adapters of a place: what is stored so far and what lies behind are its layers.
use mathlib.Core.Path.{◌≡◌, refl, ap, sym, subst, ◌∙◌}
use mathlib.Core.Bool.{true, false}
use mathlib.Core.List.{List, [], ◌∷◌, ◌++◌}
use Prim.Native.Nat.{ℕ, ◌+◌, ◌-◌, ◌≤◌, ◌<◌}
use native.Mathlib.Numerals.{add-one}
use native.Mathlib.Omega.{arith}
use lib.ListN.{length, set, take, length-set}
use lib.Seq.{take-suc-set, append_snoc, length-take-le}
use Rattle.spec_model.specs.Crossing.{Place as Placeᵐ, place_at, place_type, max_places}
use Rattle.spec_model.specs.Requests.{layers_of}
use Rattle.state_record.specs.Counted.{Places}
use Rattle.state_record.specs.View.{places_in, is_object, behind_of}
use Rattle.state_record.specs.Sound.{Descending}
use Rattle.state_places.specs.Behind.{LayersAt}
use Rattle.state_places.proofs.Laws.{goes-below, layers-end, layers-go}

pub record Walk (ps : Places) (p : ℕ) (list : List ℕ) (count q : ℕ) : Type 0 where
  pub inside : q < ps.count
  pub room : q + count ≤ p
  pub slots : length list ≡ max_places
  pub rest : layers_of (places_in ps) p ≡ take count list ++ layers_of (places_in ps) q

module _ (ps : Places) (h : Descending ps) (p : ℕ) (pl : p < ps.count) where
  pub walk-starts : (list : List ℕ) → length list ≡ max_places → Walk ps p list 0 p
  walk-starts list e = record { inside = pl; room = omega arith; slots = e; rest = refl }

  -- the place q is reached, x is read there, and its type v stored
  module _ (list : List ℕ) (count q : ℕ) (w : Walk ps p list count q) (x : Placeᵐ) (e : x ≡ place_at (places_in ps) q) (v : ℕ) (t : v ≡ place_type x) where
    few : count < max_places
    few = omega (arith, w.room, pl, h.count)

    stored : (xs : List ℕ) → take (count + 1) (set list count v) ++ xs ≡ take count list ++ (place_type x ∷ xs)
    stored xs =
        ap (λ (n : ℕ). take n (set list count v) ++ xs) (add-one count)
        ∙ ap (λ (l : List ℕ). l ++ xs) (take-suc-set list count v (omega (arith, few, w.slots)))
        ∙ append_snoc (take count list) v xs ∙ ap (λ (y : ℕ). take count list ++ (y ∷ xs)) t

    pub walk-goes : is_object x ≡ false → (b : ℕ) → b ≡ behind_of x → (b < q) × Walk ps p (set list count v) (count + 1) b
    walk-goes o b f =
        let less : b < q = subst (λ (n : ℕ). n < q) (sym f) (goes-below ps h q w.inside x e o) in (
          less,
          record {
            inside = omega (arith, less, w.inside);
            room = omega (arith, less, w.room);
            slots = length-set list count v ∙ w.slots;
            rest = w.rest ∙ ap (λ (l : List ℕ). take count list ++ l) (layers-go ps h q w.inside x e o ∙ ap (λ (n : ℕ). place_type x ∷ layers_of (places_in ps) n) (sym f))
                ∙ sym (stored (layers_of (places_in ps) b));
          },
        )

    pub walk_ends : is_object x ≡ true → LayersAt ps p (record { list = set list count v; count = count + 1 })
    walk_ends o =
        let r : take (count + 1) (set list count v) ≡ layers_of (places_in ps) p =
        ap (λ (n : ℕ). take n (set list count v)) (add-one count) ∙ take-suc-set list count v (omega (arith, few, w.slots)) ∙ ap (λ (y : ℕ). take count list ++ (y ∷ [])) t
        ∙ sym (w.rest ∙ ap (λ (l : List ℕ). take count list ++ l) (layers-end ps h q w.inside x e o)) in
        let n : length (take (count + 1) (set list count v)) ≡ count + 1 = length-take-le (count + 1) (set list count v) (omega (arith, few, w.slots, length-set list count v)) in
        record {
          are = r;
          some = omega arith;
          few = omega (arith, few);
          adapters = ap (λ (k : ℕ). k - 1) (sym n ∙ ap length r);
        }
