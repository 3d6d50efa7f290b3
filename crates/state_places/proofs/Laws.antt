-- Going behind in the counted places (Q2, C9): what Going.antt says of a list, said of the records.
use mathlib.Core.Path.{◌≡◌, sym, ap, subst, ◌∙◌}
use mathlib.Core.Bool.{true, false}
use mathlib.Core.List.{[], ◌∷◌}
use Prim.Native.Nat.{ℕ, ◌<◌}
use lib.ListN.{length, get_or}
use Rattle.spec_model.specs.Crossing.{Place as Placeᵐ, place_at, place_type, base_of}
use Rattle.spec_model.specs.Requests.{layers_of}
use Rattle.state_record.specs.declared.Place.{Place}
use Rattle.state_record.specs.Counted.{Places}
use Rattle.state_record.specs.View.{place_of, blank_place, places_in, is_object, behind_of}
use Rattle.state_record.specs.Sound.{Descending}
use Rattle.state_record.proofs.Laws.{place_is, places-length}
use Rattle.state_places.specs.Behind.{BaseAt}
use Rattle.state_places.proofs.Going as go

-- a base of the place reached is one of the place that it was reached from
pub based : (ps : Places) (p q : ℕ) → base_of (places_in ps) p ≡ base_of (places_in ps) q → BaseAt ps q q → BaseAt ps p q
based ps p q e b = record { is = b.is ∙ sym e; below = b.below; object = b.object }

-- a place as it is read from the records
pub read : (ps : Places) (p : ℕ) (x : Place) → p < ps.count → (get_or ps.list p blank_place).place ≡ x → place_of x ≡ place_at (places_in ps) p
read ps p x l e = sym (place_is ps p l ∙ ap place_of e)

module _ (ps : Places) (h : Descending ps) where
  inside : (p : ℕ) → p < ps.count → p < length (places_in ps)
  inside p l = subst (λ (n : ℕ). p < n) (sym (places-length ps)) l

  descends : (p : ℕ) → p < length (places_in ps) → is_object (place_at (places_in ps) p) ≡ false → behind_of (place_at (places_in ps) p) < p
  descends p l = h.behind p (subst (λ (n : ℕ). p < n) (places-length ps) l)

  -- the place x at p, as it was read
  module _ (p : ℕ) (l : p < ps.count) (x : Placeᵐ) (e : x ≡ place_at (places_in ps) p) where
    pub goes-below : is_object x ≡ false → behind_of x < p
    goes-below o = rw e (h.behind p l (rw (← e) o))

    pub base-ends : is_object x ≡ true → BaseAt ps p p
    base-ends o = record { is = sym (go.base-here (places_in ps) descends p (inside p l) (rw (← e) o)); below = l; object = rw (← e) o }

    pub base_goes : is_object x ≡ false → base_of (places_in ps) p ≡ base_of (places_in ps) (behind_of x)
    base_goes o = rw e (go.base-behind (places_in ps) descends p (inside p l) (rw (← e) o))

    pub layers-end : is_object x ≡ true → layers_of (places_in ps) p ≡ place_type x ∷ []
    layers-end o = rw e (go.layers-here (places_in ps) descends p (inside p l) (rw (← e) o))

    pub layers-go : is_object x ≡ false → layers_of (places_in ps) p ≡ place_type x ∷ layers_of (places_in ps) (behind_of x)
    layers-go o = rw e (go.layers-behind (places_in ps) descends p (inside p l) (rw (← e) o))
