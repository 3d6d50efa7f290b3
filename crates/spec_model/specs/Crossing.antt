-- Rules X, with Q1 to Q3: places, and what becomes of a reference that is seen by another type from here on.
use Rattle.std.specs.Prelude.{true, false, List, [], ◌∷◌, ◌++◌, ℕ, zero, suc, eqb, ltb, length, get_or}
use Rattle.spec_model.specs.Basics.{Res, ok, try, need}
use Rattle.spec_model.specs.Table.{sub, closed, Table, type_at}
use Rattle.spec_model.specs.Relations.{subtype, conforms, strict, loose, free, related}
use Rattle.spec_model.specs.Restriction.{derived}
use Rattle.spec_model.specs.Refusals.{unrelated, not_owner, not_strict, places_full}

-- A place is what a reference leads to: an object, or an adapter in front of another place (Q1).
pub data Place : Type 0 where
  object : (class owner : ℕ) → Place
  adapter : (behind closed : ℕ) → Place

abbrev pub max_places : ℕ
max_places = 128

abbrev pub no_place : Place
no_place = object 0 0

abbrev pub place_at : List Place → ℕ → Place
place_at ps p = get_or ps p no_place

-- Q3
abbrev pub place_type : Place → ℕ
place_type (object c o) = c
place_type (adapter b c) = c

abbrev pub owner_of : Place → ℕ
owner_of (object c o) = o
owner_of (adapter b c) = 0

-- The base of a place is the object that is left when all adapters are taken off (Q2). What is behind lies below, so as many steps as there are places are enough.
unfoldable pub base : ℕ → List Place → ℕ → ℕ
base zero ps p = p
base (suc f) ps p = elim (place_at ps p) [ object c o ↦ p | adapter b c ↦ base f ps b ]

abbrev pub base_of : List Place → ℕ → ℕ
base_of ps p = base (length ps) ps p

abbrev pub base_owner : List Place → ℕ → ℕ
base_owner ps p = owner_of (place_at ps (base_of ps p))

-- A reference on its way: the table and the places as they have become, its static type and its place.
pub record Reference : Type 0 where
  pub table : Table
  pub places : List Place
  pub type : ℕ
  pub place : ℕ

-- X6 to X10: what the place has is enough as it is, or an adapter has to take something away. `r` is what is left of the type asked for, `to` the type that the reference has then.
unfoldable pub adapt : Table → List Place → ℕ → ℕ → ℕ → Res Reference
unfolding related derived
adapt t ps to r p = elim (related conforms t r (place_type (place_at ps p))) [
  | true ↦ ok (record { table = t; places = ps; type = to; place = p })
  | false ↦ need (related strict t r (place_type (place_at ps p))) not_strict λ _.
      try (derived t closed r (place_type (place_at ps p))) λ x.
      need (ltb (length ps) max_places) places_full λ _.
      ok (record { table = x.0; places = ps ++ (adapter p x.1 ∷ []); type = to; place = length ps })
]

-- X1 to X5: an own type is for the owner alone and takes every adapter off; any other type can only take away from what the reference was seen by.
unfoldable pub cross : Reference → ℕ → ℕ → Res Reference
unfolding related derived base adapt
cross f to r = elim (type_at f.table to).own [
  | true ↦ need (related free f.table to f.type) unrelated λ _.
      need (eqb r (base_owner f.places f.place)) not_owner λ _.
      adapt f.table f.places to to (base_of f.places f.place)
  | false ↦ need (related loose f.table to f.type) unrelated λ _.
      elim (related subtype f.table to f.type) [
        | true ↦ ok (record { table = f.table; places = f.places; type = to; place = f.place })
        | false ↦ try (derived f.table sub to f.type) λ x. adapt x.0 f.places to x.1 f.place
      ]
]
