-- What a crossing asks, what its answer means in the words of the model, and what it leaves of the bytes.
use Rattle.std.specs.Prelude.{◌≡◌, List, [], ◌∷◌, ◌++◌, ℕ, ◌≤◌, ◌<◌, length, get_or, Result, IfOk}
use Rattle.spec_model.specs.Basics.{Res}
use Rattle.base_numbers.specs.declared.refusal.Refusal.{Refusal}
use Rattle.base_numbers.specs.Refusal.{res_by}
use Rattle.spec_model.specs.Table.{Table, max_types}
use Rattle.spec_model.specs.Crossing.{Reference, max_places}
use Rattle.spec_model.specs.Crossing.{Place as Placeᵐ}
use Rattle.table_record.specs.declared.Counts.{Counts}
use Rattle.table_record.specs.Store.{table_in, with_count}
use Rattle.table_record.specs.Limits.{Checked}
use Rattle.table_record.specs.Layout.{types_size}
use Rattle.derive_sub_sup.specs.Link.{Kept, Exact}
use Rattle.state_record.specs.Counted.{Places}
use Rattle.state_record.specs.View.{places_in, place_of, place_added, blank_place}
use Rattle.state_record.specs.Sound.{Descending, Typed}
use Rattle.crossing_meet.specs.declared.Landing.{Landing}
use Rattle.crossing_meet.specs.declared.Landing.TheVariants as landing
use Rattle.crossing_meet.specs.declared.Crossed.{Crossed}

-- What a crossing needs of a state: links and counts that are checked, and a place among places that end in objects. Nothing is asked of the types, which are taken
-- at their word (H14), or of the numbers of types and subjects: one that names nothing is met as in the model.
pub record Ready (l : List ℕ) (c : Counts) (b : List ℕ) : Type 0 where
  pub checked : Checked l c
  pub long : length b ≡ types_size

pub record PlaceKnown (ps : Places) (p : ℕ) : Type 0 where
  pub descending : Descending ps
  pub place : p < ps.count

abbrev pub reference : Table → List Placeᵐ → ℕ → ℕ → Reference
reference t ps s p = record { table = t; places = ps; type = s; place = p }

-- What came of it: the reference as it has become, with the table of the bytes left, or its refusal.
abbrev pub reference_of : List ℕ → List ℕ → Counts → Crossed → Reference
reference_of b l c x = reference (table_in b l (with_count c x.types)) (places_in x.places) x.ty x.place

abbrev pub crossed_of : List ℕ → List ℕ → Counts → Result Crossed Refusal → Res Reference
crossed_of b l c = res_by (reference_of b l c)

-- the places with the new adapter among them, and where the reference leads
abbrev pub landed : Places → ℕ → Landing → ℕ → Crossed
landed ps to (landing.Stands p) n = record { ty = to; place = p; places = ps; types = n }
landed ps to (landing.Adapter r) n = record { ty = to; place = ps.count; places = place_added ps r; types = n }

abbrev pub places_with : List Placeᵐ → Landing → List Placeᵐ
places_with ps (landing.Stands p) = ps
places_with ps (landing.Adapter r) = ps ++ (place_of r.place ∷ [])

abbrev pub Room : Places → Landing → Type 0
Room ps (landing.Stands p) = Unit {0}
Room ps (landing.Adapter r) = ps.count < max_places

-- There are m types now, and each new one is stored as the record that stands for it (B13).
pub record Grew (c : Counts) (m : ℕ) (b : List ℕ) : Type 0 where
  pub more : c.types ≤ m
  pub room : m ≤ max_types
  pub exact : Exact c c.types m b

-- every place that was counted is stored as it was
pub record Before (ps qs : Places) : Type 0 where
  pub more : ps.count ≤ qs.count
  pub same : (k : ℕ) → k < ps.count → get_or qs.list k blank_place ≡ get_or ps.list k blank_place

-- What is known of a reference that has come through: new types are stored as the records that stand for them, its place is one of places as a
-- request needs them, and its static type, if it began with one of the table, is one of the table.
pub record Came (c : Counts) (ps : Places) (s : ℕ) (b : List ℕ) (x : Crossed) : Type 0 where
  pub ty : s < c.types → x.ty < x.types
  pub types : Grew c x.types b
  pub descending : Descending x.places
  pub place : x.place < x.places.count
  pub typed : Typed ps c → Typed x.places (with_count c x.types)
  pub before : Before ps x.places

-- What is left, refused or not: every byte of the types that there were.
pub record Leaves (c : Counts) (ps : Places) (s : ℕ) (b b' : List ℕ) (r : Result Crossed Refusal) : Type 0 where
  pub long : length b' ≡ types_size
  pub kept : Kept c.types b b'
  pub came : IfOk r (λ x. Came c ps s b' x)
