-- What the walk behind a place finds: its base, and its layers.
use Rattle.std.specs.Prelude.{◌≡◌, true, List, ℕ, ◌-◌, ◌≤◌, ◌<◌, take}
use Rattle.spec_model.specs.Crossing.{max_places, place_at, base_of}
use Rattle.spec_model.specs.Requests.{layers_of, adapter_count}
use Rattle.state_record.specs.Counted.{Places}
use Rattle.state_record.specs.View.{places_in, is_object}
use Rattle.state_places.specs.declared.Layers.{Layers}

-- what is known of a base: it is the model's, and an object among the counted places
pub record BaseAt (ps : Places) (p r : ℕ) : Type 0 where
  pub is : r ≡ base_of (places_in ps) p
  pub below : r < ps.count
  pub object : is_object (place_at (places_in ps) r) ≡ true

-- the layers that a place's walk gives, outermost first (C9)
abbrev pub layers_in : Layers → List ℕ
layers_in l = take l.count l.list

pub record LayersAt (ps : Places) (p : ℕ) (l : Layers) : Type 0 where
  pub are : layers_in l ≡ layers_of (places_in ps) p
  pub some : 0 < l.count
  pub few : l.count ≤ max_places
  pub adapters : l.count - 1 ≡ adapter_count (places_in ps) p
