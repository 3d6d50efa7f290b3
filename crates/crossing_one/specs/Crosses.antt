-- What a crossing asks: the model's crossing, and the own flag of its target.
use Rattle.std.specs.Prelude.{Bool, ◌&&◌, List, ℕ, ltb, get_or}
use Rattle.spec_model.specs.Basics.{Res}
use Rattle.spec_model.specs.Table.{Table}
use Rattle.spec_model.specs.Crossing.{Reference, cross}
use Rattle.spec_model.specs.Check.{no_raw_type}
use Rattle.table_record.specs.Store.{types_in, own_of}
use Rattle.state_record.specs.Counted.{Places}
use Rattle.state_record.specs.View.{places_in}
use Rattle.crossing_meet.specs.Crossed.{reference}
use Rattle.crossing_one.specs.declared.Crossing.{Crossing}

-- own, of a number that may name no type of the first n
abbrev pub own_in : ℕ → List ℕ → ℕ → Bool
own_in n b t = ltb t n && own_of (get_or (types_in b) t no_raw_type)

-- the crossing as the model has it
abbrev pub crossing : Table → Places → Crossing → Res Reference
crossing t ps x = cross (reference t (places_in ps) x.from x.place) x.to x.receiver
