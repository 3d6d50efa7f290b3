-- The records that stand for a whole table; and an answer type that may be missing and its code: each is read back from the other.
use mathlib.Core.Path.{◌≡◌, refl}
use mathlib.Core.List.{◌∷◌, map}
use mathlib.Core.Option.{Option, none, some}
use Prim.Native.Nat.{ℕ, zero, suc}
use lib.ListN.{length}
use Rattle.spec_model.specs.Table.{Table, size}
use Rattle.spec_model.specs.Check.{RawTable, no_raw_links, answer_of}
use Rattle.spec_model.specs.Records.{answer_code, type_record, links_record}

-- the whole table; category 0 names none
abbrev pub raw_table_of : Table → RawTable
raw_table_of t = record {
  subjects = t.subjects;
  methods = t.methods;
  cats = length t.cats;
  sheet = t.sheet;
  types = size t;
  links = no_raw_links ∷ map links_record t.cats;
  records = map type_record t.types;
}

pub answer_back : (a : Option ℕ) → answer_of (answer_code a) ≡ a
answer_back none = refl
answer_back (some a) = refl

pub code-back : (n : ℕ) → answer_code (answer_of n) ≡ n
code-back zero = refl
code-back (suc n) = refl
