-- The types that Closed is asked of, two references or two numbers, and what it makes of numbers.
use Rattle.std.specs.Prelude.{◌≡◌, false, List, map, ℕ, ◌<◌, get_or}
use Rattle.spec_model.specs.Table.{is_ref}
use Rattle.spec_model.specs.Check.{RawType, no_raw_type, rep_of}
use Rattle.table_record.specs.declared.Head.{Head}
use Rattle.table_record.specs.Store.{raw_method, types_in, empty_type}

-- Type t is a number type of the first n.
pub record NumberIn (n : ℕ) (b : List ℕ) (t : ℕ) : Type 0 where
  pub below : t < n
  pub number : is_ref (rep_of (get_or (types_in b) t no_raw_type).rep) ≡ false

-- Two types of the first n, both references or both numbers, as a pair that a relation holds of.
pub record Alike (n : ℕ) (b : List ℕ) (r v : ℕ) : Type 0 where
  pub left : r < n
  pub right : v < n
  pub same : is_ref (rep_of (get_or (types_in b) r no_raw_type).rep) ≡ is_ref (rep_of (get_or (types_in b) v no_raw_type).rep)

-- A number type's representation by its code, and Closed(R,V) of two number types as it is stored, h being R's head.
pub record NumberRep (x r : ℕ) : Type 0 where
  pub is : (x ≡ 0 → ⊥) → rep_of r ≡ rep_of x
  pub some : 0 < r
  pub code : r < 3

pub record NumberType (h : Head) (r v : ℕ) (x : RawType) : Type 0 where
  pub rep : NumberRep h.rep x.rep
  pub is : x ≡ record { rep = x.rep; cat = h.cat; own = 0; kind = 2; left = r; right = v; methods = map raw_method empty_type.methods }
