-- Signatures of the types that the bytes hold: what stands in them, and whether it may (T14, S13).
use Rattle.std.specs.Prelude.{Bool, true, cond, List, [], ℕ, ltb, get_or}
use Rattle.spec_model.specs.Basics.{all, from}
use Rattle.spec_model.specs.Table.{Method as Methodᵐ, Ty, is_ref}
use Rattle.spec_model.specs.Check.{RawType, no_raw_type, no_raw_method, rep_of, method_of}
use Rattle.table_record.specs.Store.{may_stand_as}
use Rattle.spec_sheet.specs.Sheet.{stands}

-- The methods of a type's record.
abbrev pub methods_of : ℕ → RawType → List Methodᵐ
methods_of m x = cond (is_ref (rep_of x.rep)) (from m 0 (λ j. method_of (get_or x.methods j no_raw_method))) []

-- What may stand in a signature, among the first n records: a number behind them names no type that may not.
abbrev pub stands_at : List RawType → ℕ → ℕ → Bool
stands_at rs n a = cond (ltb a n) (may_stand_as (get_or rs a no_raw_type)) true

-- the signatures of methods, and of a type's, with the first n records
abbrev pub methods_stand : (ℕ → Bool) → List Methodᵐ → Bool
methods_stand may ms = all (stands may) ms

abbrev pub type_stands : List RawType → ℕ → Ty → Bool
type_stands rs n x = methods_stand (stands_at rs n) x.methods
