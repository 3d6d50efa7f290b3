-- Sub, Sup or Closed of two types of a table handed in. A derivation is no request: these numbers serve tests and integrators.
use Rattle.std.specs.Prelude.{Bool, true, false, ◌&&◌, ℕ, zero, suc, ℤ}
use Rattle.spec_model.specs.Basics.{Res, need, names, named}
use Rattle.spec_model.specs.Table.{Table, size, type_at, is_ref}
use Rattle.spec_model.specs.Restriction.{derived}
use Rattle.spec_model.specs.Check.{RawTable, kind_of, table_of, table_accepted}
use Rattle.spec_model.specs.Refusals.{out_of_range, unknown_type}

-- 0 is Sub, 1 Sup, and 2 Closed, which only two reference types have; another number is no kind.
abbrev pub kind_asked : ℕ → Bool → Bool
kind_asked zero refs = true
kind_asked (suc zero) refs = true
kind_asked (suc (suc zero)) refs = refs
kind_asked (suc (suc (suc n))) refs = false

abbrev pub is_ref_type : Table → ℕ → Bool
is_ref_type t i = is_ref (type_at t i).rep

-- 7 for a number that names no type, or where there is no such derived type; then the table with the type and its number, or 11.
unfoldable pub derive_named : Table → ℕ → ℤ → ℤ → Res (Table × ℕ)
unfolding derived
derive_named t kind a b =
    need (names a (size t) && names b (size t)) unknown_type λ _.
    need (kind_asked kind (is_ref_type t (named a) && is_ref_type t (named b))) unknown_type λ _.
    derived t (kind_of kind) (named a) (named b)

-- 2 before all else.
unfoldable pub derive_handed : RawTable → ℕ → ℤ → ℤ → Res (Table × ℕ)
unfolding table_accepted table_of derive_named
derive_handed r kind a b = need (table_accepted r) out_of_range λ _. derive_named (table_of r) kind a b
