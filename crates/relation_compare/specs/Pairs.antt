-- The pair table of a sheet (B24): for each pair of sheet types one byte, in which subtype counts 1, strict 2, loose 4 and free 8. (T, S) stands at T * max_sheet_types + S.
use Rattle.std.specs.Prelude.{◌&&◌, cond, List, ℕ, ◌+◌, ◌*◌, ◌/◌, ◌%◌, ltb}
use Rattle.spec_model.specs.Basics.{Res, ok, need, from}
use Rattle.spec_model.specs.Table.{Table, max_sheet_types}
use Rattle.spec_model.specs.Relations.{Comparison, bit}
use Rattle.spec_model.specs.Check.{RawTable, table_of, table_accepted}
use Rattle.spec_model.specs.Refusals.{out_of_range}
use Rattle.relation_compare.specs.Comparing.{comparison_at}

-- its bytes
abbrev pub pairs_size : ℕ
pairs_size = max_sheet_types * max_sheet_types

abbrev pub pair_code : Comparison → ℕ
pair_code a = bit a.subtype + 2 * bit a.strict + 4 * bit a.loose + 8 * bit a.free

abbrev pub pair_entry : Table → ℕ → ℕ → ℕ
pair_entry t a b = cond (ltb a t.sheet && ltb b t.sheet) (pair_code (comparison_at t a b)) 0

unfoldable pub pair_table : Table → List ℕ
unfolding from
pair_table t = from pairs_size 0 (λ p. pair_entry t (p / max_sheet_types) (p % max_sheet_types))

-- The pair table of a table handed in: 2 before all else.
unfoldable pub pairs_handed : RawTable → Res (List ℕ)
unfolding table_accepted table_of pair_table
pairs_handed r = need (table_accepted r) out_of_range λ _. ok (pair_table (table_of r))
