-- Compare and the pair table, from the answers at a pair.
use mathlib.Core.Path.{◌≡◌, ap, sym, ◌∙◌}
use mathlib.Core.Bool.{true, false, ◌&&◌}
use mathlib.Core.List.{List}
use Prim.Native.Nat.{ℕ, ◌+◌, ◌*◌, ◌/◌, ◌%◌, ◌≤◌, ◌<◌}
use native.Mathlib.Omega.{arith}
use lib.Dec.{ltb}
use lib.IntN.{ℤ}
use lib.ListN.{length, get_or}
use borrow.Author.Tests.{lt-ltb, le-ltb}
use Rattle.spec_model.specs.Basics.{Res, refuse, ok}
use Rattle.spec_model.specs.Refusals.{out_of_range, unknown_type}
use Rattle.spec_model.specs.Relations as Model
use Rattle.spec_model.specs.Table.{Table, size, max_sheet_types}
use Rattle.spec_model.specs.Relations.{compare}
use Rattle.spec_model.specs.Check.{table_of, table_accepted, compare_handed}
use Rattle.table_record.specs.declared.Counts.{Counts}
use Rattle.table_record.specs.Store.{raw_table, table_in}
use Rattle.table_record.proofs.Lists.{is-from, from_first}
use Rattle.relation_compare.specs.declared.Comparison.{Comparison}
use Rattle.relation_compare.specs.Comparing.{comparison_of, comparison_at}
use Rattle.base_numbers.specs.Index.{index_of}
use Rattle.base_numbers.proofs.Laws.{index-unknown, index-known}
use Rattle.relation_compare.specs.Pairs.{pair_code, pair_entry, pair_table, pairs_handed, pairs_size}

-- Compare, where x and y are the indices of the numbers handed in.
module _ (T : Table) (a b : ℤ) (x : ℕ) (ex : x ≡ index_of a (size T)) where
  pub compare-left : size T ≤ x → refuse unknown_type ≡ compare T a b
  unfolding compare
  compare-left l = rw (index-unknown a (size T) x ex l)

  module _ (p : x < size T) (y : ℕ) (ey : y ≡ index_of b (size T)) where
    pub compare-right : size T ≤ y → refuse unknown_type ≡ compare T a b
    unfolding compare
    compare-right l = rw ((index-known a (size T) x ex p).0, index-unknown b (size T) y ey l)

    pub compare-all : y < size T → (r : Comparison) → comparison_of r ≡ comparison_at T x y → ok (comparison_of r) ≡ compare T a b
    unfolding compare
    compare-all q r h =
        let k = index-known a (size T) x ex p in
        let m = index-known b (size T) y ey q in
        ap ok h ∙ rw (k.0, m.0, k.1, m.1)

-- An entry of the pair table.
module _ (b l : List ℕ) (c : Counts) (t s : ℕ) where
  pub entry-left : c.sheet ≤ t → 0 ≡ pair_entry (table_in b l c) t s
  unfolding table_in table_of
  entry-left h = rw (le-ltb t c.sheet h)

  pub entry-right : t < c.sheet → c.sheet ≤ s → 0 ≡ pair_entry (table_in b l c) t s
  unfolding table_in table_of
  entry-right p h = rw (lt-ltb t c.sheet p, le-ltb s c.sheet h)

  both-sheet : t < c.sheet → s < c.sheet → (ltb t (table_in b l c).sheet && ltb s (table_in b l c).sheet) ≡ true
  unfolding table_in table_of
  both-sheet p q = rw (lt-ltb t c.sheet p, lt-ltb s c.sheet q)

  pub entry-all : (a : Comparison) (r : ℕ) → t < c.sheet → s < c.sheet → comparison_of a ≡ comparison_at (table_in b l c) t s → r ≡ pair_code (comparison_of a) → r ≡ pair_entry (table_in b l c) t s
  entry-all a r p q h e = e ∙ ap pair_code h ∙ rw (both-sheet p q)

-- The table, entry by entry.
pub pairs-all : (T : Table) (out : List ℕ) → length out ≡ pairs_size → ((k : ℕ) → k < pairs_size → get_or out k 0 ≡ pair_entry T (k / max_sheet_types) (k % max_sheet_types)) → out ≡ pair_table T
unfolding pair_table
pairs-all T out e h = sym (is-from (λ p. pair_entry T (p / max_sheet_types) (p % max_sheet_types)) pairs_size 0 out e h)

-- Where the pair (T, S) stands.
pub pair-at : (T : Table) (t s : ℕ) → t < max_sheet_types → s < max_sheet_types → get_or (pair_table T) (t * max_sheet_types + s) 0 ≡ pair_entry T t s
unfolding pair_table
pair-at T t s p q =
    let d : (t * max_sheet_types + s) / max_sheet_types ≡ t = omega arith in
    let m : (t * max_sheet_types + s) % max_sheet_types ≡ s = omega arith in
    from_first (λ p. pair_entry T (p / max_sheet_types) (p % max_sheet_types)) pairs_size (t * max_sheet_types + s) 0 (omega arith) ∙ rw (d, m)

-- Compare on a table handed in: by whether it is accepted.
module _ (b l : List ℕ) (c : Counts) (t s : ℤ) where
  pub compare-fit : (r : Res Model.Comparison) → table_accepted (raw_table b l c) ≡ true → r ≡ compare (table_in b l c) t s → r ≡ compare_handed (raw_table b l c) t s
  unfolding compare_handed table_in
  compare-fit r e h = h ∙ rw e

  pub compare-unfit : table_accepted (raw_table b l c) ≡ false → refuse out_of_range ≡ compare_handed (raw_table b l c) t s
  unfolding compare_handed
  compare-unfit e = rw e

-- The pair table of a table handed in.
module _ (b l : List ℕ) (c : Counts) where
  pub pairs-fit : (entries : List ℕ) → table_accepted (raw_table b l c) ≡ true → entries ≡ pair_table (table_in b l c) → ok entries ≡ pairs_handed (raw_table b l c)
  unfolding pairs_handed table_in
  pairs-fit entries e h = rw (e, h)

  pub pairs-unfit : table_accepted (raw_table b l c) ≡ false → refuse out_of_range ≡ pairs_handed (raw_table b l c)
  unfolding pairs_handed
  pairs-unfit e = rw e
