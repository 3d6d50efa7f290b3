-- What is stored for number i is table i of the list, its text is short, and the texts in a row are what is printed.
use mathlib.Core.Path.{◌≡◌, refl, sym, ap, ◌∙◌}
use mathlib.Core.Bool.{Bool, true, false}
use mathlib.Core.List.{List, [], ◌∷◌, ◌++◌, map, flatten, append_assoc, append-nil}
use Prim.Native.Nat.{ℕ, zero, suc, ◌<◌, ◌≤◌, ◌+◌, ◌*◌}
use native.Mathlib.Nat.{not-suc-le-zero, le_of_suc-le-suc}
use native.Mathlib.Numerals.{add-one}
use native.Mathlib.Omega.{arith}
use lib.Dec.{leb}
use lib.ListN.{length, get_or, take}
use lib.Seq.{get_or-set_same}
use borrow.Author.Tests.{leb-true}
use Rattle.spec_model.specs.Basics.{from}
use Rattle.spec_model.specs.Table.{Table, type_at, max_types}
use Rattle.spec_model.specs.Records.{type_record}
use Rattle.spec_model.specs.Check.{RawType, type_of, table_of, no_raw_type}
use Rattle.spec_model.proofs.Lists.{length_from, get_or-map-in}
use Rattle.table_record.specs.declared.Counts.{Counts}
use Rattle.table_record.specs.Store.{types_in, type_size, types_size, raw_table, raw_type_at, Put}
use Rattle.table_record.specs.Limits.{Limits}
use Rattle.table_record.proofs.Laws.{put-types}
use Rattle.spec_sheet.specs.Text.{text}
use Rattle.spec_tiny.specs.Tiny.{tiny_table, tiny_tables, tiny_count, tiny_text}
use Rattle.spec_tiny.specs.Numbered.{tiny_at}
use Rattle.spec_tiny.proofs.Count.{count, mapped_at}
use Rattle.tiny_record.specs.Plan.{tiny_counts}

-- ---- The table that is stored
-- a table of m methods with the one record x
abbrev table_with : ℕ → RawType → Table
table_with m x = record { subjects = 1; methods = m; cats = []; sheet = 1; types = type_of m 1 0 x ∷ [] }

abbrev again : Table → Table
again t = table_with t.methods (type_record (type_at t 0))

-- the record of each table's type means that table again, its methods are within the limit, and its text has at most 200 bytes
all-again : map again tiny_tables ≡ map (λ t. t) tiny_tables
unfolding tiny_tables from
all-again = refl

abbrev fits : Table → Bool
fits t = leb t.methods 16

all-fit : map fits tiny_tables ≡ map (λ t. true) tiny_tables
unfolding tiny_tables
all-fit = refl

abbrev short : Table → Bool
short t = leb (length (text t)) 200

all_short : map short tiny_tables ≡ map (λ t. true) tiny_tables
unfolding tiny_tables text
all_short = refl

at-number : {A : Type 0} (f g : Table → A) (d : A) → map f tiny_tables ≡ map g tiny_tables → (i : ℕ) → i < tiny_count → f (tiny_at i) ≡ g (tiny_at i)
unfolding tiny_at
at-number {A} f g d e i l = mapped_at f _ d e i l ∙ get_or-map-in g tiny_tables i (tiny_table false []) d (rw count l)

first-type : (b b' : List ℕ) (x : RawType) → length b ≡ types_size → Put b 0 x b' → get_or (types_in b') 0 no_raw_type ≡ x
unfolding types_in
first-type b b' x n put = ap (λ (xs : List RawType). get_or xs 0 no_raw_type) (put-types put n (omega arith))
    ∙ get_or-set_same (types_in b) 0 x no_raw_type (rw (length_from (λ i. raw_type_at b (i * type_size)) max_types 0) (omega arith))

module _ (i : ℕ) (c : Counts) (l : i < tiny_count) (same : c ≡ tiny_counts (tiny_at i).methods) where
  pub tiny-limits : Limits c
  tiny-limits =
      let m : (tiny_at i).methods ≤ 16 = leb-true (tiny_at i).methods 16 (at-number fits (λ t. true) true all-fit i l) in
      rw same (record { subjects = omega arith; methods = m; cats = omega arith; sheet = omega arith; counted = omega arith; types = omega arith })

  pub tiny-stored : (b b' links : List ℕ) (x : RawType) → length b ≡ types_size → x ≡ type_record (type_at (tiny_at i) 0) → Put b 0 x b' → table_of (raw_table b' links c) ≡ tiny_at i
  unfolding table_of from
  tiny-stored b b' links x n e put =
      ap (λ (z : Counts). table_of (raw_table b' links z)) same ∙ ap (table_with (tiny_at i).methods) (first-type b b' x n put ∙ e)
      ∙ at-number again (λ t. t) (tiny_table false []) all-again i l

pub tiny-short : (i r : ℕ) → i < tiny_count → r ≡ length (text (tiny_at i)) → r ≤ 200
tiny-short i r l e = let z = leb-true (length (text (tiny_at i))) 200 (at-number short (λ t. true) true all_short i l) in omega (arith, z, e)

-- ---- Text behind text
-- the texts of the first n tables
unfoldable pub text_to : ℕ → List ℕ
text_to n = flatten (map text (take n tiny_tables))

next : (n : ℕ) (ts : List Table) (d : Table) → n < length ts → flatten (map text (take n ts)) ++ text (get_or ts n d) ≡ flatten (map text (take (suc n) ts))
unfolding flatten
next n [] d l = absurd (not-suc-le-zero l)
next zero (t ∷ ts) d l = sym (append-nil (text t))
next (suc n) (t ∷ ts) d l = append_assoc (text t) (flatten (map text (take n ts))) (text (get_or ts n d)) ∙ ap (λ z. text t ++ z) (next n ts d (le_of_suc-le-suc l))

pub text-next : (n : ℕ) → n < tiny_count → text_to n ++ text (tiny_at n) ≡ text_to (n + 1)
unfolding text_to tiny_at
text-next n l = next n tiny_tables (tiny_table false []) (rw count l) ∙ ap text_to (sym (add-one n))

pub text-none : [] ≡ text_to 0
unfolding text_to flatten
text-none = refl

pub text-all : (n : ℕ) → n ≤ tiny_count → tiny_count ≤ n → text_to n ≡ tiny_text
unfolding text_to tiny_text tiny_tables
text-all n a b = let e : n ≡ tiny_count = omega arith in ap text_to e
