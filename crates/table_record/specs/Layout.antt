-- How a table stands in bytes. Type i has `type_size` bytes from i * type_size on: six numbers, ten spare bytes, and from `head_size` on `method_size` bytes for each method:
-- state, count of arguments, four arguments, answer. The broader links of category k are `link_size` bytes from k * link_size on. What the records mean is the model's (Check).
use Rattle.std.specs.Prelude.{ℕ, suc, ◌+◌, ◌*◌, List, [], ◌∷◌, ◌++◌, get_or, replicate}
use Rattle.spec_model.specs.Basics.{from}
use Rattle.spec_model.specs.Table.{Table, max_methods, max_categories, max_types}
use Rattle.spec_model.specs.Check.{RawMethod, RawType, RawLinks, RawTable, table_of}
use Rattle.table_record.specs.declared.Counts.{Counts}
use Rattle.table_record.specs.declared.Head.{Head}

-- the numbers of a type's head, and the spare bytes behind them (B6)
abbrev pub head_numbers : ℕ
head_numbers = 6

abbrev pub spare_size : ℕ
spare_size = 10

-- the bytes of one record: of a type, its head with the spare bytes, one of its methods, and a category's broader links (B6 to B11)
abbrev pub type_size : ℕ
type_size = 128

abbrev pub head_size : ℕ
head_size = head_numbers + spare_size

abbrev pub method_size : ℕ
method_size = 7

abbrev pub link_size : ℕ
link_size = 3

-- the bytes of all types, and of all links
abbrev pub types_size : ℕ
types_size = max_types * type_size

abbrev pub links_size : ℕ
links_size = suc max_categories * link_size

-- The method whose bytes start at `at`, and a type's methods.
abbrev pub raw_method_at : List ℕ → ℕ → RawMethod
raw_method_at b at =
    record { state = get_or b at 0; count = get_or b (at + 1) 0; args = get_or b (at + 2) 0 ∷ get_or b (at + 3) 0 ∷ get_or b (at + 4) 0 ∷ get_or b (at + 5) 0 ∷ []; answer = get_or b (at + 6) 0 }

unfoldable pub raw_methods_at : List ℕ → ℕ → List RawMethod
raw_methods_at b at = from max_methods 0 (λ j. raw_method_at b (at + head_size + j * method_size))

-- the type whose bytes start at `at`
abbrev pub raw_type_at : List ℕ → ℕ → RawType
raw_type_at b at =
    record { rep = get_or b at 0; cat = get_or b (at + 1) 0; own = get_or b (at + 2) 0; kind = get_or b (at + 3) 0; left = get_or b (at + 4) 0; right = get_or b (at + 5) 0; methods = raw_methods_at b at }

abbrev pub raw_links_at : List ℕ → ℕ → RawLinks
raw_links_at l at = record { count = get_or l at 0; first = get_or l (at + 1) 0; second = get_or l (at + 2) 0 }

-- The records that the bytes hold: all types, and the links of all categories with 0, which names none.
unfoldable pub types_in : List ℕ → List RawType
types_in b = from max_types 0 (λ i. raw_type_at b (i * type_size))

unfoldable pub links_in : List ℕ → List RawLinks
links_in l = from (suc max_categories) 0 (λ k. raw_links_at l (k * link_size))

abbrev pub head_of : RawType → Head
head_of t = record { rep = t.rep; cat = t.cat; own = t.own; kind = t.kind; left = t.left; right = t.right }

-- The table handed in: bytes of the types, bytes of the links, and counts.
abbrev pub raw_table : List ℕ → List ℕ → Counts → RawTable
raw_table b l c = record { subjects = c.subjects; methods = c.methods; cats = c.cats; sheet = c.sheet; types = c.types; links = links_in l; records = types_in b }

-- What it means: the table of the model.
unfoldable pub table_in : List ℕ → List ℕ → Counts → Table
unfolding table_of
table_in b l c = table_of (raw_table b l c)

-- The counts, with so many types.
abbrev pub with_count : Counts → ℕ → Counts
with_count c n = record { subjects = c.subjects; methods = c.methods; cats = c.cats; sheet = c.sheet; types = n }

-- The bytes of records. A type's are six of its head, ten spare ones that are 0, and those of each method.
abbrev pub method_bytes : RawMethod → List ℕ
method_bytes m =
    m.state ∷ m.count ∷ get_or m.args 0 0 ∷ get_or m.args 1 0 ∷ get_or m.args 2 0 ∷ get_or m.args 3 0 ∷ m.answer ∷ []

abbrev pub head_bytes : Head → List ℕ
head_bytes h = h.rep ∷ h.cat ∷ h.own ∷ h.kind ∷ h.left ∷ h.right ∷ []

abbrev pub spare_bytes : List ℕ
spare_bytes = replicate spare_size 0

abbrev pub methods_bytes : List RawMethod → List ℕ
methods_bytes [] = []
methods_bytes (m ∷ ms) = method_bytes m ++ methods_bytes ms

unfoldable pub record_bytes : RawType → List ℕ
record_bytes x = head_bytes (head_of x) ++ (spare_bytes ++ methods_bytes x.methods)

abbrev pub links_bytes : RawLinks → List ℕ
links_bytes x = x.count ∷ x.first ∷ x.second ∷ []

-- An empty table, and a type that denies every method.
abbrev pub empty_counts : Counts
empty_counts = record { subjects = 0; methods = 0; cats = 0; sheet = 0; types = 0 }

unfoldable pub empty_types : List ℕ
empty_types = replicate types_size 0

unfoldable pub empty_links : List ℕ
empty_links = replicate links_size 0

-- the counts of a table where they stand outside: five numbers in a row, in this order (B12)
abbrev pub counts_in : List ℕ → Counts
counts_in n = record { subjects = get_or n 0 0; methods = get_or n 1 0; cats = get_or n 2 0; sheet = get_or n 3 0; types = get_or n 4 0 }
