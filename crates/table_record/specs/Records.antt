-- The bytes that stand for a table of the model: its records one behind the other, and 0 behind them.
use mathlib.Core.List.{List, [], ◌∷◌, ◌++◌, map, flatten}
use Rattle.std.specs.Prelude.{ℕ, ◌-◌, length, replicate}
use Rattle.spec_model.specs.Table.{Table, Ty, size}
use Rattle.spec_model.specs.Records.{type_record, links_record}
use Rattle.table_record.specs.declared.Counts.{Counts}
use Rattle.table_record.specs.Layout.{record_bytes, links_bytes, types_size, links_size}

-- n bytes, of which the first are xs
unfoldable pub padded : ℕ → List ℕ → List ℕ
padded n xs = xs ++ replicate (n - length xs) 0

-- the bytes of a type, and those of a category's broader ones
abbrev pub bytes_of : Ty → List ℕ
bytes_of x = record_bytes (type_record x)

abbrev pub link_bytes_of : List ℕ → List ℕ
link_bytes_of xs = links_bytes (links_record xs)

unfoldable pub type_bytes : List Ty → List ℕ
unfolding padded
type_bytes xs = padded types_size (flatten (map bytes_of xs))

-- category 0, which names none, in front: its bytes are 0
unfoldable pub link_bytes : List (List ℕ) → List ℕ
unfolding padded
link_bytes cs = padded links_size (flatten (map link_bytes_of ([] ∷ cs)))

abbrev pub counts_of : Table → Counts
counts_of t = record { subjects = t.subjects; methods = t.methods; cats = length t.cats; sheet = t.sheet; types = size t }
