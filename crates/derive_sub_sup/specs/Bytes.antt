-- What a derivation, and all that derives, leaves in the bytes of the types (B22).
use Rattle.std.specs.Prelude.{◌≡◌, ℕ, ◌*◌, take, drop}
use mathlib.Core.List.{List, ◌++◌, map, flatten}
use Rattle.spec_model.specs.Basics.{Res, refuse, ok}
use Rattle.spec_model.specs.Table.{Table, size}
use Rattle.table_record.specs.Records.{bytes_of}
use Rattle.table_record.specs.Layout.{type_size}

-- What a derivation writes, n types being there before: the bytes of these stay, each new type's record stands behind them, and that is every counted byte.
-- Where the table is full, what it leaves past the count is open.
abbrev pub Writes : ℕ → List ℕ → List ℕ → Res (Table × ℕ) → Type 0
Writes n b b' (refuse e) = take (n * type_size) b' ≡ take (n * type_size) b
Writes n b b' (ok p) = take (size p.0 * type_size) b' ≡ take (n * type_size) b ++ flatten (map bytes_of (drop n p.0.types))
