-- The tiny sheets by their number, for contracts of steps and for proofs.
use Rattle.std.specs.Prelude.{false, [], ℕ, get_or}
use Rattle.spec_model.specs.Table.{Table}
use Rattle.spec_tiny.specs.Tiny.{tiny_table, tiny_tables}

-- the table of tiny sheet i, from 0 on
unfoldable pub tiny_at : ℕ → Table
unfolding tiny_tables
tiny_at i = get_or tiny_tables i (tiny_table false [])
