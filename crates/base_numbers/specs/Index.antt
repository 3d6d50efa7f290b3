-- A number handed in, as the number of one of n things (Basics: `names`, `named`); n where it names none.
use Rattle.std.specs.Prelude.{cond, ℕ, ℤ}
use Rattle.spec_model.specs.Basics.{names, named}

abbrev pub index_of : ℤ → ℕ → ℕ
index_of z n = cond (names z n) (named z) n
