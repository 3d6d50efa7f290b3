-- What proofs say of the bytes of a line.
use Rattle.std.specs.Prelude.{Bool, true, false, cond, List, ℕ, eqb}
use Prim.Native.Char.{code}
use Rattle.spec_model.specs.Basics.{all}

-- no LF stands in these bytes
abbrev pub not_lf : ℕ → Bool
not_lf b = cond (eqb b (code "\n")) false true

abbrev pub clean : List ℕ → Bool
clean l = all not_lf l
