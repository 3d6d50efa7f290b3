-- What the C functions of the requests take as an answer (E12).
use Rattle.std.proofs.Math.Option.{Option, none, some}
use Rattle.std.specs.Prelude.{ℕ, zero, suc, ℤ}

-- what is given as an answer: nothing for 0, else the value
abbrev pub given_in : ℕ → ℤ → Option ℤ
given_in zero v = none
given_in (suc n) v = some v
