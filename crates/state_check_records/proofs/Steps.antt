-- What the loop over methods tests: whether a state's code is settled.
use mathlib.Core.Path.{◌≡◌, refl}
use mathlib.Core.Bool.{Bool, true, false}
use mathlib.Core.List.{List}
use Prim.Native.Nat.{ℕ, zero, suc, ◌≤◌, ◌<◌}
use native.Mathlib.Omega.{arith}
use lib.ListN.{get_or}
use Rattle.spec_model.specs.Table.{is_settled}
use Rattle.spec_model.specs.Check.{no_raw_type, no_raw_method, state_of}
use Rattle.table_record.specs.Store.{types_in}

pub unsettled : (s : ℕ) → s < 2 → is_settled (state_of s) ≡ false
unsettled zero h = refl
unsettled (suc zero) h = refl
unsettled (suc (suc s)) h = absurd (omega arith)

pub settles : (s : ℕ) → 2 ≤ s → is_settled (state_of s) ≡ true
settles zero h = absurd (omega arith)
settles (suc zero) h = absurd (omega arith)
settles (suc (suc zero)) h = refl
settles (suc (suc (suc s))) h = refl

-- What the loop tests at a number.
abbrev pub SettledAt : List ℕ → ℕ → ℕ → Bool
SettledAt b i j = is_settled (state_of (get_or (get_or (types_in b) i no_raw_type).methods j no_raw_method).state)
