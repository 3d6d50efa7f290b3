-- Words of a list: those behind the first ones.
use mathlib.Core.Path.{◌≡◌, sym, ap, ◌∙◌}
use mathlib.Core.List.{List}
use Prim.Native.Nat.{ℕ, ◌-◌}
use lib.IntN.{ℤ}
use lib.ListN.{length, take, drop, length-drop}
use lib.Seq.{take-length}

-- what is behind the first n words
pub all-behind : (ws : List ℤ) (n : ℕ) → take (length ws - n) (drop n ws) ≡ drop n ws
all-behind ws n = ap (λ (k : ℕ). take k (drop n ws)) (sym (length-drop n ws)) ∙ take-length (drop n ws)
