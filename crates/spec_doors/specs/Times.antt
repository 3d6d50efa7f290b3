-- Lists of times as they may be handed in (V1 to V3).
use Rattle.std.specs.Prelude.{Bool, true, ◌&&◌, List, [], ◌∷◌, ℕ, leb, length}

-- how many times a list may have, the last time that there is, and the largest tolerance, both in milliseconds (V1)
abbrev pub max_times : ℕ
max_times = 1024

abbrev pub last_time : ℕ
last_time = 4294967295

abbrev pub max_tolerance : ℕ
max_tolerance = 60000

-- no time is past the last, and none is below the one before it; `low` is the one before the first (V2)
unfoldable pub rising : ℕ → List ℕ → Bool
rising low [] = true
rising low (x ∷ xs) = leb low x && (leb x last_time && rising x xs)

abbrev pub times_fit : List ℕ → Bool
times_fit xs = leb (length xs) max_times && rising 0 xs

-- whether both lists and the tolerance keep V1 and V2
abbrev pub all_fit : List ℕ → List ℕ → ℕ → Bool
all_fit marks arrivals within = leb within max_tolerance && (times_fit marks && times_fit arrivals)
