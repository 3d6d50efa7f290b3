-- What the results of code that reads text say, in the words of crate `spec_sheet`: scans, and readings of the lines from an offset on.
use Rattle.std.specs.Prelude.{◌≡◌, List, [], ◌∷◌, ℕ, ◌≤◌, get_or, take, drop, Option, Some, None, Result, Ok, Err, IfSome}
use Rattle.spec_sheet.specs.Lines.{Reading, refused, got, split}
use Rattle.spec_sheet.specs.Numbers.{Scan, fail, took, top}
use Rattle.base_numbers.specs.Refusal.{number_of}
use Rattle.base_numbers.specs.declared.refusal.Refusal.{Refusal}
use Rattle.text_cursor.specs.declared.Cursor.{Cursor}
use Rattle.text_read.specs.declared.Numbers.{Numbers}
use Rattle.text_read.specs.declared.Malformed.{Malformed}

-- the numbers that `Numbers` has fields for, a line's categories and arguments alike: no line may list more of either
abbrev pub max_numbers : ℕ
max_numbers = 4

-- A number scanned in l, with where the bytes behind it start; f says what the number means.
abbrev pub scan_by : {A : Type 0} → (ℕ → A) → List ℕ → Option (ℕ × ℕ) → Scan A
scan_by f l None = fail
scan_by f l (Some p) = took (f p.0) (drop p.1 l)

abbrev pub ScanWithin : ℕ → Option (ℕ × ℕ) → Type 0
ScanWithin size o = IfSome o (λ p. (p.1 ≤ size) × (p.0 ≤ top))

-- Several numbers: the four that there is room for, those that are there, and that the others are 0.
abbrev pub items_of : Numbers → List ℕ
items_of t = t.first ∷ t.second ∷ t.third ∷ t.fourth ∷ []

abbrev pub numbers_of : Numbers → List ℕ
numbers_of t = take t.count (items_of t)

abbrev pub RestEmpty : Numbers → Type 0
RestEmpty t = (k : ℕ) → t.count ≤ k → get_or (items_of t) k 0 ≡ 0

abbrev pub no_numbers : ℕ → Numbers
no_numbers next = record { count = 0; first = 0; second = 0; third = 0; fourth = 0; next = next }

-- several numbers scanned in l
abbrev pub scan_numbers : List ℕ → Option Numbers → Scan (List ℕ)
scan_numbers l None = fail
scan_numbers l (Some t) = took (numbers_of t) (drop t.next l)

-- the bytes behind them start within the line, and there are one to max
abbrev pub NumbersWithin : ℕ → ℕ → Numbers → Type 0
NumbersWithin size max t = (t.next ≤ size) × (1 ≤ t.count) × (t.count ≤ max) × RestEmpty t

-- A reading of s: a line that is refused, where it begins; or a value, of which f says what it means, and the lines behind the cursor.
abbrev pub reading_by : {T A : Type 0} → (T → A) → List ℕ → Result (T × Cursor) Malformed → Reading A
reading_by f s (Err e) = refused (number_of e.refusal) e.at
reading_by f s (Ok r) = got (f r.0) r.1.at (split (drop r.1.at s))

-- A result of the line at c with the cursor d behind it.
abbrev pub placed_by : {T : Type 0} → Result T Refusal → Cursor → Cursor → Result (T × Cursor) Malformed
placed_by (Err e) c d = Err (record { refusal = e; at = c.at })
placed_by (Ok x) c d = Ok (x, d)
