-- What the results of reading the input of `doors` say, in the words of crate `spec_doors` (P27, P28).
use Rattle.std.specs.Prelude.{◌≡◌, List, [], ℕ, ◌≤◌, length, take, drop, Option, Some, None}
use Rattle.spec_model.specs.Basics.{Res, refuse, ok}
use Rattle.spec_model.specs.Refusals.{form}
use Rattle.spec_sheet.specs.Lines.{split, Reading, refused, got}
use Rattle.spec_doors.specs.Times.{max_times}
use Rattle.spec_doors.specs.Input.{Input}
use Rattle.text_cursor.specs.declared.Cursor.{Cursor}
use Rattle.doors_read.specs.declared.Read.{Read}

-- The times are n, and they are the first n items where there is room for them.
pub record Stored (times items : List ℕ) (n : ℕ) : Type 0 where
  pub count : length times ≡ n
  pub there : n ≤ max_times → take n items ≡ times

-- R is the result that some times give, n of them, and stored.
pub record Gives {A : Type 0} (R : A) (give : List ℕ → A) (items : List ℕ) (n : ℕ) : Type 0 where
  pub times : List ℕ
  pub is : R ≡ give times
  pub stored : Stored times items n

-- the result of a line: how many times it has, none where its form is wrong
abbrev pub TimesRead : Res (List ℕ) → List ℕ → Option ℕ → Type 0
TimesRead R items None = R ≡ refuse form
TimesRead R items (Some n) = Gives R ok items n

-- the reading of the line of s at an offset
abbrev pub LineRead : Reading (List ℕ) → List ℕ → ℕ → List ℕ → Option (ℕ × Cursor) → Type 0
LineRead R s at items None = R ≡ refused form at
LineRead R s at items (Some p) = Gives R (λ xs. got xs p.1.at (split (drop p.1.at s))) items p.0

-- the reading of the whole input
pub record Whole (R : Reading Input) (ms xs : List ℕ) (w m n : ℕ) : Type 0 where
  pub input : Input
  pub at : ℕ
  pub is : R ≡ got input at []
  pub within : input.within ≡ w
  pub marks : Stored input.marks ms m
  pub arrivals : Stored input.arrivals xs n

abbrev pub InputRead : Reading Input → List ℕ → List ℕ → Option Read → Type 0
InputRead R marks arrivals None = (at : ℕ) × (R ≡ refused form at)
InputRead R marks arrivals (Some r) = Whole R marks arrivals r.within r.marks r.arrivals
