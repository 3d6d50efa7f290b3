-- What the parts of an `m=` line say, in the words of crate `spec_sheet` (text_read's View has what a number says).
use Rattle.std.specs.Prelude.{◌≡◌, true, cond, List, ℕ, ◌≤◌, length, drop, Option, None, Some}
use Rattle.spec_model.specs.Basics.{Res, refuse, ok}
use Rattle.spec_model.specs.Table.{denied, unavail, max_arguments, bare, permit}
use Rattle.spec_model.specs.Table.{Method as Methodᵐ}
use Rattle.spec_model.specs.Check.{state_of, method_of}
use Rattle.spec_model.specs.Refusals.{form}
use Rattle.spec_sheet.specs.Lines.{same}
use Rattle.spec_sheet.specs.Text.{state_text}
use Rattle.spec_sheet.specs.Sheet.{signature, method_line}
use Rattle.table_record.specs.declared.Method.{Method}
use Rattle.table_record.specs.Store.{raw_method}
use Rattle.text_read.specs.declared.Numbers.{Numbers}
use Rattle.text_read.specs.View.{RestEmpty}

-- a method of the code
abbrev pub method_is : Method → Methodᵐ
method_is m = method_of (raw_method m)

-- Where the arguments end in a line of this length; there are not too many, and those that are not there are 0.
abbrev pub ArgsWithin : ℕ → Numbers → Type 0
ArgsWithin size t = (t.next ≤ size) × (t.count ≤ max_arguments) × RestEmpty t

-- the lines of the two states without a signature
abbrev pub bare_line : List ℕ → Res Methodᵐ
bare_line l = cond (same (state_text denied) l) (ok (bare denied)) (cond (same (state_text unavail) l) (ok (bare unavail)) (refuse form))

-- What is left to be read of an `m=` line, by its beginning: a state and where its signature starts, or neither.
abbrev pub Opens : List ℕ → Option (ℕ × ℕ) → Type 0
Opens l None = (n : ℕ) → bare_line l ≡ method_line n l
Opens l (Some p) = (p.1 ≤ length l) × (permit (state_of p.0) ≡ true) × ((n : ℕ) → signature n (state_of p.0) (drop p.1 l) ≡ method_line n l)
