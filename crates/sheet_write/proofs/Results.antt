-- The writer on a table that passes the check, and on one that does not.
use mathlib.Core.Path.{◌≡◌}
use mathlib.Core.Bool.{true, false}
use mathlib.Core.List.{List}
use Prim.Native.Nat.{ℕ}
use Rattle.spec_model.specs.Check.{RawTable, table_of, table_accepted}
use Rattle.spec_sheet.specs.Text.{text, write_text, write}
use Rattle.std.specs.Prelude.{Err}
use Rattle.base_numbers.specs.declared.refusal.Refusal.TheVariants.{OutOfRange}
use Rattle.text_write.specs.Written.{written_of}

-- what is left to write is the sheet's text (W2 to W4)
pub fit_is : (r : RawTable) (buf : List ℕ) → table_accepted r ≡ true → write_text (text (table_of r)) buf ≡ write r buf
unfolding write
fit_is r buf h = rw h

-- an unfit table (W1, W3)
pub unfit-is : (r : RawTable) (buf : List ℕ) → table_accepted r ≡ false → written_of (Err OutOfRange) buf ≡ write r buf
unfolding write
unfit-is r buf h = rw h
