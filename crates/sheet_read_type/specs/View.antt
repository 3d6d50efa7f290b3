-- What the readers of types give, in the words of crate `spec_sheet`: several lines read, and the lines of a reference type behind its `cat=` line.
use Rattle.std.specs.Prelude.{◌≡◌, List, [], map, ℕ, ◌≤◌, ◌<◌, get_or, drop, Result, Ok, Err}
use Rattle.spec_model.specs.Table.{ref, Method as Methodᵐ, Ty, max_methods}
use Rattle.spec_model.specs.Check.{no_raw_method}
use Rattle.base_numbers.specs.Refusal.{number_of}
use Rattle.table_record.specs.declared.Method.{Method}
use Rattle.table_record.specs.Store.{raw_method, blank_method, MethodExact}
use Rattle.spec_sheet.specs.Lines.{split, Reading, refused, got, Reader, pure, line, bind, times}
use Rattle.spec_sheet.specs.Sheet.{own_line, method_line, sheet_type}
use Rattle.text_cursor.specs.declared.Cursor.{Cursor}
use Rattle.text_read.specs.declared.Malformed.{Malformed}
pub use Rattle.sheet_read_method.specs.View.{method_is}

-- Several lines of s, read as x, which is stored elsewhere; the cursor behind them.
abbrev pub done_by : {A : Type 0} → List ℕ → A → Result Cursor Malformed → Reading A
done_by s x (Err e) = refused (number_of e.refusal) e.at
done_by s x (Ok c) = got x c.at (split (drop c.at s))

-- Of sixteen methods the first m are the records that stand for what they mean, and the bytes of the others are 0.
pub record MethodsExact (m : ℕ) (ms : List Method) : Type 0 where
  pub exact : (j : ℕ) → j < m → MethodExact (get_or (map raw_method ms) j no_raw_method)
  pub rest : (j : ℕ) → m ≤ j → j < max_methods → get_or (map raw_method ms) j no_raw_method ≡ blank_method

-- the `m=` line of a method
abbrev pub each_method : ℕ → ℕ → Reader Methodᵐ
each_method n j = line (method_line n)

-- the lines of a reference type behind its `cat=` line
unfoldable pub members_read : ℕ → ℕ → ℕ → Reader Ty
unfolding times own_line method_line
members_read m n k = bind (line own_line) λ o. bind (times (each_method n) m 0 []) λ ms. pure (sheet_type ref k o ms)
