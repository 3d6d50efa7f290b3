-- A buffer that is surely long enough.
use mathlib.Core.Path.{◌≡◌, ap, ◌∙◌}
use mathlib.Core.Logic.{⊎_elim}
use mathlib.Core.List.{List}
use Prim.Native.Nat.{ℕ, min, ◌+◌, ◌≤◌, ◌<◌}
use native.Mathlib.Nat.{min-eq_left, min-eq_right}
use native.Mathlib.Omega.{arith}
use lib.ListN.{length}
use Rattle.table_record.proofs.Lists.{lt-or-ge}
use Rattle.spec_sheet.specs.Lines.{join}
use Rattle.script_output.specs.Output.{max_input, max_longer, script_output}
use Rattle.script_output.proofs.Whole.{long-prints}
use Rattle.script_output.proofs.Short.{output-short}

-- five bytes more than the input, of which no more than max_input count
pub enough : (s : List ℕ) (k n : ℕ) → k ≡ min (length s) max_input → k + max_longer ≤ n → length (script_output s) ≤ n
unfolding join
enough s k n e l = ⊎_elim
    (λ (h : max_input < length s). let q : k ≡ max_input = e ∙ min-eq_right (omega arith) in let w : 5 ≡ length (script_output s) = ap length (long-prints s h) in omega arith)
    (λ (h : length s ≤ max_input). let q : k ≡ length s = e ∙ min-eq_left h in let w = output-short s in omega arith)
    (lt-or-ge max_input (length s))
