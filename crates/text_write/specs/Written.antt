-- The number and value of each case that a writer comes to (E4), and what it leaves.
use Rattle.std.specs.Prelude.{ℕ, ◌≡◌, List, Result}
use Rattle.spec_model.specs.Basics.{Res, refuse, ok}
use Rattle.spec_sheet.specs.Text.{Written}
use Rattle.base_numbers.specs.Refusal.{number_of as number_by_name, res_numbered}
use Rattle.base_numbers.specs.declared.refusal.Refusal.{Refusal}

-- what comes of a text and a buffer: the text's length, or why it is refused
abbrev pub Wrote : Type 0
Wrote = Result ℕ Refusal

-- where why it is refused has the number that `numbered` says
abbrev pub wrote_numbered : {E : Type 0} → (E → ℕ) → Result ℕ E → Res ℕ
wrote_numbered numbered = res_numbered numbered λ n. n

abbrev pub wrote_result : Wrote → Res ℕ
wrote_result = wrote_numbered number_by_name

-- the number of a refusal, or 0; and what is handed out beside it, which stays `old` where it is refused
abbrev pub number_of : {A : Type 0} → Res A → ℕ
number_of (refuse n) = n
number_of (ok _) = 0

abbrev pub value_of : {A : Type 0} → A → Res A → A
value_of old (refuse n) = old
value_of old (ok x) = x

-- the result, and the buffer as it is then
abbrev pub written_of : Wrote → List ℕ → Written
written_of w buffer = record { result = wrote_result w; buffer = buffer }

-- what a C function hands out of it, each part by itself (E12): the number, the length (old and new) and the buffer
pub record WrittenIs (w : Written) (n old new : ℕ) (buffer : List ℕ) : Type 0 where
  pub number : n ≡ number_of w.result
  pub length : new ≡ value_of old w.result
  pub bytes : buffer ≡ w.buffer
