-- The pieces that are written one behind the other are the text of the definition, case by case.
use mathlib.Core.Path.{◌≡◌, ap}
use mathlib.Core.Bool.{Bool, true, false}
use mathlib.Core.List.{List, [], ◌∷◌, ◌++◌}
use Prim.Native.Nat.{ℕ, ◌<◌}
use native.Mathlib.Omega.{arith}
use lib.IntN.{ℤ, pos, negsuc, nat_abs}
use lib.Signed.{lt_z}
use borrow.Author.Tests.{ltb-true}
use Rattle.spec_model.specs.Requests.{number, got, refused}
use Rattle.spec_sheet.specs.Lines.{bytes}
use Rattle.spec_sheet.specs.Numbers.{decimal}
use Rattle.spec_sheet.specs.Text.{number_text}
use Rattle.text_write.specs.Fill.{Lined}
use Rattle.text_write.proofs.Laws.{lines_are}
use Rattle.script_write_outcome.specs.Outcomes.{integer_text, outcome_text}

-- ---- a signed decimal
pub integer-negative : (v : ℤ) (n : ℕ) → lt_z v (pos 0) ≡ true → n ≡ nat_abs v → (45 ∷ []) ++ decimal n ≡ integer_text v
unfolding integer_text
integer-negative (pos k) n h e = let l : k < 0 = ltb-true k 0 h in absurd (omega arith)
integer-negative (negsuc k) n h e = ap (λ z. 45 ∷ decimal z) e

pub integer-positive : (v : ℤ) (n : ℕ) → lt_z v (pos 0) ≡ false → n ≡ nat_abs v → decimal n ≡ integer_text v
unfolding integer_text
integer-positive (pos k) n h e = ap decimal e
integer-positive (negsuc k) n h e = let z : ◌≡◌ {A = Bool} true false = h in let q : ◌≡◌ {A = ℕ} 0 1 = cc in absurd (omega arith)

-- ---- lines
pub number_is : (v w : ℤ) → w ≡ v → (bytes "got=" ++ integer_text w) ++ 10 ∷ [] ≡ outcome_text (got (number v)) ++ 10 ∷ []
unfolding outcome_text
number_is v w e = ap (λ z. (bytes "got=" ++ integer_text z) ++ 10 ∷ []) e

pub refused_is : {old new : List ℕ} {n r : ℕ} (e : ℕ) → Lined old new (number_text (bytes "no=") n ∷ []) r → n ≡ e → Lined old new (outcome_text (refused e) ∷ []) r
unfolding outcome_text
refused_is e l is = lines_are (ap (λ n. number_text (bytes "no=") n ∷ []) is) l
