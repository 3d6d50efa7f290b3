-- The operands that the C functions of the requests list of what they take, for crate `request_by_code`.
use Rattle.std.specs.Prelude.{◌≡◌, List, ◌∷◌, ℕ, zero, suc, ◌≤◌, ℤ, length, take}
use Rattle.spec_model.specs.Table.{max_arguments}
use Rattle.request_operands.specs.declared.Operands.{Operands}

-- how many an answer has
abbrev pub answer_operands : ℕ → ℕ
answer_operands zero = 2
answer_operands (suc n) = 3

-- those of a call: one argument more than a signature may have is as many as matter
abbrev pub call_operands : ℤ → ℤ → ℤ → List ℤ → List ℤ
call_operands subject cell method vs = subject ∷ cell ∷ method ∷ take (suc max_arguments) vs

-- o has these operands
pub record Listed (ws : List ℤ) (o : Operands) : Type 0 where
  pub is : take o.count o.items ≡ ws
  pub fits : o.count ≤ length o.items
