-- A request as a code and its operands, in a run (U2 to U5) and in a script (P5 to P8): 0 new, 1 move, 2 call, 3 answer.
use Rattle.std.specs.Prelude.{cond, List, ℕ, zero, suc, eqb, leb, ℤ, pos, length, get_or, drop}
use Rattle.std.proofs.Math.Option.{Option, none, some}
use Rattle.spec_model.specs.Requests.{Request, new, move, call, answer}

-- operand i of a request
abbrev operand_at : List ℤ → ℕ → ℤ
operand_at ws i = get_or ws i (pos 0)

-- The request of a code and its operands, where there is one.
abbrev pub by_code : ℕ → List ℤ → Option Request
by_code zero ws = cond (eqb (length ws) 3) (some (new (operand_at ws 0) (operand_at ws 1) (operand_at ws 2))) none
by_code (suc zero) ws = cond (eqb (length ws) 4) (some (move (operand_at ws 0) (operand_at ws 1) (operand_at ws 2) (operand_at ws 3))) none
by_code (suc (suc zero)) ws = cond (leb 3 (length ws)) (some (call (operand_at ws 0) (operand_at ws 1) (operand_at ws 2) (drop 3 ws))) none
by_code (suc (suc (suc zero))) ws =
    cond (eqb (length ws) 2) (some (answer (operand_at ws 0) (operand_at ws 1) none))
    (cond (eqb (length ws) 3) (some (answer (operand_at ws 0) (operand_at ws 1) (some (operand_at ws 2)))) none)
by_code (suc (suc (suc (suc n)))) ws = none
