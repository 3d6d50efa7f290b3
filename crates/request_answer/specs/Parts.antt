-- The request answer in the parts that the code has: the call that is answered, what is due and given, and a value on its way back.
use Rattle.std.specs.Prelude.{◌≡◌, true, false, not, List, ℕ, ◌<◌, eqb, ℤ}
use Rattle.std.proofs.Math.Option.{Option}
use Rattle.spec_model.specs.Basics.{Res, ok, try, need, named}
use Rattle.spec_model.specs.Table.{type_at, is_ref}
use Rattle.spec_model.specs.Crossing.{base_owner}
use Rattle.spec_model.specs.Requests.{System, Result, number, cell_at, call_at, held, send, pass_layers, with_answer, due_for, answers_met, give}
use Rattle.spec_model.specs.Refusals.{not_held, wrong_values, answered_already}
use Rattle.state_record.specs.declared.Cell.{Cell}
use Rattle.state_record.specs.declared.Call.{Call}
use Rattle.state_record.specs.Whole.{Whole as State}
use Rattle.state_record.specs.View.{cell_of, call_of, system_in}

-- A reference on its way back, and any value where one is due: what `give` does with them.
abbrev pub give_reference : System → ℕ → ℕ → ℤ → List (Option ℕ) → Res (System × Result)
give_reference s j r v ts = try (send s r (named v) ts) λ x. ok (with_answer x.0 j, x.1)

abbrev pub give_value : System → ℤ → ℕ → ℕ → ℤ → Res (System × Result)
give_value s subject j a v = elim (is_ref (type_at s.table a).rep) [
  | true ↦ need (held s subject v) wrong_values λ _. give_reference s j (call_at s j).caller v (answers_met s j)
  | false ↦ try (pass_layers true s.table v (answers_met s j)) λ _. ok (with_answer s j, number v)
]

-- What is left once the subject is known and j is the number of a call.
abbrev pub answer_call : System → ℤ → ℕ → Option ℤ → Res (System × Result)
answer_call s subject j v =
    need (eqb (named subject) (base_owner s.places (cell_at s (call_at s j).cell).place)) not_held λ _.
    need (not (call_at s j).answered) answered_already λ _.
    give s subject j (due_for s j) v

-- x is the record of call j, and c that of the cell it was made through.
pub record Called (s : State) (j : ℕ) (x : Call) (c : Cell) : Type 0 where
  pub number : j < s.calls.count
  pub call : call_of x ≡ call_at (system_in s) j
  pub cell : cell_of c ≡ cell_at (system_in s) (call_at (system_in s) j).cell
  pub method : x.method < s.counts.methods
  pub ty : c.ty < s.counts.types
  pub place : c.place < s.places.count
