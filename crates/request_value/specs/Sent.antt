-- What comes of one argument, and of all of them.
use Rattle.std.specs.Prelude.{◌≡◌, true, false, List, map, ℕ, ◌≤◌, ℤ, take, Ok, Err}
use Rattle.std.specs.Prelude.{Result as Either}
use Rattle.spec_model.specs.Basics.{Res, refuse, ok, try, named}
use Rattle.spec_model.specs.Table.{type_at, argument_at, is_ref}
use Rattle.spec_model.specs.Requests.{System, Result, nothing, send, pass_layers}
use Rattle.table_record.specs.declared.Method.{Method}
use Rattle.state_record.specs.Whole.{Whole as State}
use Rattle.state_record.specs.View.{calls_in}
use Rattle.state_record.specs.Sound.{Sound}
use Rattle.request_common.specs.Served.{Done as Served}
use Rattle.request_common.specs.Served.{served_as, Stored}
use Rattle.base_numbers.specs.declared.refusal.Refusal.{Refusal}
use Rattle.base_numbers.specs.Refusal.{number_of}
use Rattle.request_value.specs.declared.Met.{Met}
use Rattle.request_value.specs.declared.Met.TheVariants as met

-- argument types of a signature as it is stored
abbrev pub arguments_of : Method → List ℕ
arguments_of x = take x.count x.args

-- Argument i, whose type in the cell type's signature is a: what `send_arguments` does with it before it goes on.
abbrev pub send_argument : System → ℕ → List ℕ → ℕ → ℕ → ℕ → ℤ → Res (System × Result)
send_argument s r ls m i a v = elim (is_ref (type_at s.table a).rep) [
  | true ↦ send s r (named v) (map (argument_at s.table m i) ls)
  | false ↦ try (pass_layers true s.table v (map (argument_at s.table m i) ls)) λ _. ok (s, nothing)
]

abbrev pub all_sent : Res System → Res (System × Result)
all_sent x = try x λ s. ok (s, nothing)

-- What a step on the way leaves: no cell or place is taken away, and calls are made at the end alone.
pub record Went (s s' : State) : Type 0 where
  pub cells : s.cells.count ≤ s'.cells.count
  pub places : s.places.count ≤ s'.places.count
  pub calls : calls_in s'.calls ≡ calls_in s.calls

-- What comes of the arguments together. After a refusal the state is the one that the refused argument met, and the call gives back its own (C20).
pub record Sent (s : State) (m : Res (System × Result)) (q : Served) : Type 0 where
  pub is : served_as q ≡ m
  pub stored : Stored s q.state
  pub sound : Sound q.state
  pub went : Went s q.state

-- What is known of all arguments, sent from s, by their numbers alone; nothing where one is a reference.
abbrev pub Passes : System → Res System → Either Met Refusal → Type 0
Passes s m (Err e) = m ≡ refuse (number_of e)
Passes s m (Ok met.Numbers) = m ≡ ok s
Passes s m (Ok met.Reference) = Unit {0}
