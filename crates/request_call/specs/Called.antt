-- The request call in the parts that the code has: the call once its operands are known, and what is left of it then.
use Rattle.std.specs.Prelude.{◌≡◌, false, Ok, Err, List, ℕ, ◌<◌, ltb, ℤ, length}
use Rattle.std.specs.Prelude.{Result as Either}
use Rattle.spec_model.specs.Basics.{Res, refuse, ok, try, need, named}
use Rattle.spec_model.specs.Table.{method_at, is_avail}
use Rattle.spec_model.specs.Crossing.{base_owner}
use Rattle.spec_model.specs.Requests.{Call, System, Result, pair, cell_at, arguments_held, send_arguments, call_layers, adapter_count, with_call, max_calls_each, made_by}
use Rattle.spec_model.specs.Refusals.{not_callable, wrong_values, calls_full}
use Rattle.base_numbers.specs.declared.refusal.Refusal.{Refusal}
use Rattle.base_numbers.specs.Refusal.{number_of}
use Rattle.state_record.specs.Whole.{Whole as State}
use Rattle.state_record.specs.View.{system_in}
use Rattle.state_record.specs.Sound.{MayCall}
use Rattle.request_value.specs.declared.Met.TheVariants.{Numbers}
use Rattle.request_value.specs.Sent.{arguments_of}
use Rattle.request_call.specs.declared.Plan.{Plan}

abbrev pub new_call : ℕ → ℕ → ℕ → Call
new_call who k m = record { caller = who; cell = k; method = m; answered = false }

-- A call whose operands are known to be served, and what is left of it once the subject, its cell and the method are known.
abbrev pub call_through : System → ℕ → ℕ → ℕ → List ℕ → List ℤ → Res (System × Result)
call_through s who k m xs vs =
    let c = cell_at s k in
    try (send_arguments s (base_owner s.places c.place) (call_layers s c) m 0 xs vs) λ x.
    ok (with_call x (new_call who k m), pair (length s.calls) (adapter_count s.places c.place))

abbrev pub call_held : System → ℤ → ℕ → ℕ → List ℤ → Res (System × Result)
call_held s subject k m vs =
    let x = method_at s.table (cell_at s k).type m in
    need (is_avail x.state) not_callable λ _.
    need (arguments_held s subject x.args vs) wrong_values λ _.
    need (ltb (made_by (named subject) s.calls) max_calls_each) calls_full λ _.
    call_through s (named subject) k m x.args vs

-- What a plan says of m, which is what the call comes to: that the caller may make it, and its numbers name something; the call that is made where nothing is sent.
abbrev pub Fits : State → Plan → Type 0
Fits s p = MayCall s p.who × (p.who < 256) × (p.cell < s.cells.count) × (p.method < s.counts.methods)

abbrev pub Adds : State → Res (System × Result) → Plan → Type 0
Adds s m p = p.met ≡ Numbers → m ≡ ok (with_call (system_in s) (new_call p.who p.cell p.method), pair s.calls.count p.adapters)

pub record Goes (s : State) (vs : List ℤ) (m : Res (System × Result)) (p : Plan) : Type 0 where
  pub fits : Fits s p
  pub goes : m ≡ call_through (system_in s) p.who p.cell p.method (arguments_of p.signature) vs
  pub adds : Adds s m p

-- What is known of a call before anything is sent, m being what it comes to: the refusal, or the call that is left; and all of it where no argument is a reference.
abbrev pub Planned : State → List ℤ → Res (System × Result) → Either Plan Refusal → Type 0
Planned s vs m (Ok p) = Goes s vs m p
Planned s vs m (Err e) = m ≡ refuse (number_of e)
