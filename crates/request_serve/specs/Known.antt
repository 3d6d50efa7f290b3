-- What is known of a request before any type is stored.
use Rattle.std.specs.Prelude.{◌≡◌, Option, Some, None, Ok, Err}
use Rattle.std.specs.Prelude.{Result as Either}
use Rattle.spec_model.specs.Basics.{Res, refuse, ok}
use Rattle.spec_model.specs.Requests.{System, Result, pair, with_call}
use Rattle.base_numbers.specs.declared.refusal.Refusal.{Refusal}
use Rattle.base_numbers.specs.Refusal.{number_of}
use Rattle.state_record.specs.Whole.{Whole as State}
use Rattle.state_record.specs.View.{system_in}
use Rattle.request_call.specs.declared.Plan.{Plan}
use Rattle.request_call.specs.Called.{new_call, Fits}

-- m is what it comes to: the refusal, or one more call where nothing is sent; of what else there is nothing is said
abbrev pub Known : State → Res (System × Result) → Either (Option Plan) Refusal → Type 0
Known s m (Ok (Some p)) = Fits s p × (m ≡ ok (with_call (system_in s) (new_call p.who p.cell p.method), pair s.calls.count p.adapters))
Known s m (Ok None) = Unit {0}
Known s m (Err e) = m ≡ refuse (number_of e)
