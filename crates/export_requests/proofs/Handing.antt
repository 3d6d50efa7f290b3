-- What comes back of a code and its operands, which may name no request: two numbers that are small enough to be signed.
use mathlib.Core.Path.{ap, sym, subst}
use mathlib.Core.Option.{Option, none, some}
use Rattle.spec_model.specs.Requests.{Request}
use Rattle.state_record.specs.Whole.{Whole as State}
use Rattle.request_common.specs.Served.{Done as Served}
use Rattle.request_serve.specs.Serves.{ServesAsked}
use Rattle.request_results.specs.Stored.{Small}
use Rattle.request_results.proofs.Small.{served-small}

pub asked-small : (s : State) (q : Option Request) (r : Served) → ServesAsked s q r → Small r.outcome
asked-small s none r e = subst Small (ap (λ (x : Served). x.outcome) (sym e)) tt
asked-small s (some q) r w = served-small s q r w
