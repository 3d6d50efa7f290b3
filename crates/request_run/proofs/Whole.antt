-- The model's run of those that are requests, as the code goes: one after the other, each on the state that those before it left.
use mathlib.Core.Path.{◌≡◌, refl, ap}
use mathlib.Core.List.{List, [], ◌∷◌}
use mathlib.Core.Option.{Option, none, some}
use Rattle.spec_model.specs.Requests.{System, Request, Outcome, refused, serve, after, outcome, run}
use Rattle.spec_model.specs.Refusals.{form}
use Rattle.request_by_code.specs.Coded.{serve_asked}
use Rattle.request_run.specs.Requested.{run_asked}

unfoldable pub serve_each : System → List (Option Request) → List Outcome × System
unfolding serve_asked
serve_each s [] = ([], s)
serve_each s (q ∷ qs) = let a = serve_asked s q in let r = serve_each (after s a) qs in (outcome a ∷ r.0, r.1)

pub each-is-run : (s : System) (qs : List (Option Request)) → serve_each s qs ≡ run_asked s qs
unfolding serve_each serve_asked run
each-is-run s [] = refl
each-is-run s (none ∷ qs) = ap (λ (r : List Outcome × System). (refused form ∷ r.0, r.1)) (each-is-run s qs)
each-is-run s (some q ∷ qs) = ap (λ (r : List Outcome × System). (outcome (serve s q) ∷ r.0, r.1)) (each-is-run (after s (serve s q)) qs)
