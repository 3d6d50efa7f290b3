-- What the requests in a list of words come to.
use Rattle.std.specs.Prelude.{List, [], ◌∷◌, ℕ, ℤ}
use Rattle.std.proofs.Math.Option.{Option, none, some}
use Rattle.spec_model.specs.Basics.{Res, ok, need}
use Rattle.spec_model.specs.Requests.{System, Request, Outcome, refused, run}
use Rattle.spec_model.specs.Check.{RawSystem, system_of, system_accepted}
use Rattle.spec_model.specs.Refusals.{out_of_range, form}
use Rattle.request_words.specs.Words.{requests}

-- The model's run of those that are requests, so that what is proved of that run (demand 3) holds of this one; and 1 in the place of each that is none.
abbrev pub asked : List (Option Request) → List Request
asked [] = []
asked (none ∷ qs) = asked qs
asked (some q ∷ qs) = q ∷ asked qs

abbrev pub placed : List (Option Request) → List Outcome → List Outcome
placed [] os = []
placed (none ∷ qs) os = refused form ∷ placed qs os
placed (some q ∷ qs) [] = []
placed (some q ∷ qs) (o ∷ os) = o ∷ placed qs os

abbrev pub run_asked : System → List (Option Request) → List Outcome × System
run_asked s qs = let r = run s (asked qs) in (placed qs r.0, r.1)

-- On a state handed in, with room for f outcomes: 2 before all else, and once.
unfoldable pub run_handed : RawSystem → ℕ → List ℤ → Res (List Outcome × System)
unfolding system_accepted system_of run requests
run_handed r f ws = need (system_accepted r) out_of_range λ _. ok (run_asked (system_of r) (requests f ws))
