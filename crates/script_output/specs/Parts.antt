-- The lines as the code prints them, one after the other, each on the state that those before it left (P4). That they are those of the definition is proved in proofs/Whole.antt.
use Rattle.std.specs.Prelude.{List, [], ◌∷◌, ℕ}
use Rattle.std.proofs.Math.Option.{Option, none, some}
use Rattle.spec_model.specs.Requests.{System, Request, serve, after, outcome}
use Rattle.spec_sheet.specs.Lines.{Row, row, cut, bytes}
use Rattle.script_read_request.specs.Asked.{request_line}
use Rattle.script_write_outcome.specs.Outcomes.{outcome_text}

-- the line of what is asked, and what comes behind it on the state that is left
abbrev pub lines_by : System → (System → List (List ℕ)) → Option Request → List (List ℕ)
lines_by x more none = bytes "no=1" ∷ []
lines_by x more (some q) = let a = serve x q in outcome_text (outcome a) ∷ more (after x a)

unfoldable pub lines_from : System → List Row → List (List ℕ)
unfolding request_line serve outcome_text
lines_from x [] = []
lines_from x (cut l ∷ rs) = bytes "no=1" ∷ []
lines_from x (row l ∷ rs) = lines_by x (λ y. lines_from y rs) (request_line l)
