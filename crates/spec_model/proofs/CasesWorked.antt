-- Worked cases beside Case P (K13), computed from the definitions: references in arguments and answers through adapters, with the cells and places they become. The refusals that
-- Case P does not meet stand in crate law_model (CasesRefused), four references in one call in law_rules (CasesFour): no wrong version needs them.
use mathlib.Core.Path.{◌≡◌, refl}
use mathlib.Core.List.{List, [], ◌∷◌}
use mathlib.Core.Option.{none, some}
use lib.IntN.{pos}
use lib.ListN.{length, drop}
use Rattle.spec_model.specs.Table.{denied, optional, avail, unavail, Table, signed, bare}
use Rattle.spec_model.specs.Crossing.{Place, object, adapter}
use Rattle.spec_model.specs.Requests.{Cell, System, Request, Outcome, got, pair, nothing, loaded, run}
use Rattle.spec_model.proofs.CasesWords.{type, sheet_of, cell, new', move', call', answer'}

-- Requests on a state: what they come to, and the cells and places that there are more at the end.
pub record Work : Type 0 where
  pub state : System
  pub requests : List Request
  pub gives : List Outcome
  pub cells : List Cell
  pub places : List Place

abbrev seen : System → List Outcome × System → List Outcome × List Cell × List Place
seen s x = (x.0, drop (length s.cells) x.1.cells, drop (length s.places) x.1.places)

abbrev pub Works : Work → Type 0
Works w = seen w.state (run w.state w.requests) ≡ (w.gives, w.cells, w.places)

abbrev pub AllWork : List Work → Type 0
AllWork [] = Unit
AllWork (w ∷ ws) = Works w × AllWork ws

-- ---- arguments: type 2 takes method 1 away, so that a cell of it has an adapter; the class takes an argument of type 1, type 2 one of type 3.
abbrev pub passing : Table
passing = sheet_of 2 2 (
    type (signed avail (1 ∷ []) none ∷ bare avail ∷ [])
    ∷ type (bare denied ∷ bare avail ∷ [])
    ∷ type (signed avail (3 ∷ []) none ∷ bare unavail ∷ [])
    ∷ type (bare unavail ∷ bare avail ∷ [])
    ∷ [])

-- ---- answers: as `twice`, every type answering method 0 with a reference
abbrev answering_twice : Table
answering_twice = sheet_of 2 3 (
    type (signed avail [] (some 0) ∷ bare avail ∷ bare avail ∷ [])
    ∷ type (signed avail [] (some 0) ∷ bare unavail ∷ bare avail ∷ [])
    ∷ type (signed avail [] (some 4) ∷ bare denied ∷ bare denied ∷ [])
    ∷ type (signed avail [] (some 4) ∷ bare denied ∷ bare optional ∷ [])
    ∷ type (bare denied ∷ bare unavail ∷ bare avail ∷ [])
    ∷ [])

abbrev pub references : List Work
references =
    -- An argument through an adapter (C11, C12, C17): the owner of the called object holds the new cell, of the class's argument type, over the adapter that the first layer
    -- asked for; the owner uses it, and it is the argument's object that is called, through one adapter (C19).
    record {
      state = loaded passing;
      requests = new' 0 0 2 ∷ move' 0 0 1 2 ∷ new' 1 0 0 ∷ call' 1 1 0 (pos 2 ∷ []) ∷ call' 0 3 1 [] ∷ answer' 1 1 none ∷ [];
      gives = got (pair 0 1) ∷ got (pair 1 1) ∷ got (pair 2 2) ∷ got (pair 0 1) ∷ got (pair 1 1) ∷ got nothing ∷ [];
      cells = cell 0 2 1 ∷ cell 1 2 1 ∷ cell 1 0 2 ∷ cell 0 1 3 ∷ [];
      places = object 0 0 ∷ adapter 0 6 ∷ object 0 1 ∷ adapter 2 9 ∷ [];
    }
    -- An answer through two adapters (A7, A8, A10): the caller holds the new cell, by the type that is due.
    ∷ record {
      state = loaded answering_twice;
      requests = new' 0 0 1 ∷ move' 0 0 1 2 ∷ move' 1 1 1 3 ∷ call' 1 2 0 [] ∷ new' 0 0 0 ∷ answer' 0 0 (some (pos 3)) ∷ [];
      gives = got (pair 0 1) ∷ got (pair 1 2) ∷ got (pair 2 2) ∷ got (pair 0 2) ∷ got (pair 3 3) ∷ got (pair 4 4) ∷ [];
      cells = cell 0 1 1 ∷ cell 1 2 2 ∷ cell 1 3 2 ∷ cell 0 0 3 ∷ cell 1 4 4 ∷ [];
      places = object 0 0 ∷ adapter 0 6 ∷ adapter 1 9 ∷ object 0 0 ∷ adapter 3 13 ∷ [];
    }
    ∷ []

pub references-worked : AllWork references
unfolding run
references-worked = (refl, (refl, tt))
