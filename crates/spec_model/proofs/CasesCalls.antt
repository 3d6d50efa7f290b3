-- Worked cases of a subject's own count of calls, computed from the definitions: 31, 32 and 33 of one caller, whose calls are asked through a cell that another holds of an object
-- that a third owns; what others ask does not matter, nor what was refused (C7, H17).
use mathlib.Core.Path.{◌≡◌, refl}
use mathlib.Core.Bool.{true}
use mathlib.Core.List.{List, [], ◌∷◌, ◌++◌, map}
use mathlib.Core.Option.{none}
use Prim.Native.Nat.{ℕ, zero, suc}
use lib.IntN.{pos}
use lib.ListN.{replicate, length}
use Rattle.spec_model.specs.Table.{avail, Table, no_type, signed, bare}
use Rattle.spec_model.specs.Crossing.{object}
use Rattle.spec_model.specs.Requests.{Call, System, Request, Outcome, got, refused, pair, nothing, run}
use Rattle.spec_model.specs.Check.{RawSystem}
use Rattle.spec_model.specs.Handed.{raw_loaded, stored_from, serve_handed}
use Rattle.spec_model.specs.Callers.{seen, accepted_calls}
use Rattle.spec_model.proofs.Codes.{raw_table_of}
use Rattle.spec_model.proofs.CasesWords.{type, sheet_of, cell, state_from, new', move', call', answer'}

-- Subject 2 owns the object, of which method 1 takes a number; cells 0, 1 and 2 are held by 2, 0 and 1. No cell has its holder's number.
abbrev sheet : ℕ → Table
sheet subjects = sheet_of subjects 2 (type (bare avail ∷ signed avail (1 ∷ []) none ∷ []) ∷ no_type ∷ [])

abbrev among : ℕ → List Call → System
among subjects calls = state_from (sheet subjects) (cell 2 0 0 ∷ cell 0 0 0 ∷ cell 1 0 0 ∷ []) (object 0 2 ∷ []) calls

-- so many calls of a subject, all answered, through a cell of another's: 2 is held by 1, 1 by 0
abbrev made : ℕ → ℕ → ℕ → List Call
made n caller k = replicate n (record { caller = caller; cell = k; method = 0; answered = true })

pub record Asks : Type 0 where
  pub calls : List Call
  pub requests : List Request
  pub gives : List Outcome

abbrev pub AllGive : List Asks → Type 0
AllGive [] = Unit
AllGive (x ∷ xs) = ((run (among 3 x.calls) x.requests).0 ≡ x.gives) × AllGive xs

abbrev pub limits : List Asks
limits =
    -- with 31 there is one left, and then 18, also once it is answered; who holds the cell of those calls and who owns the object still call
    record {
      calls = made 31 0 2;
      requests = call' 0 1 0 [] ∷ call' 0 1 0 [] ∷ call' 1 2 0 [] ∷ call' 2 0 0 [] ∷ answer' 2 31 none ∷ call' 0 1 0 [] ∷ [];
      gives = got (pair 31 0) ∷ refused 18 ∷ got (pair 32 0) ∷ got (pair 33 0) ∷ got nothing ∷ refused 18 ∷ [];
    }
    -- refused calls do not count, whether 6, 14, 15 or 16
    ∷ record {
      calls = made 31 0 2;
      requests = call' 0 2 0 [] ∷ call' 0 1 2 [] ∷ call' 0 1 0 (pos 5 ∷ []) ∷ call' 0 1 1 (pos 2147483648 ∷ []) ∷ call' 0 1 1 (pos 5 ∷ []) ∷ call' 0 1 0 [] ∷ [];
      gives = refused 6 ∷ refused 14 ∷ refused 15 ∷ refused 16 ∷ got (pair 31 0) ∷ refused 18 ∷ [];
    }
    -- 18 stands behind 5, 6, 14 and 15 and before 16; who has called 32 times still makes objects and moves
    ∷ record {
      calls = made 32 0 2;
      requests = call' 3 1 0 [] ∷ call' 0 2 0 [] ∷ call' 0 1 2 [] ∷ call' 0 1 0 (pos 5 ∷ []) ∷ call' 0 1 1 (pos 2147483648 ∷ []) ∷ call' 0 1 1 (pos 5 ∷ []) ∷ new' 0 0 0 ∷ move' 0 1 1 0 ∷ [];
      gives = refused 5 ∷ refused 6 ∷ refused 14 ∷ refused 15 ∷ refused 18 ∷ refused 18 ∷ got (pair 3 1) ∷ got (pair 4 0) ∷ [];
    }
    -- each has its own count, however many there are in all
    ∷ record {
      calls = made 31 0 2 ++ made 31 1 1;
      requests = call' 1 2 0 [] ∷ call' 0 1 0 [] ∷ call' 1 2 0 [] ∷ call' 0 1 0 [] ∷ call' 2 0 0 [] ∷ [];
      gives = got (pair 62 0) ∷ got (pair 63 0) ∷ refused 18 ∷ refused 18 ∷ got (pair 64 0) ∷ [];
    }
    ∷ []

pub limits-given : AllGive limits
unfolding run
limits-given = (refl, (refl, (refl, (refl, tt))))

-- the accepted calls of a subject in each of these, by the transcript (L28)
abbrev own : ℕ → Asks → ℕ
own n x = accepted_calls n (seen x.requests x.gives)

pub limits-seen : (map (own 0) limits ≡ 1 ∷ 1 ∷ 0 ∷ 1 ∷ []) × (map (own 1) limits ≡ 1 ∷ 0 ∷ 0 ∷ 1 ∷ []) × (map (own 2) limits ≡ 1 ∷ 0 ∷ 0 ∷ 1 ∷ [])
limits-seen = (refl, refl, refl)

-- ---- handed in: 32 of each pass, 33 of the first or of the last are refused with 2; past the count of calls anything may stand
abbrev stored : ℕ → List Call → RawSystem
stored subjects calls = stored_from (raw_loaded (raw_table_of (sheet subjects))) (among subjects calls)

abbrev answer_to : List Call → Outcome
answer_to calls = (serve_handed (stored 3 calls) (move' 0 1 1 0)).outcome

abbrev counting : ℕ → RawSystem → RawSystem
counting calls r = record {
  table = r.table;
  cells = r.cells;
  places = r.places;
  calls = calls;
  cell_records = r.cell_records;
  place_records = r.place_records;
  call_records = r.call_records;
}

pub handed-limits : (answer_to (made 32 0 2 ++ made 32 1 1 ++ made 32 2 1) ≡ got (pair 3 0))
    × (answer_to (made 33 0 2) ≡ refused 2)
    × (answer_to (made 1 0 2 ++ made 33 2 1) ≡ refused 2)
    × ((serve_handed (counting 32 (stored 3 (made 33 0 2))) (move' 0 1 1 0)).outcome ≡ got (pair 3 0))
unfolding serve_handed stored_from
handed-limits = (refl, refl, refl, refl)

-- ---- 16 subjects with 32 each are 512 calls in all
abbrev everybody : ℕ → List Call
everybody zero = []
everybody (suc n) = made 32 n 2 ++ everybody n

pub all-full : (length (everybody 16) ≡ 512) × ((serve_handed (stored 16 (everybody 16)) (call' 0 1 0 [])).outcome ≡ refused 18)
unfolding serve_handed stored_from
all-full = (refl, refl)
