-- Worked cases on states that are handed in: layers that do not fit the value on its way (C15), codes that name nothing (2), and what is
-- stored. No loaded sheet leads to these states; they pass the check all the same (H16). Everything is computed from the definitions.
use mathlib.Core.Path.{◌≡◌, refl}
use mathlib.Core.Bool.{false, true}
use mathlib.Core.List.{List, [], ◌∷◌, ◌++◌}
use mathlib.Core.Option.{none, some}
use Prim.Native.Nat.{ℕ, ◌+◌}
use lib.IntN.{pos}
use lib.ListN.{replicate}
use Rattle.spec_model.specs.Basics.{from}
use Rattle.spec_model.specs.Table.{optional, avail, unavail, closed, Table, no_type, signed, bare}
use Rattle.spec_model.specs.Crossing.{object, adapter}
use Rattle.spec_model.specs.Requests.{Call, System, Request, Outcome, got, refused, pair}
use Rattle.spec_model.specs.Check.{RawPlace, RawCall, RawSystem, system_accepted}
use Rattle.spec_model.specs.Records.{type_record}
use Rattle.spec_model.specs.Handed.{raw_loaded, stored_from, serve_handed}
use Rattle.spec_model.proofs.Codes.{raw_table_of}
use Rattle.spec_model.proofs.CasesWords.{type, derived_as, sheet_of, cell, state_from, move', call', answer'}

-- Type 1 takes and answers numbers, 2 references, 3 neither; 5 takes a reference whose method is only optional, and an object of class 6 has it not.
abbrev sheet : Table
sheet = sheet_of 2 1 (no_type
    ∷ type (signed avail (0 ∷ []) (some 0) ∷ [])
    ∷ type (signed avail (3 ∷ []) (some 3) ∷ [])
    ∷ type (bare avail ∷ [])
    ∷ type (bare optional ∷ [])
    ∷ type (signed avail (4 ∷ []) (some 4) ∷ [])
    ∷ type (bare unavail ∷ [])
    ∷ [])

-- a call by subject 1 of method 0 of a cell
abbrev asked : ℕ → Call
asked k = record { caller = 1; cell = k; method = 0; answered = false }

-- Cells 0 to 4 are of types that do not fit the object's class, and cell 5 has an adapter that does not; cells 6 to 8 are given as arguments, and 9, subject 0's, in answer.
abbrev state : System
state = state_from sheet
    (cell 1 2 0 ∷ cell 1 1 1 ∷ cell 1 1 2 ∷ cell 1 2 2 ∷ cell 1 5 1 ∷ cell 1 2 4 ∷ cell 1 3 2 ∷ cell 1 4 3 ∷ cell 1 6 3 ∷ cell 0 3 2 ∷ [])
    (object 1 0 ∷ object 2 0 ∷ object 3 0 ∷ object 6 1 ∷ adapter 1 1 ∷ [])
    (asked 0 ∷ asked 1 ∷ asked 2 ∷ asked 3 ∷ asked 5 ∷ [])

abbrev handed : RawSystem
handed = stored_from (raw_loaded (raw_table_of sheet)) state

-- it passes the check of 2
pub handed-accepted : system_accepted handed ≡ true
unfolding system_accepted stored_from from
handed-accepted = refl

pub record Meets : Type 0 where
  pub request : Request
  pub gives : Outcome

abbrev pub AllMeet : List Meets → Type 0
AllMeet [] = Unit
AllMeet (m ∷ ms) = ((serve_handed handed m.request).outcome ≡ m.gives) × AllMeet ms

abbrev pub unfit_layers : List Meets
unfit_layers =
    -- an argument meets 19 at the class (C15): a reference where it takes a number, a number where it takes a reference, either where it takes nothing
    record { request = call' 1 0 0 (pos 6 ∷ []); gives = refused 19 }
    ∷ record { request = call' 1 1 0 (pos 6 ∷ []); gives = refused 19 }
    ∷ record { request = call' 1 2 0 (pos 6 ∷ []); gives = refused 19 }
    ∷ record { request = call' 1 3 0 (pos 6 ∷ []); gives = refused 19 }
    -- what would be 8 or 10 stays so at the cell type's own argument type, and is 19 at the class's (C13)
    ∷ record { request = call' 1 0 0 (pos 8 ∷ []); gives = refused 8 }
    ∷ record { request = call' 1 0 0 (pos 7 ∷ []); gives = refused 10 }
    ∷ record { request = call' 1 4 0 (pos 7 ∷ []); gives = refused 19 }
    -- an answer meets 8 at the class, its first crossing, and 19 at an adapter behind which the class fits (A9)
    ∷ record { request = answer' 0 0 (some (pos 9)); gives = refused 8 }
    ∷ record { request = answer' 0 1 (some (pos 9)); gives = refused 8 }
    ∷ record { request = answer' 0 2 (some (pos 9)); gives = refused 8 }
    ∷ record { request = answer' 0 3 (some (pos 9)); gives = refused 8 }
    ∷ record { request = answer' 0 4 (some (pos 9)); gives = refused 19 }
    -- a request that no layer hinders
    ∷ record { request = move' 1 6 0 3; gives = got (pair 10 2) }
    ∷ []

pub unfit-layers : AllMeet unfit_layers
unfolding serve_handed stored_from
unfit-layers = (refl, (refl, (refl, (refl, (refl, (refl, (refl, (refl, (refl, (refl, (refl, (refl, (refl, tt)))))))))))))

-- ---- codes: a counted place is object (0) or adapter (1), a counted call is answered (1) or not (0); past a count anything may stand (H2, Q16)
abbrev odd_place : RawPlace
odd_place = record { code = 2; first = 0; second = 0 }

abbrev odd_call : RawCall
odd_call = record { caller = 0; cell = 0; method = 0; answered = 2 }

-- the state with these records at the end of its arrays, and so many of them counted
abbrev odd : ℕ → ℕ → RawSystem
odd places calls = record {
  table = handed.table;
  cells = handed.cells;
  places = handed.places + places;
  calls = handed.calls + calls;
  cell_records = handed.cell_records;
  place_records = handed.place_records ++ (odd_place ∷ []);
  call_records = handed.call_records ++ (odd_call ∷ []);
}

pub odd-codes : ((serve_handed (odd 0 0) (move' 1 6 0 3)).outcome ≡ got (pair 10 2))
    × ((serve_handed (odd 1 0) (move' 1 6 0 3)).outcome ≡ refused 2)
    × ((serve_handed (odd 0 1) (move' 1 6 0 3)).outcome ≡ refused 2)
unfolding serve_handed stored_from
odd-codes = (refl, refl, refl)

-- ---- records: what stands for a derived type, its codes, slots and the methods past the table's, which are 0 (B2 to B10, B14 to B18)
abbrev no_slots : List ℕ
no_slots = 0 ∷ 0 ∷ 0 ∷ 0 ∷ []

pub record-of-type : type_record (derived_as closed 6 3 (signed avail (14 ∷ 16 ∷ []) (some 18) ∷ bare unavail ∷ signed optional (9 ∷ []) none ∷ [])) ≡ record {
  rep = 0;
  cat = 0;
  own = 0;
  kind = 2;
  left = 6;
  right = 3;
  methods = record { state = 2; count = 2; args = 14 ∷ 16 ∷ 0 ∷ 0 ∷ []; answer = 19 }
      ∷ record { state = 3; count = 0; args = no_slots; answer = 0 }
      ∷ record { state = 1; count = 1; args = 9 ∷ 0 ∷ 0 ∷ 0 ∷ []; answer = 0 }
      ∷ replicate 13 (record { state = 0; count = 0; args = no_slots; answer = 0 });
}
unfolding from
record-of-type = refl

pub record-of-number : type_record no_type ≡ record { rep = 1; cat = 0; own = 0; kind = 0; left = 0; right = 0; methods = replicate 16 (record { state = 0; count = 0; args = no_slots; answer = 0 }) }
unfolding from
record-of-number = refl
