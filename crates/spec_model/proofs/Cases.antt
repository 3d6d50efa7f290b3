-- The proved cases (K), worked derivations, and demand 3 evaluated on lists. Everything here is computed from the definitions.
use mathlib.Core.Path.{◌≡◌, refl, ap}
use mathlib.Core.Bool.{Bool, true, false, ◌&&◌}
use mathlib.Core.List.{List, [], ◌∷◌, map}
use mathlib.Core.Option.{none, some}
use Prim.Native.Nat.{ℕ}
use lib.IntN.{pos, negsuc}
use lib.ListN.{drop}
use Rattle.spec_model.specs.Basics.{all}
use Rattle.spec_model.specs.Table.{denied, optional, avail, unavail, sub, sup, closed, Ty, Table, no_type, size, valid_sheet, signed, bare}
use Rattle.spec_model.specs.Requests.{System, Request, move, pair, number, nothing, Outcome, outcome, got, refused, loaded, serve, after, run}
use Rattle.spec_model.specs.Chains.{permits, offered}
use Rattle.spec_model.specs.Book.{Book, page_at, enter}
use Rattle.spec_model.specs.Claim.{follow, reached}
use Rattle.spec_model.proofs.CasesWords.{type, owned, derived_as, sheet_of, new', move', call', answer'}

-- ---- Case P (K1)
abbrev pub case_p : Table
case_p = sheet_of 3 3 (no_type
    ∷ type (signed avail [] (some 0) ∷ signed avail (0 ∷ []) none ∷ bare avail ∷ [])
    ∷ type (signed avail [] (some 0) ∷ bare denied ∷ bare denied ∷ [])
    ∷ type (signed avail [] (some 0) ∷ signed optional (0 ∷ []) none ∷ bare denied ∷ [])
    ∷ owned (signed avail [] (some 0) ∷ signed avail (0 ∷ []) none ∷ bare avail ∷ [])
    ∷ type (bare denied ∷ signed avail (0 ∷ []) none ∷ bare denied ∷ [])
    ∷ [])

-- A reference that gets two adapters: type 1 takes method 1 away, type 2 does not show method 2, and type 3 asks for it again. Type 4 is the class with own.
abbrev pub twice : Table
twice = sheet_of 2 3 (
    type (bare avail ∷ bare avail ∷ bare avail ∷ [])
    ∷ type (bare avail ∷ bare unavail ∷ bare avail ∷ [])
    ∷ type (bare avail ∷ bare denied ∷ bare denied ∷ [])
    ∷ type (bare avail ∷ bare denied ∷ bare optional ∷ [])
    ∷ owned (bare avail ∷ bare avail ∷ bare avail ∷ [])
    ∷ [])

-- Answers that are references: type 1 answers with 2, which shows nothing, and type 3 with 4, which asks for method 1 again.
abbrev pub answering : Table
answering = sheet_of 2 2 (
    type (signed avail [] (some 0) ∷ bare avail ∷ [])
    ∷ type (signed avail [] (some 2) ∷ bare denied ∷ [])
    ∷ type (bare denied ∷ bare denied ∷ [])
    ∷ type (signed avail [] (some 4) ∷ bare denied ∷ [])
    ∷ type (bare denied ∷ bare optional ∷ [])
    ∷ [])

-- Signatures of signatures: the two sides differ in every argument and answer, and those differ again.
abbrev pub nested : Table
nested = sheet_of 1 2 (
    type (signed avail (2 ∷ 3 ∷ []) (some 4) ∷ signed avail (3 ∷ []) (some 5) ∷ [])
    ∷ type (signed optional (3 ∷ 2 ∷ []) (some 5) ∷ signed avail (2 ∷ []) (some 4) ∷ [])
    ∷ type (signed avail [] (some 4) ∷ bare denied ∷ [])
    ∷ type (signed avail [] (some 5) ∷ bare optional ∷ [])
    ∷ type (bare optional ∷ bare optional ∷ [])
    ∷ type (bare denied ∷ bare optional ∷ [])
    ∷ [])

pub all_valid : all valid_sheet (case_p ∷ twice ∷ answering ∷ nested ∷ []) ≡ true
unfolding valid_sheet
all_valid = refl

-- ---- Demand 3 evaluated: what the state offers in a cell and what the book says of its page, each computed on its own. Requests are served once for all chains that are asked.
pub record Ask : Type 0 where
  pub cell : ℕ
  pub chain : List ℕ
  pub says : Bool

pub record Look : Type 0 where
  pub table : Table
  pub requests : List Request
  pub asks : List Ask

abbrev book_says : Book → ℕ → List ℕ → Bool
book_says b k w = permits b.table (page_at b k).class w && all (λ x. permits b.table x w) (page_at b k).trail

abbrev comparison_at : System × Book → Ask → Bool × Bool
comparison_at x a = (offered x.0 a.cell a.chain, book_says x.1 a.cell a.chain)

abbrev pub Seen : Look → Type 0
Seen l = map (comparison_at (reached l.table l.requests)) l.asks ≡ map (λ a. (a.says, a.says)) l.asks

abbrev pub AllSeen : List Look → Type 0
AllSeen [] = Unit
AllSeen (l ∷ ls) = Seen l × AllSeen ls

abbrev ask : ℕ → List ℕ → Bool → Ask
ask k w b = record { cell = k; chain = w; says = b }

abbrev pub looks : List Look
looks =
    -- Case P: read is offered in cell 2, mark is not, since type 2 was crossed. Cell 1 has type 2: what the object provides beyond it is not offered. Cell 3 is its owner's,
    -- who unwrapped: all is offered again
    record {
      table = case_p;
      requests = new' 0 1 4 ∷ move' 0 0 1 2 ∷ move' 1 1 2 3 ∷ move' 2 2 0 4 ∷ [];
      asks = ask 2 (0 ∷ []) true ∷ ask 2 (1 ∷ []) false ∷ ask 1 (1 ∷ []) false ∷ ask 3 (1 ∷ []) true ∷ [];
    }
    -- two adapters: the second takes method 2 away, the first method 1, and unwrapping takes both off
    ∷ record {
      table = twice;
      requests = new' 0 0 1 ∷ move' 0 0 1 2 ∷ move' 1 1 1 3 ∷ move' 1 2 0 4 ∷ [];
      asks = ask 2 (2 ∷ []) false ∷ ask 0 (2 ∷ []) true ∷ ask 3 (1 ∷ []) true ∷ [];
    }
    -- the answer through an adapter is restricted too
    ∷ record { table = answering; requests = new' 0 0 1 ∷ move' 0 0 1 3 ∷ []; asks = ask 1 (0 ∷ 1 ∷ []) false ∷ ask 1 (0 ∷ []) true ∷ [] }
    ∷ []

pub demand3-evaluated : AllSeen looks
unfolding follow enter offered
demand3-evaluated = (refl, (refl, (refl, tt)))

-- ---- The proved cases as a table: a request, what it comes to, and how many types there are then. Those on one sheet are served one after the other, the refused ones leaving
-- the state as it was.
pub record Row : Type 0 where
  pub request : Request
  pub gives : Outcome
  pub types : ℕ

pub record Case : Type 0 where
  pub table : Table
  pub rows : List Row

unfoldable pub told : System → List Request → List (Outcome × ℕ)
unfolding serve
told s [] = []
told s (q ∷ qs) = let a = serve s q in let s' = after s a in (outcome a, size s'.table) ∷ told s' qs

-- what is told is what a run gives
pub told-run : (s : System) → (qs : List Request) → map (λ (x : Outcome × ℕ). x.0) (told s qs) ≡ (run s qs).0
unfolding told run
told-run s [] = refl
told-run s (q ∷ qs) = ap (λ (os : List Outcome). outcome (serve s q) ∷ os) (told-run (after s (serve s q)) qs)

abbrev row : ℕ → Request → Outcome → Row
row n q o = record { request = q; gives = o; types = n }

abbrev pub Holds : Case → Type 0
Holds c = told (loaded c.table) (map (λ (r : Row). r.request) c.rows) ≡ map (λ (r : Row). (r.gives, r.types)) c.rows

abbrev pub AllHold : List Case → Type 0
AllHold [] = Unit
AllHold (c ∷ cs) = Holds c × AllHold cs

abbrev pub proved_cases : List Case
proved_cases =
    record {
      table = case_p;
      rows =
          -- K9, on the loaded sheet
          row 6 (new' 0 2 2) (refused 7)
          -- K2, K3
          ∷ row 6 (new' 0 1 4) (got (pair 0 0))
          ∷ row 6 (move' 0 0 1 2) (got (pair 1 0))
          -- K10: erase is denied in type 2
          ∷ row 6 (call' 1 1 2 []) (refused 14)
          -- K4, with which two types are derived
          ∷ row 8 (move' 1 1 2 3) (got (pair 2 1))
          -- K8: what was derived on the way is gone
          ∷ row 8 (move' 2 2 2 5) (refused 10)
          -- K11: mark is only optional in type 3
          ∷ row 8 (call' 2 2 1 (pos 7 ∷ [])) (refused 14)
          -- K5, K6, K7
          ∷ row 8 (move' 1 1 2 5) (refused 8)
          ∷ row 8 (move' 2 2 1 4) (refused 9)
          ∷ row 8 (move' 2 2 0 4) (got (pair 3 0))
          -- further: a number answered through an adapter, one too large for w32 before it, and a negative subject
          ∷ row 8 (call' 2 2 0 []) (got (pair 0 1))
          ∷ row 8 (answer' 0 0 (some (pos 2147483648))) (refused 16)
          ∷ row 8 (answer' 0 0 (some (negsuc 2147483647))) (got (number (negsuc 2147483647)))
          ∷ row 8 (move (negsuc 0) (pos 2) (pos 2) (pos 3)) (refused 5)
          ∷ [];
    }
    -- further: two adapters counted, an answer of nothing given twice, and unwrapping through both, by the owner alone
    ∷ record {
      table = twice;
      rows =
          row 7 (new' 0 0 1) (got (pair 0 1))
          ∷ row 7 (move' 0 0 1 2) (got (pair 1 1))
          ∷ row 9 (move' 1 1 1 3) (got (pair 2 2))
          ∷ row 9 (call' 1 2 0 []) (got (pair 0 2))
          ∷ row 9 (answer' 0 0 none) (got nothing)
          ∷ row 9 (answer' 0 0 none) (refused 17)
          ∷ row 9 (move' 1 2 0 4) (got (pair 3 0))
          ∷ row 9 (move' 1 2 1 4) (refused 9)
          ∷ [];
    }
    -- further: a reference answered through an adapter
    ∷ record {
      table = answering;
      rows =
          row 5 (new' 0 0 1) (got (pair 0 0))
          ∷ row 9 (move' 0 0 1 3) (got (pair 1 1))
          ∷ row 9 (call' 1 1 0 []) (got (pair 0 1))
          ∷ row 9 (new' 0 0 0) (got (pair 2 2))
          ∷ row 11 (answer' 0 0 (some (pos 2))) (got (pair 3 3))
          ∷ row 11 (call' 1 3 1 []) (refused 14)
          ∷ [];
    }
    ∷ []

pub proved-cases : AllHold proved_cases
unfolding told
proved-cases = (refl, (refl, (refl, tt)))

-- ---- Worked derivations: every derived type with its number, key and methods. They show the order (D17); 9 is used again in
-- method 1 of type 6, and the second request derives nothing.
abbrev derived_types : Table → List Request → List Ty
derived_types t qs = drop t.sheet (run (loaded t) qs).1.table.types

pub worked-nested : derived_types nested (new' 0 0 1 ∷ new' 0 0 1 ∷ []) ≡
    derived_as sub 1 0 (signed optional (7 ∷ 9 ∷ []) (some 11) ∷ signed avail (9 ∷ []) (some 12) ∷ [])
    ∷ derived_as sup 2 3 (signed avail [] (some 8) ∷ bare denied ∷ [])
    ∷ derived_as sup 4 5 (bare denied ∷ bare optional ∷ [])
    ∷ derived_as sup 3 2 (signed avail [] (some 10) ∷ bare denied ∷ [])
    ∷ derived_as sup 5 4 (bare denied ∷ bare optional ∷ [])
    ∷ derived_as sub 5 4 (bare denied ∷ bare optional ∷ [])
    ∷ derived_as sub 4 5 (bare unavail ∷ bare optional ∷ [])
    ∷ derived_as closed 6 0 (signed avail (14 ∷ 16 ∷ []) (some 18) ∷ signed avail (16 ∷ []) (some 19) ∷ [])
    ∷ derived_as sup 2 7 (signed avail [] (some 15) ∷ bare denied ∷ [])
    ∷ derived_as sup 4 8 (bare denied ∷ bare optional ∷ [])
    ∷ derived_as sup 3 9 (signed avail [] (some 17) ∷ bare denied ∷ [])
    ∷ derived_as sup 5 10 (bare denied ∷ bare optional ∷ [])
    ∷ derived_as sub 11 4 (bare denied ∷ bare optional ∷ [])
    ∷ derived_as sub 12 5 (bare unavail ∷ bare optional ∷ [])
    ∷ []
unfolding run
worked-nested = refl

pub worked-answering : derived_types answering (new' 0 0 1 ∷ move' 0 0 1 3 ∷ []) ≡
    derived_as sub 3 1 (signed avail [] (some 6) ∷ bare denied ∷ [])
    ∷ derived_as sub 4 2 (bare denied ∷ bare unavail ∷ [])
    ∷ derived_as closed 5 0 (signed avail [] (some 8) ∷ bare unavail ∷ [])
    ∷ derived_as sub 6 0 (bare denied ∷ bare unavail ∷ [])
    ∷ []
unfolding run
worked-answering = refl
