-- L19 to L23: demand 3 as one statement over lists of requests.
use Rattle.std.specs.Prelude.{◌≡◌, ◌↔◌, Bool, true, false, List, [], ◌∷◌, ◌++◌, map, ℕ, ◌<◌, length}
use Rattle.std.proofs.Math.Bool.{So}
use Rattle.spec_model.specs.Basics.{Res, refuse, ok}
use Rattle.spec_model.specs.Table.{Table, valid_sheet}
use Rattle.spec_model.specs.Crossing.{place_type, place_at, base_of}
use Rattle.spec_model.specs.Requests.{System, Call, Request, Result, loaded, cell_at, layers_of, serve, after}
use Rattle.spec_model.specs.Chains.{Permits, AllPermit, offered}
use Rattle.spec_model.specs.Book.{Page, Note, Book, opened, page_at, enter}

abbrev pub accepted : Res (System × Result) → Bool
accepted (refuse e) = false
accepted (ok x) = true

-- one request and whether it was accepted: all that the book is told (L1)
abbrev pub feed : Book → Request → Bool → Book
feed b q true = enter b q
feed b q false = b

-- the state and the book after a list of requests
unfoldable pub follow : System → Book → List Request → System × Book
unfolding serve
follow s b [] = (s, b)
follow s b (q ∷ qs) = let a = serve s q in follow (after s a) (feed b q (accepted a)) qs

abbrev pub reached : Table → List Request → System × Book
reached t qs = follow (loaded t) (opened t) qs

-- Page k is that of cell k (L20): its class is that of the base, its closed types are those of the adapters in front, the outermost (latest) first, and the latest type of its trail is the
-- cell's own.
pub record PageOf (s : System) (k : ℕ) (g : Page) : Type 0 where
  pub class : g.class ≡ place_type (place_at s.places (base_of s.places (cell_at s k).place))
  pub closed : layers_of s.places (cell_at s k).place ≡ g.closed ++ (g.class ∷ [])
  pub before : List ℕ
  pub trail : g.trail ≡ (cell_at s k).type ∷ before

-- what the book should have of a call (L22)
abbrev pub note_of : Call → Note
note_of c = record { page = c.cell; method = c.method }

-- Book and state agree (L19, L20, L22), and each cell offers a chain exactly when its page permits it (L21).
pub record Claim (s : System) (b : Book) : Type 0 where
  pub table : b.table ≡ s.table
  pub calls : b.calls ≡ map note_of s.calls
  pub pages : length b.pages ≡ length s.cells
  pub page : (k : ℕ) → k < length s.cells → PageOf s k (page_at b k)
  pub chains : (k : ℕ) → k < length s.cells → (w : List ℕ)
      → So (offered s k w) ↔ (Permits b.table (page_at b k).class w × AllPermit b.table (page_at b k).trail w)

-- For every valid sheet table, with no cells, places or calls, and every list of requests with any numbers, refused ones included: each cell offers a chain
-- exactly when its page's class and all of its trail permit it.
abbrev pub Demand3 : Type 0
Demand3 = (t : Table) → So (valid_sheet t) → (qs : List Request) → Claim (reached t qs).0 (reached t qs).1
