-- The theorem that a reader is shown: `Shown`. For all bytes that the sheet reader accepts, and every way to a state from what was read, by requests and runs, refused ones
-- included: demand 3 holds of what the state means (L19 to L23). And every call that is accepted is of a method that the object's class permits, and every type that its
-- reference crossed since the object was made or last unwrapped. And whether a subject's call that passes the tests before
-- 18 meets it goes by that subject's accepted calls (L28 to L31; of two histories: `ShownApart`).
-- It speaks of states as records of numbers, so that it covers every form a caller may keep them in. OfStates and OfBytes tie the code to it, by the contracts that are
-- proved of the code where it stands: whatever a caller does, the state that he holds is one of a history. Proof: proofs/Shown.
use Rattle.std.specs.Prelude.{◌≡◌, ◌↔◌, Bool, true, false, not, List, [], ◌∷◌, ◌++◌, map, ℕ, ◌<◌, ℤ, pos, length}
use Rattle.std.proofs.Math.Bool.{So}
use Rattle.std.proofs.Math.Option.{Option, none, some}
use Rattle.std.proofs.Math.ListN.{get_elem?}
use Rattle.spec_model.specs.Basics.{all, names, named}
use Rattle.spec_model.specs.Table.{Table}
use Rattle.spec_model.specs.Requests.{Request, new, move, call, answer, Outcome, refused, max_calls_each, made_by}
use Rattle.spec_model.specs.Check.{RawSystem, system_of, system_accepted}
use Rattle.spec_model.specs.Handed.{raw_loaded, counted, stored_from, Returns}
use Rattle.spec_model.specs.Chains.{Permits, AllPermit}
use Rattle.spec_model.specs.Book.{Book, opened, page_at, note_at}
use Rattle.spec_model.specs.Claim.{feed, Claim}
use Rattle.spec_model.specs.Callers.{Transcript, taken, accepted_calls, passes_tests, refused_before}
use Rattle.spec_model.specs.Refusals.{calls_full}
use Rattle.table_record.specs.Layout.{raw_table, table_in}
use Rattle.spec_sheet.specs.Sheet.{read}
use Rattle.sheet_read.specs.declared.Sheet.{Sheet}
use Rattle.sheet_read.specs.Result.{sheet_for}
use Rattle.request_run.specs.Requested.{run_asked}

-- ---- The beginning
-- f is the sheet reader's result for the bytes (its contract), and no refusal.
pub record Accepts (bytes : List ℕ) (f : Sheet) : Type 0 where
  pub contract : f ≡ sheet_for (read bytes)
  pub accepted : f.refusal ≡ 0

-- the state of the loaded sheet, and the sheet's table, from which the book starts
abbrev pub first : Sheet → RawSystem
first f = raw_loaded (raw_table f.types f.links f.counts)

abbrev pub sheet_table : Sheet → Table
sheet_table f = table_in f.types f.links f.counts

-- ---- The book is fed a transcript: requests and which of them were accepted, and nothing else (L1, L28).
abbrev pub fed : Book → Transcript → Book
fed b [] = b
fed b (x ∷ l) = fed (feed b x.0 x.1) l

abbrev pub book_of : Sheet → Transcript → Book
book_of f l = fed (opened (sheet_table f)) l

-- the transcript of a list in which some are no requests (U6, U7), by the outcomes
abbrev pub seen_of : List (Option Request) → List Outcome → Transcript
seen_of [] os = []
seen_of (q ∷ qs) [] = []
seen_of (none ∷ qs) (o ∷ os) = seen_of qs os
seen_of (some q ∷ qs) (o ∷ os) = (q, taken o) ∷ seen_of qs os

-- ---- What a run owes, on a state r that passes the check of 2, that comes to os and returns r': outcomes, counts and counted records are those of the model's run of the
-- requests in the list, with a 1 in the place of each that is none.
pub record RunReturns (r : RawSystem) (qs : List (Option Request)) (os : List Outcome) (r' : RawSystem) : Type 0 where
  pub outcomes : os ≡ (run_asked (system_of r) qs).0
  pub records : counted r' ≡ counted (stored_from r (run_asked (system_of r) qs).1)

-- ---- Every way to a state from the sheet f, with the transcript of the requests on the way (L24)
pub data History (f : Sheet) : RawSystem → Transcript → Type 0 where
  -- the state of the loaded sheet
  begins : History f (first f) []
  -- a request with any numbers, accepted or refused, with outcome o
  asks : {r r' : RawSystem} {l : Transcript} {q : Request} {o : Outcome} → History f r l → Returns r q o r' → History f r' (l ++ ((q, taken o) ∷ []))
  -- a run of requests, with outcomes os
  runs : {r r' : RawSystem} {l : Transcript} {qs : List (Option Request)} {os : List Outcome} → History f r l → RunReturns r qs os r' → History f r' (l ++ seen_of qs os)
  -- what stands past the counts may become anything (Q16)
  alike : {r r' : RawSystem} {l : Transcript} → History f r l → counted r' ≡ counted r → History f r' l

-- ---- What is shown
-- Page k of the book permits the chain w: k names a page and every number in w a method of the sheet (L17), and the class and every type of the trail permit the chain.
-- A method by itself is the chain of it alone.
pub record Permitted (b : Book) (k : ℤ) (w : List ℤ) : Type 0 where
  pub page : So (names k (length b.pages))
  pub methods : So (all (λ m. names m b.table.methods) w)
  pub class : Permits b.table (page_at b (named k)).class (map named w)
  pub trail : AllPermit b.table (page_at b (named k)).trail (map named w)

-- the method of a call that was noted, by the page that it was noted with
abbrev pub NotePermitted : Book → ℕ → Type 0
NotePermitted b j = Permitted b (pos (note_at b j).page) (pos (note_at b j).method ∷ [])

-- Of a state r and its book b:
pub record Holds (r : RawSystem) (b : Book) : Type 0 where
  -- no request is refused with 2 (Q19)
  pub passes : So (system_accepted r)
  -- demand 3: each cell offers exactly the chains that all of its page permits (L21)
  pub claim : Claim (system_of r) b
  -- The referee's question: the page of a cell permits the method of every call of it that is accepted now (L27). So a mark is written only through a reference all of whose
  -- types permit it.
  pub calls : (subject k m : ℤ) (vs : List ℤ) (o : Outcome) (r' : RawSystem) → Returns r (call subject k m vs) o r' → So (taken o) → Permitted b k (m ∷ [])
  -- the same of every call that was accepted before, by itself or in a run (L27)
  pub notes : (j : ℕ) → j < length b.calls → NotePermitted b j
  -- and an answer that is accepted now is to one of these
  pub answers : (subject j : ℤ) (v : Option ℤ) (o : Outcome) (r' : RawSystem) → Returns r (answer subject j v) o r' → So (taken o) → So (names j (length b.calls))

abbrev pub is_call : Request → Bool
is_call (new subject class to) = false
is_call (move subject k receiver to) = false
is_call (call subject k m vs) = true
is_call (answer subject j v) = false

-- Of a state r and its transcript l:
pub record CallsOwn (r : RawSystem) (l : Transcript) : Type 0 where
  -- the calls of a subject are as many as its accepted calls, counted from the transcript alone (L28)
  pub made : (n : ℕ) → made_by n (system_of r).calls ≡ accepted_calls n l
  -- a call on it, with outcome o: whether it passes the tests before 18 is seen by o (L31), and if it does, it meets 18 exactly if its subject's accepted calls are 32 (L29)
  pub tests : (subject k m : ℤ) (vs : List ℤ) (o : Outcome) (r' : RawSystem) → Returns r (call subject k m vs) o r' → passes_tests (system_of r) subject k m vs ≡ not (refused_before o)
  pub full : (subject k m : ℤ) (vs : List ℤ) (o : Outcome) (r' : RawSystem) → Returns r (call subject k m vs) o r' → refused_before o ≡ false
      → (o ≡ refused calls_full) ↔ (accepted_calls (named subject) l ≡ max_calls_each)
  -- the same of a call in a run, behind the requests `before` of the list
  pub in_runs : (before behind : List (Option Request)) (subject k m : ℤ) (vs : List ℤ) (os : List Outcome) (r' : RawSystem)
      → RunReturns r (before ++ (some (call subject k m vs) ∷ behind)) os r' → (o : Outcome) → get_elem? os (length before) ≡ some o → refused_before o ≡ false
      → (o ≡ refused calls_full) ↔ (accepted_calls (named subject) (l ++ seen_of before os) ≡ max_calls_each)
  -- no other request meets it
  pub others : (q : Request) (o : Outcome) (r' : RawSystem) → Returns r q o r' → is_call q ≡ false → o ≡ refused calls_full → ⊥

-- ---- The theorem
abbrev pub Shown : Type 0
Shown = (bytes : List ℕ) (f : Sheet) → Accepts bytes f → (r : RawSystem) (l : Transcript) → History f r l → Holds r (book_of f l) × CallsOwn r l

-- Of two histories from one sheet in which subject n has equally many accepted calls: calls of its, one on each state, that pass the tests before 18 meet 18 both or neither (L30).
abbrev pub ShownApart : Type 0
ShownApart = (bytes : List ℕ) (f : Sheet) → Accepts bytes f → (n : ℕ) (r r' : RawSystem) (l l' : Transcript) → History f r l → History f r' l' → accepted_calls n l ≡ accepted_calls n l'
    → (k m : ℤ) (vs : List ℤ) (o : Outcome) (z : RawSystem) → Returns r (call (pos n) k m vs) o z → refused_before o ≡ false
    → (k' m' : ℤ) (vs' : List ℤ) (o' : Outcome) (z' : RawSystem) → Returns r' (call (pos n) k' m' vs') o' z' → refused_before o' ≡ false
    → (o ≡ refused calls_full) ↔ (o' ≡ refused calls_full)
