-- The theorem of a caller in Rattle: `ShownOfStates`. He reads a sheet, makes a state of it, and keeps the state, which is the bytes of its types and the `State` beside them.
-- Whatever function he uses, by its contract alone, the state that he then holds is one of a history, so that `Shown` holds of it (L24); and what is answered is said by the
-- book, which is made of what the caller sees (L25). Proof: proofs/OfStates.
use Rattle.std.specs.Prelude.{◌≡◌, ◌↔◌, Result, Ok, Bool, true, false, List, [], ◌∷◌, ◌++◌, ℕ, zero, suc, eqb, ℤ, pos, negsuc, length, get_or, drop}
use Rattle.std.proofs.Math.Bool.{So}
use Rattle.std.proofs.Math.Option.{Option, none, some}
use Rattle.spec_model.specs.Basics.{names, named}
use Rattle.spec_model.specs.Requests.{Request, call, answer, refused, max_calls_each, made_by}
use Rattle.spec_model.specs.Callers.{Transcript, taken, accepted_calls, refused_before}
use Rattle.spec_model.specs.Refusals.{calls_full}
use Rattle.table_record.specs.Layout.{raw_table}
use Rattle.spec_sheet.specs.Text.{write, write_text}
use Rattle.sheet_read.specs.declared.Sheet.{Sheet}
use Rattle.text_write.specs.Written.{Wrote, written_of}
use Rattle.state_record.specs.Whole.{Whole as State}
use Rattle.state_record.specs.Whole.{whole}
use Rattle.state_record.specs.Meaning.{raw_state, system_in, state_loaded}
use Rattle.base_numbers.specs.declared.refusal.Refusal.{Refusal}
use Rattle.request_common.specs.Outcome.{Done as Served}
use Rattle.request_common.specs.Outcome.{outcome_of}
use Rattle.request_serve.specs.Serves.{Serves}
use Rattle.request_words.specs.Words.{requests, outcome_size}
use Rattle.request_run.specs.Requested.{run_handed}
use Rattle.request_run.specs.Ran.{Over as Ran}
use Rattle.request_run.specs.Ran.{room, Runs}
use Rattle.state_offers.specs.Chained.{offers_handed, offered_as}
use Rattle.theorem.specs.Shown.{Accepts, book_of, History, Permitted}

-- ---- The transcript by the outcomes of a run, four words for each request: it was accepted if the first of them is 0 (L25, U8). What is no request (U6, U7) goes by.
abbrev pub is_zero : ℤ → Bool
is_zero (pos n) = eqb n 0
is_zero (negsuc n) = false

abbrev pub seen_by : List (Option Request) → List ℤ → Transcript
seen_by [] answers = []
seen_by (none ∷ qs) answers = seen_by qs (drop outcome_size answers)
seen_by (some q ∷ qs) answers = (q, is_zero (get_or answers 0 (pos 1))) ∷ seen_by qs (drop outcome_size answers)

-- the first word of outcome i: 0, or the number of its refusal
abbrev pub first_word : ℕ → List ℤ → ℤ
first_word zero answers = get_or answers 0 (pos 1)
first_word (suc i) answers = first_word i (drop outcome_size answers)

-- ---- f is what the reader made of the bytes.
pub record OfStates (bytes : List ℕ) (f : Sheet) : Type 0 where
  -- The state made of the sheet (`State::loaded`) begins a history, with nothing in the transcript (L24).
  pub begins : History f (raw_state (whole f.types (state_loaded f.links f.counts))) []
  -- A request takes it on, whatever its numbers are; the transcript has whether the outcome is a refusal (L24, L25).
  pub serves : (s : State) (l : Transcript) (q : Request) (y : Served) → History f (raw_state s) l → Serves s q y
      → History f (raw_state y.state) (l ++ ((q, taken (outcome_of y.outcome)) ∷ []))
  -- A call that is accepted is of a method that the page of the called cell permits (L27), and an answer that is accepted is to a call that the book noted.
  pub calls : (s : State) (l : Transcript) (subject k m : ℤ) (vs : List ℤ) (y : Served) → History f (raw_state s) l
      → Serves s (call subject k m vs) y → So (taken (outcome_of y.outcome)) → Permitted (book_of f l) k (m ∷ [])
  pub answers : (s : State) (l : Transcript) (subject j : ℤ) (v : Option ℤ) (y : Served) → History f (raw_state s) l
      → Serves s (answer subject j v) y → So (taken (outcome_of y.outcome)) → So (names j (length (book_of f l).calls))
  -- The calls of a subject are as many as its accepted calls (L28).
  pub made : (s : State) (l : Transcript) → History f (raw_state s) l → (n : ℕ) → made_by n (system_in s).calls ≡ accepted_calls n l
  -- A call that is not refused before 18 is refused with 18 exactly if its subject's accepted calls are 32 (L29).
  pub full : (s : State) (l : Transcript) (subject k m : ℤ) (vs : List ℤ) (y : Served) → History f (raw_state s) l → Serves s (call subject k m vs) y
      → refused_before (outcome_of y.outcome) ≡ false → (outcome_of y.outcome ≡ refused calls_full) ↔ (accepted_calls (named subject) l ≡ max_calls_each)
  -- A run is not refused, and takes the history on: of the requests in its words, as many as there is room for, the transcript has what the list of outcomes says then (L24, L25).
  pub runs : (s : State) (l : Transcript) (words old new : List ℤ) (y : Ran) → History f (raw_state s) l → Runs s old new (run_handed (raw_state s) (room old) words) y
      → let qs = requests (room old) words in (y.refusal ≡ 0) × (y.served ≡ length qs) × History f (raw_state y.state) (l ++ seen_by qs new)
  -- A call among them whose first word is none of 5, 6, 14 and 15 has 18 there exactly if its subject's accepted calls before it are 32 (L29).
  pub ran_full : (s : State) (l : Transcript) (words old new : List ℤ) (y : Ran) → History f (raw_state s) l → Runs s old new (run_handed (raw_state s) (room old) words) y
      → (before behind : List (Option Request)) (subject k m : ℤ) (vs : List ℤ) → requests (room old) words ≡ before ++ (some (call subject k m vs) ∷ behind)
      → (n : ℕ) → first_word (length before) new ≡ pos n → refused_before (refused n) ≡ false → (n ≡ calls_full) ↔ (accepted_calls (named subject) (l ++ seen_by before new) ≡ max_calls_each)
  -- Offers says yes exactly where the page of that cell, its class and all of its trail, permits the chain, and else no (L26).
  pub offers : (s : State) (l : Transcript) (k : ℤ) (w : List ℤ) (o : Result Bool Refusal) → History f (raw_state s) l → offered_as o ≡ offers_handed (raw_state s) k w
      → ((o ≡ Ok true) ↔ Permitted (book_of f l) k w) × ((o ≡ Ok false) ↔ (Permitted (book_of f l) k w → ⊥))
  -- Sheet write gives the bytes back that were read (W9), into any buffer that has room for them (W2 to W4): no derived type is written (W5).
  pub writes : (s : State) (l : Transcript) (w : Wrote) (old new : List ℕ) → History f (raw_state s) l → written_of w new ≡ write (raw_table s.types s.links s.counts) old
      → written_of w new ≡ write_text bytes old

abbrev pub ShownOfStates : Type 0
ShownOfStates = (bytes : List ℕ) (f : Sheet) → Accepts bytes f → OfStates bytes f
