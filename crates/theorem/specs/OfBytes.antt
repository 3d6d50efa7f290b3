-- The theorem of a caller in C: `ShownOfBytes`. He keeps a state in arrays of bytes and counts (B25 to B30) and uses the functions that include/pilgonca.h has for a state:
-- load, new, move, call, answer, run, offers, and write. Whatever he does, the bytes that he then holds are a state of a history, so that `Shown` holds of it (L24); and what
-- is answered is said by the book, which is made of what the caller sees (L25): the number returned, and the words that a run stored. Of two callers' states: `ShownOfBytesApart`.
-- Proof: proofs/OfBytes.
use Rattle.std.specs.Prelude.{◌≡◌, ◌↔◌, false, List, [], ◌∷◌, ◌++◌, ℕ, eqb, ℤ, pos, length}
use Rattle.std.proofs.Math.Bool.{So}
use Rattle.std.proofs.Math.Option.{Option, some}
use Rattle.spec_model.specs.Basics.{names, named}
use Rattle.spec_model.specs.Requests.{Request, call, answer, refused, max_calls_each, made_by}
use Rattle.spec_model.specs.Check.{system_of}
use Rattle.spec_model.specs.Callers.{Transcript, accepted_calls, refused_before}
use Rattle.spec_model.specs.Refusals.{calls_full}
use Rattle.table_record.specs.Layout.{raw_table}
use Rattle.spec_sheet.specs.Sheet.{read}
use Rattle.spec_sheet.specs.Text.{write, write_text}
use Rattle.sheet_read.specs.declared.Sheet.{Sheet}
use Rattle.sheet_read.specs.Result.{sheet_for, sheet_of}
use Rattle.request_words.specs.Words.{requests}
use Rattle.request_run.specs.Requested.{run_handed}
use Rattle.request_run.specs.Ran.{room}
use Rattle.state_offers.specs.Chained.{offers_handed}
use Rattle.state_bytes.specs.Flat.{Flat, counts_in, raw_flat}
use Rattle.request_results.specs.States.{LentState, Handed}
use Rattle.export_runs.specs.Results.{offered_out, LoadedIs, LentRun, RunsOut}
use Rattle.text_write.specs.Written.{WrittenIs}
use Rattle.theorem.specs.Shown.{Accepts, book_of, History, Permitted}
use Rattle.theorem.specs.OfStates.{seen_by, first_word}

-- ---- Where `pilgonca_load` returns 0, what it stored is the reader's result for the bytes, and no refusal: so it is an f of which the rest is said.
abbrev pub sheet_in : ℕ → ℕ → Flat → Sheet
sheet_in n at x = sheet_of n at x.types x.links (counts_in x.counts)

abbrev pub ShownOfLoads : Type 0
ShownOfLoads = (bytes : List ℕ) (n at : ℕ) (x : Flat) → LoadedIs (read bytes) n at x → n ≡ 0 → Accepts bytes (sheet_in n at x)

-- ---- f is what the reader made of the bytes.
pub record OfBytes (bytes : List ℕ) (f : Sheet) : Type 0 where
  -- `pilgonca_load` returns 0, and what it stores begins a history, with nothing in the transcript (L24).
  pub loads : (n at : ℕ) (x : Flat) → LoadedIs (read bytes) n at x → (n ≡ 0) × History f (raw_flat x) []
  -- `pilgonca_new`, `_move`, `_call` and `_answer` take it on, whatever the numbers are; the transcript has whether 0 was returned (L24, L25).
  pub serves : (l : Transcript) (q : Request) (n : ℕ) (old new : LentState) → History f (raw_flat old.state) l → Handed q n old new → History f (raw_flat new.state) (l ++ ((q, eqb n 0) ∷ []))
  -- A call for which 0 is returned is of a method that the page of the called cell permits (L27), and an answer is to a call that the book noted.
  pub calls : (l : Transcript) (subject k m : ℤ) (vs : List ℤ) (n : ℕ) (old new : LentState) → History f (raw_flat old.state) l
      → Handed (call subject k m vs) n old new → n ≡ 0 → Permitted (book_of f l) k (m ∷ [])
  pub answers : (l : Transcript) (subject j : ℤ) (v : Option ℤ) (n : ℕ) (old new : LentState) → History f (raw_flat old.state) l
      → Handed (answer subject j v) n old new → n ≡ 0 → So (names j (length (book_of f l).calls))
  -- The calls of a subject in the bytes are as many as its accepted calls (L28); and where `pilgonca_call` returns none of 5, 6, 14 and 15, it returns 18 exactly if these are 32 (L29).
  pub made : (x : Flat) (l : Transcript) → History f (raw_flat x) l → (n : ℕ) → made_by n (system_of (raw_flat x)).calls ≡ accepted_calls n l
  pub full : (l : Transcript) (subject k m : ℤ) (vs : List ℤ) (n : ℕ) (old new : LentState) → History f (raw_flat old.state) l → Handed (call subject k m vs) n old new
      → refused_before (refused n) ≡ false → (n ≡ calls_full) ↔ (accepted_calls (named subject) l ≡ max_calls_each)
  -- `pilgonca_run` returns 0, and takes the history on: of the requests in its words, as many as there is room for, the transcript has what the list of outcomes says then (L24, L25).
  pub runs : (l : Transcript) (words : List ℤ) (n : ℕ) (old new : LentRun) → History f (raw_flat old.state) l
      → RunsOut (run_handed (raw_flat old.state) (room old.answers) words) n old new
      → let qs = requests (room old.answers) words in (n ≡ 0) × (new.served ≡ length qs) × History f (raw_flat new.state) (l ++ seen_by qs new.answers)
  -- A call among them whose first word is none of 5, 6, 14 and 15 has 18 there exactly if its subject's accepted calls before it are 32 (L29).
  pub ran_full : (l : Transcript) (words : List ℤ) (n : ℕ) (old new : LentRun) → History f (raw_flat old.state) l → RunsOut (run_handed (raw_flat old.state) (room old.answers) words) n old new
      → (before behind : List (Option Request)) (subject k m : ℤ) (vs : List ℤ) → requests (room old.answers) words ≡ before ++ (some (call subject k m vs) ∷ behind)
      → (e : ℕ) → first_word (length before) new.answers ≡ pos e → refused_before (refused e) ≡ false
      → (e ≡ calls_full) ↔ (accepted_calls (named subject) (l ++ seen_by before new.answers) ≡ max_calls_each)
  -- `pilgonca_offers` returns 0, and stores 1 exactly where the page of that cell, its class and all of its trail, permits the chain, and else 0 (L26).
  pub offers : (x : Flat) (l : Transcript) (k : ℤ) (w : List ℤ) (n old new : ℕ) → History f (raw_flat x) l → (n, new) ≡ offered_out old (offers_handed (raw_flat x) k w)
      → (n ≡ 0) × ((new ≡ 1) ↔ Permitted (book_of f l) k w) × ((new ≡ 0) ↔ (Permitted (book_of f l) k w → ⊥))
  -- `pilgonca_write` gives the bytes back that were loaded (W9), into any buffer that has room for them (W2 to W4): no derived type is written (W5). Of the counts it takes the
  -- first five. And so it gives those back that `pilgonca_read` read.
  pub writes : (x : Flat) (l : Transcript) (counts : List ℕ) (n before after : ℕ) (old new : List ℕ) → History f (raw_flat x) l → counts_in counts ≡ counts_in x.counts
      → WrittenIs (write (raw_table x.types x.links (counts_in counts)) old) n before after new → WrittenIs (write_text bytes old) n before after new
  pub reads : (m at : ℕ) (types links counts : List ℕ) (n before after : ℕ) (old new : List ℕ) → sheet_of m at types links (counts_in counts) ≡ sheet_for (read bytes)
      → WrittenIs (write (raw_table types links (counts_in counts)) old) n before after new → WrittenIs (write_text bytes old) n before after new

abbrev pub ShownOfBytes : Type 0
ShownOfBytes = (bytes : List ℕ) (f : Sheet) → Accepts bytes f → OfBytes bytes f

-- Two states in bytes, each of a history from the same sheet: where a subject has equally many accepted calls in both, two calls of its for which none of 5, 6, 14 and 15 is
-- returned return 18 both or neither, whatever else was asked in the one and in the other (L30).
abbrev pub ShownOfBytesApart : Type 0
ShownOfBytesApart = (bytes : List ℕ) (f : Sheet) → Accepts bytes f → (subject : ℕ) (old new old' new' : LentState) (l l' : Transcript)
    → History f (raw_flat old.state) l → History f (raw_flat old'.state) l' → accepted_calls subject l ≡ accepted_calls subject l'
    → (k m : ℤ) (vs : List ℤ) (n : ℕ) → Handed (call (pos subject) k m vs) n old new → refused_before (refused n) ≡ false
    → (k' m' : ℤ) (vs' : List ℤ) (n' : ℕ) → Handed (call (pos subject) k' m' vs') n' old' new' → refused_before (refused n') ≡ false
    → (n ≡ calls_full) ↔ (n' ≡ calls_full)
