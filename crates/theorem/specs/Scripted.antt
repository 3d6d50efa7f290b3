-- The theorem of the program `script`, from bytes to bytes: `ShownOfScripts`. For every input and every buffer that is lent, it says what stands in the buffer after the entry
-- point, line by line; and what is known of every state on the way: demand 3 (L19 to L23), that a call that is printed as accepted is of a permitted method, and that `no=18`
-- goes by the subject's own calls that are printed as accepted (L28, L29).
-- The code comes in by the contract of its entry point alone (crate script_output, `script`): `Written` is the result and the buffer that it leaves. `ShownOfScriptBytes` says the
-- same of the C function. Proof: proofs/Scripted.
use Rattle.std.specs.Prelude.{◌≡◌, ◌⊎◌, ◌↔◌, Bool, false, cond, List, [], ◌∷◌, ℕ, suc, ◌+◌, ◌≤◌, ◌<◌, eqb, ℤ, length, take, drop}
use Rattle.std.proofs.Math.Bool.{So}
use Rattle.std.proofs.Math.Option.{none, some}
use Rattle.std.proofs.Math.ListN.{get_elem?}
use Rattle.spec_model.specs.Basics.{refuse, ok, named}
use Rattle.spec_model.specs.Table.{Table}
use Rattle.spec_model.specs.Requests.{System, Request, call, outcome, max_calls_each, made_by, serve}
use Rattle.spec_model.specs.Book.{Book}
use Rattle.spec_model.specs.Claim.{reached, Claim}
use Rattle.spec_model.specs.Callers.{Transcript, accepted_calls, passes_tests}
use Rattle.spec_model.specs.Refusals.{short_buffer, calls_full}
use Rattle.spec_sheet.specs.Lines.{row, bytes, split, join, starts, first_line}
use Rattle.spec_sheet.specs.Text.{number_text, Written, write_text}
use Rattle.spec_sheet.specs.Sheet.{malformed, loaded, read}
use Rattle.script_read_request.specs.Asked.{request_line}
use Rattle.script_write_outcome.specs.Outcomes.{outcome_text}
use Rattle.script_output.specs.Output.{max_input, max_longer, sheet_part, request_part, asked, script_output}
use Rattle.text_write.specs.Written.{Wrote}
use Rattle.text_write.specs.Written.{written_of, WrittenIs}
use Rattle.theorem.specs.Shown.{Permitted}

-- ---- The buffer, which was `old`
-- The text fits: it stands in front, the result is its length, and the bytes behind it are as they were.
pub record Fits (text old : List ℕ) (w : Written) : Type 0 where
  pub result : w.result ≡ ok (length text)
  pub front : take (length text) w.buffer ≡ text
  pub behind : drop (length text) w.buffer ≡ drop (length text) old
  pub size : length w.buffer ≡ length old

-- It does not: 4, and every byte is as it was.
pub record TooShort (text old : List ℕ) (w : Written) : Type 0 where
  pub short : length old < length text
  pub result : w.result ≡ refuse short_buffer
  pub untouched : w.buffer ≡ old

-- ---- The lines of an input whose sheet is read as t
-- line k of a text, without its LF
abbrev pub line_of : List ℕ → ℕ → List ℕ
line_of text k = first_line (drop k (split text))

-- the requests, and whether a malformed line ends them (P11)
abbrev pub requests_of : List ℕ → List Request
requests_of input = (asked (split (request_part input))).0

abbrev pub ends_malformed : List ℕ → Bool
ends_malformed input = (asked (split (request_part input))).1

-- the state that the first k requests leave, refused ones included, and the book of these requests (L1)
abbrev pub state_after : List ℕ → Table → ℕ → System
state_after input t k = (reached t (take k (requests_of input))).0

abbrev pub book_after : List ℕ → Table → ℕ → Book
book_after input t k = (reached t (take k (requests_of input))).1

-- requests and whether each was accepted, by the lines of a text from line i on: where a line begins with `got=` (L28)
abbrev pub seen_lines : List ℕ → ℕ → List Request → Transcript
seen_lines text i [] = []
seen_lines text i (q ∷ qs) = (q, starts (bytes "got=") (line_of text i)) ∷ seen_lines text (suc i) qs

-- the transcript of the first k requests, by what is printed
abbrev pub transcript_after : List ℕ → ℕ → Transcript
transcript_after input k = seen_lines (script_output input) 0 (take k (requests_of input))

pub record Served (input : List ℕ) (t : Table) : Type 0 where
  -- request k is what line k behind the sheet asks
  pub asks : (k : ℕ) (q : Request) → get_elem? (requests_of input) k ≡ some q → request_line (line_of (request_part input) k) ≡ some q
  -- there are no more of them because the next line is malformed, or because no line is left (P11)
  pub stops : So (ends_malformed input) → request_line (line_of (request_part input) (length (requests_of input))) ≡ none
  pub all : ends_malformed input ≡ false → drop (length (requests_of input)) (split (request_part input)) ≡ []
  -- line k of the output is what request k comes to on the state that the k requests before it left (P4, P12, P13)
  pub prints : (k : ℕ) (q : Request) → get_elem? (requests_of input) k ≡ some q → line_of (script_output input) k ≡ outcome_text (outcome (serve (state_after input t k) q))
  -- behind these lines stands `no=1` for a malformed line, and nothing else
  pub ends : drop (length (requests_of input)) (split (script_output input)) ≡ cond (ends_malformed input) (row (bytes "no=1") ∷ []) []
  -- Demand 3 after every request, and before the first: each cell offers exactly the chains that all of its page permits (L21).
  pub claim : (k : ℕ) → Claim (state_after input t k) (book_after input t k)
  -- The referee's question: where request k is a call and line k of the output begins with `got=`, the class and every type of the trail of the page of the called cell permit
  -- the method.
  pub calls : (k : ℕ) (subject cell method : ℤ) (vs : List ℤ) → get_elem? (requests_of input) k ≡ some (call subject cell method vs)
      → So (starts (bytes "got=") (line_of (script_output input) k)) → Permitted (book_after input t k) cell (method ∷ [])
  -- The calls of a subject in the state that the first k requests leave are as many as its accepted calls in what is printed (L28).
  pub made : (k n : ℕ) → made_by n (state_after input t k).calls ≡ accepted_calls n (transcript_after input k)
  -- Where request k is a call that passes the tests before 18, line k of the output is `no=18` exactly if its subject's accepted calls, by the lines before it, are 32 (L29).
  pub full : (k : ℕ) (subject cell method : ℤ) (vs : List ℤ) → get_elem? (requests_of input) k ≡ some (call subject cell method vs)
      → So (passes_tests (state_after input t k) subject cell method vs)
      → (line_of (script_output input) k ≡ number_text (bytes "no=") calls_full) ↔ (accepted_calls (named subject) (transcript_after input k) ≡ max_calls_each)

-- ---- The theorem
pub record Script (input old : List ℕ) (w : Written) : Type 0 where
  pub buffer : Fits (script_output input) old w ⊎ TooShort (script_output input) old w
  -- five bytes more than the input has are enough, and 32,773 for every input
  pub room : length input + max_longer ≤ length old → Fits (script_output input) old w
  pub always : max_input + max_longer ≤ length old → Fits (script_output input) old w
  -- input past the limit (P1), a refused sheet (P3), and a sheet that is read
  pub long : max_input < length input → script_output input ≡ join (bytes "no=2" ∷ [])
  pub refused : length input ≤ max_input → (n at : ℕ) → read (sheet_part input) ≡ malformed n at → script_output input ≡ join (number_text (bytes "no=") n ∷ [])
  pub served : length input ≤ max_input → (t : Table) → read (sheet_part input) ≡ loaded t → Served input t

-- r and new are the result and the buffer of `script`, by its contract.
abbrev pub ShownOfScripts : Type 0
ShownOfScripts = (input old new : List ℕ) (r : Wrote) → written_of r new ≡ write_text (script_output input) old → Script input old (written_of r new)

-- The same of `pilgonca_script`, by the number that it returned, the length that it stored and the buffer.
abbrev pub written_in : ℕ → ℕ → List ℕ → Written
written_in n len new = record { result = cond (eqb n 0) (ok len) (refuse n); buffer = new }

abbrev pub ShownOfScriptBytes : Type 0
ShownOfScriptBytes = (input old new : List ℕ) (n before after : ℕ) → WrittenIs (write_text (script_output input) old) n before after new → Script input old (written_in n after new)
