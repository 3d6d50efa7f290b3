-- What is written is the definition's: the lines of the requests, one after the other; the three cases of the input; and the answers for a buffer.
use mathlib.Core.Path.{◌≡◌, refl, sym, ap, ◌∙◌, subst}
use mathlib.Core.Bool.{Bool, true, cond}
use mathlib.Core.List.{List, [], ◌∷◌, ◌++◌, map}
use mathlib.Core.Option.{Option, none, some}
use Prim.Native.Nat.{ℕ, ◌-◌, ◌≤◌, ◌<◌}
use native.Mathlib.Omega.{arith}
use lib.ListN.{length, take, drop, length-drop}
use lib.Seq.{take_all}
use borrow.Author.Tests.{lt-ltb, le-ltb}
use Rattle.spec_model.specs.Basics.{from}
use Rattle.spec_model.specs.Table.{Table}
use Rattle.spec_model.specs.Check.{system_of}
use Rattle.spec_model.specs.Requests.{System, Request, serve, after, outcome, run}
use Rattle.spec_model.specs.Requests.{loaded as start}
use Rattle.table_record.specs.declared.Counts.{Counts}
use Rattle.table_record.specs.Store.{table_in}
use Rattle.table_record.specs.Layout.{types_size}
use Rattle.table_check.proofs.Accepted.{accepted-checked}
use Rattle.spec_sheet.specs.Lines.{Row, row, cut, bytes, split, join}
use Rattle.spec_sheet.specs.Text.{number_text}
use Rattle.spec_sheet.specs.Sheet.{read}
use Rattle.sheet_read.specs.declared.Sheet.{Sheet}
use Rattle.sheet_read.specs.View.{sheet_for}
use Rattle.sheet_read.proofs.Accepted.{read-loaded, read-malformed, read-accepted}
use Rattle.state_record.specs.declared.State.{State as Rest}
use Rattle.state_record.specs.Whole.{whole}
use Rattle.state_record.specs.View.{system_in, state_loaded}
use Rattle.state_record.specs.Sound.{Sound}
use Rattle.state_record.proofs.Kept.{loaded-sound}
use Rattle.script_read_request.specs.Asked.{request_line}
use Rattle.script_write_outcome.specs.Outcomes.{outcome_text}
use Rattle.script_output.specs.Output.{max_input, sheet_end, asked, served_lines, printed_lines, script_output}
use Rattle.script_output.specs.Parts.{lines_by, lines_from}

-- ---- the lines of the requests
abbrev asked_by : List Request × Bool → Option Request → List Request × Bool
asked_by x o = elim o [ none ↦ ([], true) | some q ↦ (q ∷ x.0, x.1) ]

-- what ends the program
abbrev pub last_line : Bool → List (List ℕ)
last_line b = cond b (bytes "no=1" ∷ []) []

abbrev pub printed : System → List Request × Bool → List (List ℕ)
printed x y = map outcome_text (run x y.0).0 ++ last_line y.1

lines-are-from : (x : System) (rs : List Row) → printed x (asked rs) ≡ lines_from x rs
unfolding asked run lines_from
lines-are-from x [] = refl
lines-are-from x (cut l ∷ rs) = refl
lines-are-from x (row l ∷ rs) = go (request_line l) (λ y. lines-are-from y rs)
  where
    go : (o : Option Request) → ((y : System) → printed y (asked rs) ≡ lines_from y rs) → printed x (asked_by (asked rs) o) ≡ lines_by x (λ y. lines_from y rs) o
    go none ih = refl
    go (some q) ih = ap (λ z. outcome_text (outcome (serve x q)) ∷ z) (ih (after x (serve x q)))

pub served-from : (t : Table) (rs : List Row) → served_lines t rs ≡ lines_from (start t) rs
unfolding served_lines
served-from t rs = lines-are-from (start t) rs

-- the state of a loaded sheet is the model's
loaded-is : (types links : List ℕ) (c : Counts) → system_in (whole types (state_loaded links c)) ≡ start (table_in types links c)
unfolding system_in system_of table_in from
loaded-is types links c = refl

-- the bytes from e on, as they are lent
abbrev rest_of : List ℕ → ℕ → List ℕ
rest_of s e = take (length s - e) (drop e s)

rest-is : (s : List ℕ) (e : ℕ) → rest_of s e ≡ drop e s
rest-is s e = let d : length (drop e s) ≡ length s - e = length-drop e s in take_all (length s - e) (drop e s) (omega arith)

pub rest-short : (s : List ℕ) (e : ℕ) → length s ≤ max_input → length (rest_of s e) ≤ max_input
rest-short s e l =
    let d : length (drop e s) ≡ length s - e = length-drop e s in
    let q : length (rest_of s e) ≡ length (drop e s) = ap length (rest-is s e) in omega arith

-- ---- the three cases of the input s, of which the sheet is the first e bytes
module _ (s : List ℕ) where
  pub long-prints : max_input < length s → join (bytes "no=2" ∷ []) ≡ script_output s
  unfolding script_output
  long-prints l = rw (lt-ltb max_input (length s) l)

  module _ (e : ℕ) (w : e ≡ sheet_end s) (x : Sheet) (h : x ≡ sheet_for (read (take e s))) (l : length s ≤ max_input) where
    pub refused-prints : (x.refusal ≡ 0 → ⊥) → join (number_text (bytes "no=") x.refusal ∷ []) ≡ script_output s
    unfolding script_output
    refused-prints z =
        ap (λ a. join (printed_lines a (split (drop e s)))) (sym (read-malformed (take e s) x h z))
        ∙ ap (λ i. join (printed_lines (read (take i s)) (split (drop i s)))) w ∙ rw (le-ltb max_input (length s) l)

    module _ (z : x.refusal ≡ 0) where
      pub served-sound : length x.types ≡ types_size → (st : Rest) → st ≡ state_loaded x.links x.counts → Sound (whole x.types st)
      served-sound long st q = subst (λ (y : Rest). Sound (whole x.types y)) (sym q)
          (loaded-sound x.types x.links x.counts long (accepted-checked x.types x.links x.counts (read-accepted (take e s) x h z)))

      -- st beside the types is the state that the lines from e on are served on
      pub served-prints : (st : Rest) → st ≡ state_loaded x.links x.counts → join (lines_from (system_in (whole x.types st)) (split (rest_of s e))) ≡ script_output s
      unfolding script_output
      served-prints st q =
          ap (λ (y : Rest). join (lines_from (system_in (whole x.types y)) (split (rest_of s e)))) q
          ∙ ap (λ (y : System). join (lines_from y (split (rest_of s e)))) (loaded-is x.types x.links x.counts)
          ∙ ap (λ y. join (lines_from (start (table_in x.types x.links x.counts)) (split y))) (rest-is s e)
          ∙ ap join (sym (served-from (table_in x.types x.links x.counts) (split (drop e s))))
          ∙ ap (λ a. join (printed_lines a (split (drop e s)))) (sym (read-loaded (take e s) x h z))
          ∙ ap (λ i. join (printed_lines (read (take i s)) (split (drop i s)))) w ∙ rw (le-ltb max_input (length s) l)
