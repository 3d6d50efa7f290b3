-- The theorem of the program `script` (specs/Scripted). No line that is printed has an LF in it, so splitting the output gives its lines back; a run is its requests followed; and
-- the sheet being valid, demand 3 and the laws over calls hold of every state on the way. What is printed is the transcript: `got=` stands before what was accepted alone, and the
-- text of a refusal is that of its number alone.
use mathlib.Core.Path.{◌≡◌, refl, ap, sym, subst, ◌∙◌}
use mathlib.Core.Logic.{◌⊎◌, inl, inr, ◌↔◌}
use mathlib.Core.Bool.{Bool, true, false, So, cond}
use mathlib.Core.List.{List, [], ◌∷◌, ◌++◌, map}
use mathlib.Core.Option.{Option, none, some}
use Prim.Native.Nat.{ℕ, zero, suc, ◌+◌, ◌≤◌, ◌<◌}
use native.Mathlib.Omega.{arith}
use lib.Dec.{leb}
use lib.IntN.{ℤ, pos, negsuc}
use lib.ListN.{length, take, drop, get_elem?, length-append, length-drop}
use lib.Seq.{take-append_seam, drop-append_seam}
use borrow.Author.Tests.{leb-true, leb-false, lt-ltb, le-ltb}
use Rattle.spec_model.specs.Basics.{Res, refuse, ok, named}
use Rattle.spec_model.specs.Table.{Table, valid_sheet}
use Rattle.spec_model.specs.Requests.{System, Request, call, Result, pair, number, nothing, Outcome, got, refused, outcome, max_calls_each, made_by, serve, after, run}
use Rattle.spec_model.specs.Requests.{loaded as start}
use Rattle.spec_model.specs.Book.{Book, opened}
use Rattle.spec_model.specs.Claim.{accepted, feed, follow}
use Rattle.spec_model.specs.Callers.{Transcript, taken, seen, accepted_calls, passes_tests, saw_of}
use Rattle.spec_model.specs.Refusals.{short_buffer, calls_full}
use Rattle.spec_model.proofs.Rules.{never}
use Rattle.law_rules.proofs.Callers.{taken_is, calls-counted, limit-seen, accepted-few}
use Rattle.law_handed.proofs.Small.{Small, Named, small-serve}
use Rattle.spec_sheet.specs.Lines.{Row, row, cut, bytes, split, join, starts, first_line}
use Rattle.spec_sheet.specs.Clean.{not_lf, clean}
use Rattle.spec_sheet.specs.Numbers.{decimal}
use Rattle.spec_sheet.specs.Text.{number_text, Written, write_text}
use Rattle.spec_sheet.specs.Sheet.{SheetResult, malformed, loaded, read, number_line}
use Rattle.spec_sheet.proofs.Steps.{none-some, ok-value}
use Rattle.spec_sheet.proofs.Lines.{rows, Clean, clean-lines, all_append, split-full, decimal-clean}
use Rattle.spec_sheet.proofs.LineKinds.{in_between, number-exact}
use Rattle.spec_sheet.proofs.Exact.{loaded-valid, loaded-demand3}
use Rattle.script_read_request.specs.Asked.{request_line}
use Rattle.script_write_outcome.specs.Outcomes.{integer_text, outcome_text}
use Rattle.script_output.specs.Output.{max_input, sheet_part, request_part, asked, served_lines, printed_lines, script_output}
use Rattle.text_write.specs.Written.{written_of, WrittenIs}
use Rattle.script_output.proofs.Short.{output-short, output-fits}
use Rattle.script_output.proofs.Whole.{last_line}
use Rattle.theorem.specs.Shown.{Permitted}
use Rattle.theorem.specs.Scripted.{Fits, TooShort, line_of, requests_of, ends_malformed, state_after, book_after, seen_lines, transcript_after, Served, Script}
use Rattle.theorem.specs.Scripted.{ShownOfScripts, written_in, ShownOfScriptBytes}
use Rattle.theorem.proofs.Calls.{if-accepted, call-tested, tested-permitted}

-- ---- the buffer
pub written : (text old : List ℕ) → let w = write_text text old in Fits text old w ⊎ TooShort text old w
unfolding write_text
written text old = go (leb (length text) (length old)) refl
  where
    full : Written
    full = record { result = ok (length text); buffer = text ++ drop (length text) old }

    short : Written
    short = record { result = refuse short_buffer; buffer = old }

    go : (b : Bool) → leb (length text) (length old) ≡ b → Fits text old (cond b full short) ⊎ TooShort text old (cond b full short)
    go true e = inl (record {
      result = refl;
      front = take-append_seam text (drop (length text) old);
      behind = drop-append_seam text (drop (length text) old);
      size = let l : length text ≤ length old = leb-true (length text) (length old) e in
          length-append text (drop (length text) old) ∙ ap (λ z. length text + z) (length-drop (length text) old) ∙ omega arith;
    })
    go false e = inr (record { short = leb-false (length text) (length old) e; result = refl; untouched = refl })

-- ---- no line has an LF

number-clean : (key : List ℕ) (n : ℕ) → So (clean key) → So (clean (number_text key n))
unfolding number_text
number-clean key n h = all_append not_lf key (decimal n) h (decimal-clean n)

integer-clean : (v : ℤ) → So (clean (integer_text v))
unfolding integer_text
integer-clean (pos n) = decimal-clean n
integer-clean (negsuc n) = decimal-clean (suc n)

outcome-clean : (o : Outcome) → So (clean (outcome_text o))
unfolding outcome_text
outcome-clean (refused e) = number-clean (bytes "no=") e refl
outcome-clean (got (pair a b)) = all_append not_lf (number_text (bytes "got=") a) (number_text (bytes " ") b) (number-clean (bytes "got=") a refl) (number-clean (bytes " ") b refl)
outcome-clean (got (number v)) = all_append not_lf (bytes "got=") (integer_text v) refl (integer-clean v)
outcome-clean (got nothing) = refl

outcomes-clean : (os : List Outcome) → Clean (map outcome_text os)
outcomes-clean [] = tt
outcomes-clean (o ∷ os) = (outcome-clean o, outcomes-clean os)

-- ---- lines and requests
some-value : {x y : Request} → some x ≡ some y → x ≡ y
some-value p = cc

line-asks : (rs : List Row) (k : ℕ) (q : Request) → get_elem? (asked rs).0 k ≡ some q → request_line (first_line (drop k rs)) ≡ some q
unfolding asked
line-asks [] k q h = none-some h
line-asks (cut l ∷ rs) k q h = none-some h
line-asks (row l ∷ rs) k q h = go (request_line l) refl k h (λ k. line-asks rs k q)
  where
    go : (o : Option Request) → request_line l ≡ o → (k : ℕ)
        → get_elem? (elim o as (λ _. List Request × Bool) [ none ↦ ([], true) | some q ↦ (q ∷ (asked rs).0, (asked rs).1) ]).0 k ≡ some q
        → ((k : ℕ) → get_elem? (asked rs).0 k ≡ some q → request_line (first_line (drop k rs)) ≡ some q) → request_line (first_line (drop k (row l ∷ rs))) ≡ some q
    go none e k h ih = none-some h
    go (some p) e zero h ih = e ∙ h
    go (some p) e (suc k) h ih = ih k h

lines-stop : (rs : List Row) → So (asked rs).1 → request_line (first_line (drop (length (asked rs).0) rs)) ≡ none
unfolding asked request_line starts
lines-stop [] h = never h
lines-stop (cut l ∷ rs) h = refl
lines-stop (row l ∷ rs) h = go (request_line l) refl h (lines-stop rs)
  where
    go : (o : Option Request) → request_line l ≡ o → let x : List Request × Bool = elim o [ none ↦ ([], true) | some q ↦ (q ∷ (asked rs).0, (asked rs).1) ] in So x.1
        → (So (asked rs).1 → request_line (first_line (drop (length (asked rs).0) rs)) ≡ none) → request_line (first_line (drop (length x.0) (row l ∷ rs))) ≡ none
    go none e h ih = e
    go (some q) e h ih = ih h

lines-all : (rs : List Row) → (asked rs).1 ≡ false → drop (length (asked rs).0) rs ≡ []
unfolding asked
lines-all [] h = refl
lines-all (cut l ∷ rs) h = never (sym h)
lines-all (row l ∷ rs) h = go (request_line l) h (lines-all rs)
  where
    go : (o : Option Request) → let x : List Request × Bool = elim o [ none ↦ ([], true) | some q ↦ (q ∷ (asked rs).0, (asked rs).1) ] in x.1 ≡ false
        → ((asked rs).1 ≡ false → drop (length (asked rs).0) rs ≡ []) → drop (length x.0) (row l ∷ rs) ≡ []
    go none h ih = never (sym h)
    go (some q) h ih = ih h

line-prints : (qs : List Request) (k : ℕ) (q : Request) → get_elem? qs k ≡ some q → (s : System) (b : Book) (ls : List (List ℕ))
    → first_line (drop k (rows (map outcome_text (run s qs).0 ++ ls))) ≡ outcome_text (outcome (serve (follow s b (take k qs)).0 q))
unfolding run follow
line-prints [] k q h s b ls = none-some h
line-prints (p ∷ qs) zero q h s b ls = ap (λ z. outcome_text (outcome (serve s z))) (some-value h)
line-prints (p ∷ qs) (suc k) q h s b ls = let a = serve s p in line-prints qs k q h (after s a) (feed b p (accepted a)) ls

lines_end : (qs : List Request) (s : System) (ls : List (List ℕ)) → drop (length qs) (rows (map outcome_text (run s qs).0 ++ ls)) ≡ rows ls
unfolding run
lines_end [] s ls = refl
lines_end (q ∷ qs) s ls = lines_end qs (after s (serve s q)) ls

-- a line that begins with `got=` is that of an accepted request
got-taken : (o : Outcome) → starts (bytes "got=") (outcome_text o) ≡ taken o
unfolding outcome_text number_text starts
got-taken (refused e) = refl
got-taken (got (pair a b)) = refl
got-taken (got (number v)) = refl
got-taken (got nothing) = refl

got-accepted : (m : Res (System × Result)) → So (starts (bytes "got=") (outcome_text (outcome m))) → So (accepted m)
got-accepted m h = sym (got-taken (outcome m) ∙ taken_is m) ∙ h

-- ---- the transcript that is printed (L28)
follow-runs : (qs : List Request) (s : System) (b : Book) → (follow s b qs).0 ≡ (run s qs).1
unfolding follow run
follow-runs [] s b = refl
follow-runs (q ∷ qs) s b = let a = serve s q in follow-runs qs (after s a) (feed b q (accepted a))

drop-next : (rs : List Row) (i : ℕ) (r : Row) (us : List Row) → drop i rs ≡ r ∷ us → drop (suc i) rs ≡ us
drop-next [] zero r us h = cc
drop-next [] (suc i) r us h = cc
drop-next (x ∷ rs) zero r us h = cc
drop-next (x ∷ rs) (suc i) r us h = drop-next rs i r us h

-- where the lines of a run of qs stand from line i on, the first k of them are the transcript of the first k requests
lines-seen : (text : List ℕ) (qs : List Request) (k i : ℕ) (s : System) (ls : List (List ℕ)) → drop i (split text) ≡ rows (map outcome_text (run s qs).0 ++ ls)
    → seen_lines text i (take k qs) ≡ seen (take k qs) (run s (take k qs)).0
unfolding run
lines-seen text [] zero i s ls h = refl
lines-seen text [] (suc k) i s ls h = refl
lines-seen text (q ∷ qs) zero i s ls h = refl
lines-seen text (q ∷ qs) (suc k) i s ls h =
    let a = serve s q in
    let us = rows (map outcome_text (run (after s a) qs).0 ++ ls) in
    let e : starts (bytes "got=") (line_of text i) ≡ taken (outcome a) = ap (λ z. starts (bytes "got=") (first_line z)) h ∙ got-taken (outcome a) in
    let l = lines-seen text qs k (suc i) (after s a) ls (drop-next (split text) i (row (outcome_text (outcome a))) us h) in
    ap (λ (b : Bool). (q, b) ∷ seen_lines text (suc i) (take k qs)) e ∙ ap (λ (z : Transcript). (q, taken (outcome a)) ∷ z) l

-- ---- `no=18` is printed for 18 alone (L29)
number-back : (m n : ℕ) → m < 256 → n < 256 → number_text (bytes "no=") m ≡ number_text (bytes "no=") n → m ≡ n
number-back m n a b e = let w = number-exact (bytes "no=") 0 255 (omega arith) refl in
    ok-value (sym (w.full m (in_between 0 255 m (omega arith) (omega (arith, a)))) ∙ ap (number_line (bytes "no=") 0 255) e ∙ w.full n (in_between 0 255 n (omega arith) (omega (arith, b))))

full-printed : (s : System) (m : Res (System × Result)) → Small (λ (x : System × Result). Named s x.0 x.1) m
    → outcome_text (outcome m) ≡ number_text (bytes "no=") calls_full → outcome m ≡ refused calls_full
unfolding outcome_text number_text starts
full-printed s (refuse e) h z = ap refused (number-back e calls_full h.1 (omega arith) z)
full-printed s (ok x) h z = never (sym (sym (got-taken (got x.1)) ∙ ap (starts (bytes "got=")) z))

-- ---- the output by its cases

last-clean : (b : Bool) → Clean (last_line b)
last-clean true = (refl, tt)
last-clean false = tt

last-rows : (b : Bool) → rows (last_line b) ≡ cond b (row (bytes "no=1") ∷ []) []
last-rows true = refl
last-rows false = refl

module _ (input : List ℕ) where
  output-long : max_input < length input → script_output input ≡ join (bytes "no=2" ∷ [])
  unfolding script_output
  output-long h = ap (λ b. join (cond b (bytes "no=2" ∷ []) (printed_lines (read (sheet_part input)) (split (request_part input))))) (lt-ltb max_input (length input) h)

  output-is : length input ≤ max_input → (a : SheetResult) → read (sheet_part input) ≡ a → script_output input ≡ join (printed_lines a (split (request_part input)))
  unfolding script_output
  output-is h a e = ap (λ b. join (cond b (bytes "no=2" ∷ []) (printed_lines (read (sheet_part input)) (split (request_part input))))) (le-ltb max_input (length input) h)
      ∙ ap (λ z. join (printed_lines z (split (request_part input)))) e

  module _ (small : length input ≤ max_input) (t : Table) (e : read (sheet_part input) ≡ loaded t) where
    abbrev qs : List Request
    qs = requests_of input

    valid : So (valid_sheet t)
    valid = loaded-valid (sheet_part input) t e

    abbrev lines_out : List (List ℕ)
    lines_out = map outcome_text (run (start t) qs).0 ++ last_line (ends_malformed input)

    lines_are : split (script_output input) ≡ rows lines_out
    unfolding served_lines
    lines_are = ap split (output-is small (loaded t) e)
        ∙ split-full lines_out (clean-lines (map outcome_text (run (start t) qs).0) (last_line (ends_malformed input)) (outcomes-clean (run (start t) qs).0) (last-clean (ends_malformed input)))

    prints : (k : ℕ) (q : Request) → get_elem? qs k ≡ some q → line_of (script_output input) k ≡ outcome_text (outcome (serve (state_after input t k) q))
    prints k q h = ap (λ z. first_line (drop k z)) lines_are ∙ line-prints qs k q h (start t) (opened t) (last_line (ends_malformed input))

    calls : (k : ℕ) (subject cell method : ℤ) (vs : List ℤ) → get_elem? qs k ≡ some (call subject cell method vs)
        → So (starts (bytes "got=") (line_of (script_output input) k)) → Permitted (book_after input t k) cell (method ∷ [])
    calls k subject cell method vs h g = let m = serve (state_after input t k) (call subject cell method vs) in
        tested-permitted t valid (take k qs) cell method
        (if-accepted m (call-tested (state_after input t k) subject cell method vs) (got-accepted m (subst (λ z. So (starts (bytes "got=") z)) (prints k (call subject cell method vs) h) g)))

    saw : (k : ℕ) → transcript_after input k ≡ saw_of t (take k qs)
    saw k = lines-seen (script_output input) qs k 0 (start t) (last_line (ends_malformed input)) lines_are

    made : (k n : ℕ) → made_by n (state_after input t k).calls ≡ accepted_calls n (transcript_after input k)
    made k n = ap (λ (s : System). made_by n s.calls) (follow-runs (take k qs) (start t) (opened t)) ∙ calls-counted t valid (take k qs) n ∙ sym (ap (accepted_calls n) (saw k))

    few : (k n : ℕ) → accepted_calls n (transcript_after input k) ≤ max_calls_each
    few k n = subst (λ l. accepted_calls n l ≤ max_calls_each) (sym (saw k)) (accepted-few t valid (take k qs) n)

    full : (k : ℕ) (subject cell method : ℤ) (vs : List ℤ) → get_elem? qs k ≡ some (call subject cell method vs) → So (passes_tests (state_after input t k) subject cell method vs)
        → (line_of (script_output input) k ≡ number_text (bytes "no=") calls_full) ↔ (accepted_calls (named subject) (transcript_after input k) ≡ max_calls_each)
    unfolding outcome_text
    full k subject cell method vs h p =
        let s = state_after input t k in
        let q : Request = call subject cell method vs in
        let i = prints k q h in
        let x = limit-seen s subject cell method vs p in
        let c = made k (named subject) in
        (λ z. omega (arith, x.0 (full-printed s (serve s q) (small-serve s q) (sym i ∙ z)), c, few k (named subject)), λ z. i ∙ ap outcome_text (x.1 (omega (arith, z, c))))

    served : Served input t
    served = record {
      asks = line-asks (split (request_part input));
      stops = lines-stop (split (request_part input));
      all = lines-all (split (request_part input));
      prints = prints;
      ends = ap (drop (length qs)) lines_are ∙ lines_end qs (start t) (last_line (ends_malformed input)) ∙ last-rows (ends_malformed input);
      claim = λ k. loaded-demand3 (sheet_part input) t e (take k qs);
      calls = calls;
      made = made;
      full = full;
    }

enough : (input old : List ℕ) (w : Written) → Fits (script_output input) old w ⊎ TooShort (script_output input) old w → length (script_output input) ≤ length old
    → Fits (script_output input) old w
enough input old w (inl f) h = f
enough input old w (inr s) h = absurd (omega (arith, s.short))

script-is : (input old : List ℕ) (w : Written) → w ≡ write_text (script_output input) old → Script input old w
script-is input old w e =
    let b = subst (λ z. Fits (script_output input) old z ⊎ TooShort (script_output input) old z) (sym e) (written (script_output input) old) in record {
      buffer = b;
      room = λ h. enough input old w b (omega (arith, output-short input));
      always = λ h. enough input old w b (omega (arith, output-fits input));
      long = output-long input;
      refused = λ small n at r. output-is input small (malformed n at) r;
      served = served input;
    }

pub shown-of-scripts : ShownOfScripts
shown-of-scripts input old new r e = script-is input old (written_of r new) e

-- number, length and buffer are all that the writer leaves
pub written-in : (text old new : List ℕ) (n before len : ℕ) → WrittenIs (write_text text old) n before len new → written_in n len new ≡ write_text text old
unfolding write_text
written-in text old new n before len = go (leb (length text) (length old))
  where
    full : Written
    full = record { result = ok (length text); buffer = text ++ drop (length text) old }

    short : Written
    short = record { result = refuse short_buffer; buffer = old }

    go : (b : Bool) → WrittenIs (cond b full short) n before len new → written_in n len new ≡ cond b full short
    go true w = rw (w.number, w.length, w.bytes)
    go false w = rw (w.number, w.bytes)

pub shown-of-script-bytes : ShownOfScriptBytes
shown-of-script-bytes input old new n before len w = script-is input old (written_in n len new) (written-in (script_output input) old new n before len w)
