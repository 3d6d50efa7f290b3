-- The output is at most five bytes longer than the input. A request line is no shorter than the line printed for it: it has 12 bytes at least, a refusal's line has at most 6
-- and a pair's at most 11, its numbers being below 1,000; and a number answered is the one that the line gave. What ends the program is one line of five bytes.
use mathlib.Core.Path.{◌≡◌, refl, ap}
use mathlib.Core.Logic.{inl, inr}
use mathlib.Core.Bool.{Bool, true, false, not, cond, ◌&&◌}
use mathlib.Core.List.{List, [], ◌∷◌, ◌++◌, map, reverse}
use mathlib.Core.Option.{Option, none, some}
use Prim.Native.Nat.{ℕ, zero, suc, ◌+◌, ◌/◌, ◌%◌, ◌≤◌, ◌<◌}
use native.Mathlib.Nat.{div-lt_iff_lt-mul}
use native.Mathlib.Omega.{arith}
use lib.Dec.{eqb, ltb}
use lib.IntN.{ℤ, pos, negsuc}
use lib.ListN.{length, length-append, length-drop}
use borrow.Author.Tests.{ltb-false}
use Rattle.spec_model.specs.Basics.{Res, refuse, ok, try, need, names, named}
use Rattle.spec_model.specs.Table.{type_at, is_ref, is_avail, is_class, answer_at, method_at}
use Rattle.spec_model.specs.Crossing.{object, max_places, base_owner, Reference, cross}
use Rattle.spec_model.specs.Requests.{System, Request, new, move, call, answer, Result, pair, number, nothing, got, outcome, max_cells, max_calls_each, made_by, cell_at, call_at, is_sheet_ref, held, leaving}
use Rattle.spec_model.specs.Requests.{add_cell, new_request, move_request, call_layers, cross_layers, pass_layers, send, arguments_held, send_arguments, call_request, with_answer, give, answer_request, serve}
use Rattle.spec_model.specs.Requests.{after, run}
use Rattle.spec_model.specs.Requests.{loaded as start}
use Rattle.spec_model.specs.Claim.{follow}
use Rattle.spec_model.specs.Refusals.{unknown_subject, not_held, unknown_type, places_full, cells_full, not_callable, wrong_values, answered_already, calls_full}
use Rattle.law_model.proofs.Steps.{IfOk, ok-need, ok-try, whatever}
use Rattle.law_model.proofs.Checked.{Bounded, bounded-calls, fits-bounded, bounded-kept}
use Rattle.law_model.proofs.Reached.{reached-fits}
use Rattle.law_handed.proofs.Small.{Small, Named, small-serve}
use Rattle.spec_sheet.specs.Lines.{Row, row, cut, bytes, split, join}
use Rattle.spec_sheet.specs.Numbers.{decimal, decimal_in}
use Rattle.spec_sheet.specs.Text.{number_text}
use Rattle.spec_sheet.specs.Sheet.{SheetResult, malformed, loaded, read}
use Rattle.spec_sheet.proofs.Numbers.{bound}
use Rattle.spec_sheet.proofs.Lines.{unsplit, unsplit-split}
use Rattle.spec_sheet.proofs.Exact.{loaded-valid}
use Rattle.spec_sheet.proofs.Refusals.{refusal-number}
use Rattle.script_read_request.specs.Asked.{request_line}
use Rattle.script_read_request.proofs.Long.{long, line-long, line-given}
use Rattle.script_write_outcome.specs.Outcomes.{integer_text, outcome_text}
use Rattle.script_output.specs.Output.{max_input, max_longer, sheet_end, asked, served_lines, printed_lines, sheet_part, request_part, script_output}
use Rattle.script_output.proofs.Whole.{printed}

-- ---- a number below 10 to the g has at most g digits
digits-few : (f g n : ℕ) → n < bound (suc g) → length (decimal_in f n) ≤ suc g
unfolding decimal_in
digits-few zero g n h = omega arith
digits-few (suc f) g n h = go (λ g. digits-few f g (n / 10)) g h (ltb n 10) refl
  where
    go : ((g : ℕ) → n / 10 < bound (suc g) → length (decimal_in f (n / 10)) ≤ suc g) → (g : ℕ) → n < bound (suc g) → (b : Bool) → ltb n 10 ≡ b
        → length (cond b ((48 + n) ∷ []) (decimal_in f (n / 10) ++ (48 + n % 10) ∷ [])) ≤ suc g
    go ih g h true e = omega arith
    go ih zero h false e = let k : 10 ≤ n = ltb-false n 10 e in absurd (omega arith)
    go ih (suc g) h false e = let k = ih g ((div-lt_iff_lt-mul {k = 10} (omega arith)).1 h) in omega (arith, k, length-append (decimal_in f (n / 10)) ((48 + n % 10) ∷ []))

decimal-few : (n : ℕ) → n < 1000 → length (decimal n) ≤ 3
decimal-few n h = digits-few 20 2 n h

-- ---- What a request gives: numbers below 1,000; or the value that an answer handed in, and no other request gives a number.
abbrev Gives : Request → ℤ → Type 0
Gives (new a b c) v = ⊥
Gives (move a b c d) v = ⊥
Gives (call a b c vs) v = ⊥
Gives (answer a b none) v = ⊥
Gives (answer a b (some w)) v = w ≡ v

abbrev Few : Request → Result → Type 0
Few q (pair a b) = (a < 1000) × (b < 1000)
Few q (number v) = Gives q v
Few q nothing = Unit {0}

abbrev Given : Request → Result → Type 0
Given q (pair a b) = Unit {0}
Given q (number v) = Gives q v
Given q nothing = Unit {0}

abbrev Q : Request → System × Result → Type 0
Q q x = Given q x.1

cell-gives : (q : Request) (s : System) (r : ℕ) (f : Reference) → IfOk (add_cell s r f) (Q q)
unfolding add_cell
cell-gives q s r f = ok-need _ (ltb (length s.cells) max_cells) cells_full _ λ _. tt

send-gives : (q : Request) (s : System) (r k : ℕ) (ts : List (Option ℕ)) → IfOk (send s r k ts) (Q q)
unfolding send
send-gives q s r k ts = ok-try (λ _. Unit {0}) _ (cross_layers true (leaving s k) r ts) _ (whatever (cross_layers true (leaving s k) r ts)) λ f _. cell-gives q s r f

give-gives : (s : System) (subject i : ℤ) (j : ℕ) (due : Option ℕ) (v : Option ℤ) → IfOk (give s subject j due v) (Q (answer subject i v))
unfolding give
give-gives s subject i j none none = tt
give-gives s subject i j none (some v) = tt
give-gives s subject i j (some a) none = tt
give-gives s subject i j (some a) (some v) = go (is_ref (type_at s.table a).rep)
  where
    ts : List (Option ℕ)
    ts = reverse (map (answer_at s.table (call_at s j).method) (call_layers s (cell_at s (call_at s j).cell)))

    go : (b : Bool) → IfOk {A = System × Result} (elim b [
      | true ↦ need (held s subject v) wrong_values λ _. try (send s (call_at s j).caller (named v) ts) λ x. ok (with_answer x.0 j, x.1)
      | false ↦ try (pass_layers true s.table v ts) λ _. ok (with_answer s j, number v)
    ]) (Q (answer subject i (some v)))
    go true = let q = answer subject i (some v) in ok-need (Q q) (held s subject v) wrong_values _ λ _.
        ok-try (Q q) (Q q) (send s (call_at s j).caller (named v) ts) _ (send-gives q s (call_at s j).caller (named v) ts) λ x h. h
    go false = ok-try (λ _. Unit {0}) (Q (answer subject i (some v))) (pass_layers true s.table v ts) _ (whatever (pass_layers true s.table v ts)) λ _ _. refl

serve-gives : (s : System) (q : Request) → IfOk (serve s q) (Q q)
unfolding serve new_request move_request call_request answer_request
serve-gives s (new subject class to) =
    let f : Reference = record { table = s.table; places = s.places ++ (object (named class) (named subject) ∷ []); type = named class; place = length s.places } in
    ok-need _ (names subject s.table.subjects) unknown_subject _ λ _.
    ok-need _ (names class s.table.sheet && is_class (type_at s.table (named class))) unknown_type _ λ _.
    ok-need _ (is_sheet_ref s.table to) unknown_type _ λ _.
    ok-need _ (ltb (length s.places) max_places) places_full _ λ _.
    let crossed = cross f (named to) (named subject) in
    ok-try (λ _. Unit {0}) _ crossed _ (whatever crossed) λ g _. cell-gives (new subject class to) s (named subject) g
serve-gives s (move subject k receiver to) =
    ok-need _ (names subject s.table.subjects && names receiver s.table.subjects) unknown_subject _ λ _.
    ok-need _ (held s subject k) not_held _ λ _.
    ok-need _ (is_sheet_ref s.table to) unknown_type _ λ _.
    let crossed = cross (leaving s (named k)) (named to) (named receiver) in
    ok-try (λ _. Unit {0}) _ crossed _ (whatever crossed) λ g _. cell-gives (move subject k receiver to) s (named receiver) g
serve-gives s (call subject k m vs) =
    let c = cell_at s (named k) in let f = method_at s.table c.type (named m) in
    let sent = send_arguments s (base_owner s.places c.place) (call_layers s c) (named m) 0 f.args vs in
    ok-need _ (names subject s.table.subjects) unknown_subject _ λ _.
    ok-need _ (held s subject k) not_held _ λ _.
    ok-need _ (names m s.table.methods && is_avail f.state) not_callable _ λ _.
    ok-need _ (arguments_held s subject f.args vs) wrong_values _ λ _.
    ok-need _ (ltb (made_by (named subject) s.calls) max_calls_each) calls_full _ λ _.
    ok-try (λ _. Unit {0}) _ sent _ (whatever sent) λ _ _. tt
serve-gives s (answer subject j v) =
    let c = cell_at s (call_at s (named j)).cell in
    ok-need _ (names subject s.table.subjects) unknown_subject _ λ _.
    ok-need _ (names j (length s.calls) && eqb (named subject) (base_owner s.places c.place)) not_held _ λ _.
    ok-need _ (not (call_at s (named j)).answered) answered_already _ λ _.
    give-gives s subject j (named j) (answer_at s.table (call_at s (named j)).method c.type) v

serve-few : (s : System) → Bounded s → (q : Request) → IfOk (serve s q) (λ x. Few q x.1)
serve-few s h q = go (serve s q) (small-serve s q) (bounded-kept s h q) (serve-gives s q)
  where
    few : (s' : System) → Bounded s' → (x : Result) → Named s s' x → Given q x → Few q x
    few s' k (pair a b) (inl w) g = let p = (k.cells a w.0).place in (omega (arith, w.0, k.cell_count), omega (arith, w.1, p, k.places.count))
    few s' k (pair a b) (inr w) g = (omega (arith, w.0, bounded-calls s h), omega (arith, w.1, h.places.count))
    few s' k (number v) w g = g
    few s' k nothing w g = tt

    go : (m : Res (System × Result)) → Small (λ (x : System × Result). Named s x.0 x.1) m → Bounded (after s m) → IfOk m (Q q) → IfOk m (λ x. Few q x.1)
    go (refuse e) n k g = tt
    go (ok x) n k g = few x.0 k x.1 n g

-- ---- the line that is printed
long-is : (v : ℤ) → long v ≡ length (integer_text v)
unfolding integer_text
long-is (pos n) = refl
long-is (negsuc n) = omega arith

word-few : (key : List ℕ) (n : ℕ) → n < 1000 → length (number_text key n) ≤ length key + 3
unfolding number_text
word-few key n h = let k : length (decimal n) ≤ 3 = decimal-few n h in omega (arith, k, length-append key (decimal n))

-- the bytes of rows
abbrev size : List Row → ℕ
size rs = length (unsplit rs)

split-size : (s : List ℕ) → size (split s) ≡ length s
split-size s = ap length (unsplit-split s)

number_short : (l : List ℕ) (q : Request) (v : ℤ) → request_line l ≡ some q → Gives q v → length (outcome_text (got (number v))) ≤ length l
unfolding outcome_text
number_short l (new a b c) v e g = absurd g
number_short l (move a b c d) v e g = absurd g
number_short l (call a b c vs) v e g = absurd g
number_short l (answer a b none) v e g = absurd g
number_short l (answer a b (some w)) v e g = let k : 14 + long w ≤ length l = line-given l a b w e in
    omega (arith, k, long-is w, ap (λ z. length (integer_text z)) g, length-append (bytes "got=") (integer_text v))

line-short : (l : List ℕ) (q : Request) → request_line l ≡ some q → (s : System) → Bounded s → length (outcome_text (outcome (serve s q))) ≤ length l
unfolding outcome_text
line-short l q e s h = go (serve s q) (small-serve s q) (serve-few s h q)
  where
    k : 12 ≤ length l
    k = line-long l q e

    result : (x : Result) → Few q x → length (outcome_text (got x)) ≤ length l
    result (pair a b) w = omega (arith, k, word-few (bytes "got=") a w.0, word-few (bytes " ") b w.1, length-append (number_text (bytes "got=") a) (number_text (bytes " ") b))
    result (number v) w = number_short l q v e w
    result nothing w = omega (arith, k)

    go : (m : Res (System × Result)) → Small (λ (x : System × Result). Named s x.0 x.1) m → IfOk m (λ x. Few q x.1) → length (outcome_text (outcome m)) ≤ length l
    go (refuse n) w f = omega (arith, k, word-few (bytes "no=") n (omega (arith, w.1)))
    go (ok x) w f = result x.1 f

served-short : (rs : List Row) (s : System) → Bounded s → length (join (printed s (asked rs))) ≤ size rs + max_longer
unfolding asked run join
served-short [] s h = omega arith
served-short (cut l ∷ rs) s h = omega arith
served-short (row l ∷ rs) s h = go (request_line l) refl (λ s h. served-short rs s h)
  where
    go : (o : Option Request) → request_line l ≡ o → ((s : System) → Bounded s → length (join (printed s (asked rs))) ≤ size rs + max_longer)
        → length (join (printed s (elim o [ none ↦ ([], true) | some q ↦ (q ∷ (asked rs).0, (asked rs).1) ]))) ≤ length (l ++ 10 ∷ unsplit rs) + max_longer
    go none e ih = omega arith
    go (some q) e ih =
        let a = serve s q in let x = outcome_text (outcome a) in let r = join (printed (after s a) (asked rs)) in
        let i : length r ≤ size rs + max_longer = ih (after s a) (bounded-kept s h q) in
        let u : length x ≤ length l = line-short l q e s h in
        omega (arith, i, u, length-append x (10 ∷ r), length-append l (10 ∷ unsplit rs))

sheet-short : (p s : List ℕ) (a : SheetResult) → read p ≡ a → length (join (printed_lines a (split s))) ≤ length s + max_longer
unfolding join number_text served_lines follow
sheet-short p s (malformed n at) e = let k = refusal-number p n at e in let d = digits-few 20 0 n (omega (arith, k.1)) in
    omega (arith, d, length-append (bytes "no=") (decimal n), length-append (number_text (bytes "no=") n) (10 ∷ []))
sheet-short p s (loaded t) e = omega (arith, served-short (split s) (start t) (fits-bounded (start t) (reached-fits t (loaded-valid p t e) [])), split-size s)

abbrev out_lines : List ℕ → Bool → List (List ℕ)
out_lines s b = cond b (bytes "no=2" ∷ []) (printed_lines (read (sheet_part s)) (split (request_part s)))

read_short : (s : List ℕ) → length (join (out_lines s false)) ≤ length s + max_longer
read_short s = omega (arith, sheet-short (sheet_part s) (request_part s) (read (sheet_part s)) refl, length-drop (sheet_end s) s)

pub output-short : (s : List ℕ) → length (script_output s) ≤ length s + max_longer
unfolding script_output join
output-short s = go (ltb max_input (length s))
  where
    go : (b : Bool) → length (join (out_lines s b)) ≤ length s + max_longer
    go true = omega arith
    go false = read_short s

-- so that room for the longest input and five bytes more is enough for every input
pub output-fits : (s : List ℕ) → length (script_output s) ≤ max_input + max_longer
unfolding script_output join
output-fits s = go (ltb max_input (length s)) refl
  where
    go : (b : Bool) → ltb max_input (length s) ≡ b → length (join (out_lines s b)) ≤ max_input + max_longer
    go true e = omega arith
    go false e = let l : length s ≤ max_input = ltb-false max_input (length s) e in omega (arith, read_short s)
