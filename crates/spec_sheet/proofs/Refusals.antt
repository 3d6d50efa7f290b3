-- A sheet that is refused is refused with 1, 2 or 3, so that 0 in an answer means a table. One law for each way in which readers are put together.
use mathlib.Core.Path.{◌≡◌, subst}
use mathlib.Core.Bool.{Bool, true, false, ◌&&◌, cond}
use mathlib.Core.List.{List, [], ◌∷◌, ◌++◌}
use Prim.Native.Nat.{ℕ, zero, suc, ◌≤◌}
use native.Mathlib.Omega.{arith}
use lib.Dec.{ltb, leb}
use lib.ListN.{drop, length}
use Rattle.spec_model.specs.Basics.{Res, refuse, ok, try, need, all, unless_missing}
use Rattle.spec_model.specs.Table.{State, avail, optional, denied, unavail, Rep, ref, w32, w64, Method, Table, between, max_subjects, max_methods, max_categories, max_sheet_types, bare}
use Rattle.spec_model.specs.Refusals.{form, out_of_range, not_below}
use Rattle.spec_sheet.specs.Lines.{bytes, Row, row, cut, split, Reading, refused, got, Reader, line, line_at, follow, times, end_of_input, starts, same, keyed, choice}
use Rattle.spec_sheet.specs.Numbers.{Scan, fail, took, bind_scan, whole, number, numbers}
use Rattle.spec_sheet.specs.Text.{newest_form, rep_text, own_text, state_text, end_text}
use Rattle.spec_sheet.specs.Sheet.{number_line, under_line, rep_line, own_line, end_line, arguments, answer, signature, method_line, below, members, one_type, body, signatures_stand, ending}
use Rattle.spec_sheet.specs.Sheet.{sheet, SheetResult, malformed, loaded, sheet_result, read}

abbrev pub Number : ℕ → Type 0
Number n = (form ≤ n) × (n ≤ not_below)

-- of the answer for a line, and of a reading
abbrev Told : {A : Type 0} → Res A → Type 0
Told (refuse n) = Number n
Told (ok x) = Unit {0}

abbrev Numbered : {A : Type 0} → Reading A → Type 0
Numbered (refused n at) = Number n
Numbered (got x at rs) = Unit {0}

try-told : {A B : Type 0} (r : Res A) (k : A → Res B) → Told r → ((x : A) → Told (k x)) → Told (try r k)
try-told (refuse n) k h f = h
try-told (ok x) k h f = f x

need-told : {B : Type 0} (b : Bool) (n : ℕ) (k : Unit {0} → Res B) → Number n → Told (k tt) → Told (need b n k)
need-told true n k h f = f
need-told false n k h f = h

whole-told : {A : Type 0} (s : Scan A) → Told (whole s)
whole-told fail = (omega arith, omega arith)
whole-told (took x []) = tt
whole-told (took x (b ∷ r)) = (omega arith, omega arith)

keyed-told : (key l : List ℕ) → Told (keyed key l)
unfolding keyed
keyed-told key l = need-told (starts key l) form (λ u. ok (drop (length key) l)) (omega arith, omega arith) tt

cond-told : {A : Type 0} (b : Bool) (x y : Res A) → Told x → Told y → Told (cond b x y)
cond-told true x y h k = h
cond-told false x y h k = k

choice-told : {A : Type 0} (f : A → List ℕ) (xs : List A) (l : List ℕ) → Told (choice f xs l)
unfolding choice
choice-told f [] l = (omega arith, omega arith)
choice-told f (x ∷ xs) l = cond-told (same (f x) l) (ok x) (choice f xs l) tt (choice-told f xs l)

number-told : (key : List ℕ) (low high : ℕ) (l : List ℕ) → Told (number_line key low high l)
unfolding number_line
number-told key low high l = try-told (keyed key l) _ (keyed-told key l) λ r. try-told (whole (number r)) _ (whole-told (number r)) λ n. need-told (between low high n) out_of_range _
    (omega arith, omega arith) tt

under-told : (cats k : ℕ) (l : List ℕ) → Told (under_line cats k l)
unfolding under_line
under-told cats k l = try-told (keyed (bytes "under=") l) _ (keyed-told (bytes "under=") l) λ r. try-told (whole (numbers 2 [] r)) _ (whole-told (numbers 2 [] r)) λ links.
    need-told (all (λ n. leb n cats) links) out_of_range _ (omega arith, omega arith) (need-told (all (λ n. ltb n k) links) not_below (λ _. ok links) (omega arith, omega arith) tt)

signature-told : (n : ℕ) (s : State) (l : List ℕ) → Told (signature n s l)
unfolding signature
signature-told n s l =
    let scan : Scan Method = bind_scan (arguments l) λ xs r. bind_scan (answer r) λ o q. took (record { state = s; args = xs; answer = o }) q in
    try-told (whole scan) _ (whole-told scan) λ (m : Method). need-told (all (below n) m.args && unless_missing m.answer (below n)) out_of_range (λ _. ok m) (omega arith, omega arith) tt

method-told : (n : ℕ) (l : List ℕ) → Told (method_line n l)
unfolding method_line
method-told n l =
    let al : List ℕ = drop (length (state_text avail)) l in
    let ol : List ℕ = drop (length (state_text optional)) l in
    let u : Res Method = cond (same (state_text unavail) l) (ok (bare unavail)) (refuse form) in
    let d : Res Method = cond (same (state_text denied) l) (ok (bare denied)) u in
    let p : Res Method = cond (starts (state_text optional) l) (signature n optional ol) d in
    let ut : Told u = cond-told (same (state_text unavail) l) (ok (bare unavail)) (refuse form) tt (omega arith, omega arith) in
    let dt : Told d = cond-told (same (state_text denied) l) (ok (bare denied)) u tt ut in
    let pt : Told p = cond-told (starts (state_text optional) l) (signature n optional ol) d (signature-told n optional ol) dt in
    cond-told (starts (state_text avail) l) (signature n avail al) p (signature-told n avail al) pt

-- readers
line-numbered : {A : Type 0} (f : List ℕ → Res A) → ((l : List ℕ) → Told (f l)) → (at : ℕ) (rs : List Row) → Numbered (line f at rs)
line-numbered f h at [] = (omega arith, omega arith)
line-numbered f h at (cut l ∷ rs) = (omega arith, omega arith)
line-numbered {A} f h at (row l ∷ rs) = go (f l) (h l)
  where
    go : (r : Res A) → Told r → Numbered (line_at r at l rs)
    go (refuse n) k = k
    go (ok x) k = tt

follow-numbered : {A B : Type 0} (r : Reading A) (k : A → Reader B) → Numbered r → ((x : A) (at : ℕ) (rs : List Row) → Numbered (k x at rs)) → Numbered (follow r k)
follow-numbered (refused n at) k h f = h
follow-numbered (got x at rs) k h f = f x at rs

times-numbered : {A : Type 0} (p : ℕ → Reader A) → ((i at : ℕ) (rs : List Row) → Numbered (p i at rs)) → (n i : ℕ) (acc : List A) (at : ℕ) (rs : List Row)
    → Numbered (times p n i acc at rs)
unfolding times
times-numbered p h zero i acc at rs = tt
times-numbered p h (suc n) i acc at rs = follow-numbered (p i at rs) _ (h i at rs) (λ x at rs. times-numbered p h n (suc i) (acc ++ x ∷ []) at rs)

members-numbered : (m n : ℕ) (r : Rep) (k at : ℕ) (rs : List Row) → Numbered (members m n r k at rs)
unfolding members own_line
members-numbered m n ref k at rs = follow-numbered (line own_line at rs) _ (line-numbered own_line (choice-told own_text (true ∷ false ∷ [])) at rs) λ o at rs.
    follow-numbered (times (λ j. line (method_line n)) m 0 [] at rs) _ (times-numbered (λ j. line (method_line n)) (λ i. line-numbered (method_line n) (method-told n)) m 0 [] at rs) λ ms at rs. tt
members-numbered m n w32 k at rs = tt
members-numbered m n w64 k at rs = tt

type-numbered : (m cats n i at : ℕ) (rs : List Row) → Numbered (one_type m cats n i at rs)
unfolding one_type rep_line
type-numbered m cats n i at rs = follow-numbered (line _ at rs) _ (line-numbered _ (number-told (bytes "type=") i i) at rs) λ x at rs.
    follow-numbered (line rep_line at rs) _ (line-numbered rep_line (choice-told rep_text (ref ∷ w32 ∷ w64 ∷ [])) at rs) λ r at rs.
    follow-numbered (line _ at rs) _ (line-numbered _ (number-told (bytes "cat=") 0 cats) at rs) λ k at rs. members-numbered m n r k at rs

body-numbered : (at : ℕ) (rs : List Row) → Numbered (body at rs)
unfolding body
body-numbered at rs = follow-numbered (line (number_line (bytes "guide=") 1 newest_form) at rs) _
    (line-numbered (number_line (bytes "guide=") 1 newest_form) (number-told (bytes "guide=") 1 newest_form) at rs) λ g at rs.
    follow-numbered (line (number_line (bytes "subjects=") 1 max_subjects) at rs) _
    (line-numbered (number_line (bytes "subjects=") 1 max_subjects) (number-told (bytes "subjects=") 1 max_subjects) at rs) λ s at rs.
    follow-numbered (line (number_line (bytes "methods=") 1 max_methods) at rs) _
    (line-numbered (number_line (bytes "methods=") 1 max_methods) (number-told (bytes "methods=") 1 max_methods) at rs) λ m at rs.
    follow-numbered (line (number_line (bytes "cats=") 0 max_categories) at rs) _
    (line-numbered (number_line (bytes "cats=") 0 max_categories) (number-told (bytes "cats=") 0 max_categories) at rs) λ cats at rs.
    follow-numbered (times (λ k. line (under_line cats k)) cats 1 [] at rs) _
    (times-numbered (λ k. line (under_line cats k)) (λ k. line-numbered (under_line cats k) (under-told cats k)) cats 1 [] at rs) λ links at rs.
    follow-numbered (line (number_line (bytes "types=") 1 max_sheet_types) at rs) _
    (line-numbered (number_line (bytes "types=") 1 max_sheet_types) (number-told (bytes "types=") 1 max_sheet_types) at rs) λ n at rs.
    follow-numbered (times (one_type m cats n) n 0 [] at rs) _ (times-numbered (one_type m cats n) (type-numbered m cats n) n 0 [] at rs) λ ts at rs. tt

ending-numbered : (t : Table) (at : ℕ) (rs : List Row) → Numbered (ending t at rs)
unfolding ending end_line
ending-numbered t last rs = follow-numbered (line end_line last rs) _ (line-numbered end_line (choice-told (λ u. end_text) (tt ∷ [])) last rs) λ u at rs.
    follow-numbered (end_of_input at rs) _ (nothing_left at rs) λ u at rs. own (signatures_stand t) at rs
  where
    nothing_left : (at : ℕ) (rs : List Row) → Numbered (end_of_input at rs)
    nothing_left at [] = tt
    nothing_left at (r ∷ rs) = (omega arith, omega arith)

    own : (b : Bool) (at : ℕ) (rs : List Row) → Numbered (cond b (got t at rs) (refused not_below last))
    own true at rs = tt
    own false at rs = (omega arith, omega arith)

abbrev NumberedResult : SheetResult → Type 0
NumberedResult (malformed n at) = Number n
NumberedResult (loaded t) = Unit {0}

read-numbered : (bs : List ℕ) → NumberedResult (read bs)
unfolding read sheet
read-numbered bs = go (sheet 0 (split bs)) (follow-numbered (body 0 (split bs)) ending (body-numbered 0 (split bs)) ending-numbered)
  where
    go : (r : Reading Table) → Numbered r → NumberedResult (sheet_result r)
    go (refused n at) h = h
    go (got t at rs) h = tt

-- the number of a refusal
pub refusal-number : (bs : List ℕ) (n at : ℕ) → read bs ≡ malformed n at → Number n
refusal-number bs n at e = subst NumberedResult e (read-numbered bs)
