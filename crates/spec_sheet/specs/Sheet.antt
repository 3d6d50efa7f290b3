-- The reader's result for every string of bytes (S). In each kind of line the tests for 1 come first, then those for 2, then those for 3, each over the whole line (S5).
use Rattle.std.specs.Prelude.{Bool, true, false, ◌&&◌, cond, List, [], ◌∷◌, ℕ, eqb, ltb, leb, length, drop}
use Rattle.std.proofs.Math.Option.{Option, none, some}
use Prim.Native.Char.{code}
use Rattle.spec_model.specs.Basics.{Res, refuse, ok, try, need, all, unless_missing}
use Rattle.spec_model.specs.Table.{State, denied, optional, avail, unavail, Rep, ref, w32, w64, Method, Ty, Table, type_at, between, may_stand, max_subjects, max_methods, max_categories}
use Rattle.spec_model.specs.Table.{max_sheet_types, max_arguments, bare, max_broader}
use Rattle.spec_model.specs.Refusals.{form, out_of_range, not_below}
use Rattle.spec_sheet.specs.Lines.{bytes, split, Reading, refused, got, Reader, pure, line, bind, times, end_of_input, starts, same, keyed, choice}
use Rattle.spec_sheet.specs.Numbers.{Scan, fail, took, bind_scan, whole, number, numbers}
use Rattle.spec_sheet.specs.Text.{newest_form, rep_text, own_text, state_text, end_text}

-- A line of a key and one number, which has a range (S29). A `guide=` number that isn't known is outside of it too (S1).
unfoldable pub number_line : List ℕ → ℕ → ℕ → List ℕ → Res ℕ
unfolding keyed number
number_line key low high l = try (keyed key l) λ r. try (whole (number r)) λ n. need (between low high n) out_of_range λ _. ok n

-- The line of category k of cats (S24): a number above the last category is 2, one that is not below k is 3 (S12).
unfoldable pub under_line : ℕ → ℕ → List ℕ → Res (List ℕ)
unfolding keyed numbers
under_line cats k l = try (keyed (bytes "under=") l) λ r. try (whole (numbers max_broader [] r)) λ links. need (all (λ n. leb n cats) links) out_of_range λ _. need (all (λ n. ltb n k) links) not_below λ _. ok links

-- one of three words (S25); another is 1 (S28)
unfoldable pub rep_line : List ℕ → Res Rep
unfolding choice
rep_line = choice rep_text (ref ∷ w32 ∷ w64 ∷ [])

-- one of two words (S25)
unfoldable pub own_line : List ℕ → Res Bool
unfolding choice
own_line = choice own_text (true ∷ false ∷ [])

-- the last line (S22)
unfoldable pub end_line : List ℕ → Res (Unit {0})
unfolding choice
end_line = choice (λ u. end_text) (tt ∷ [])

-- The arguments of a signature, up to the bracket that closes them (S26). One too many is a fault of form (S11).
abbrev pub closing : List ℕ → List ℕ → Scan (List ℕ)
closing xs [] = fail
closing xs (b ∷ r) = cond (eqb b (code ")")) (took xs r) fail

unfoldable pub arguments : List ℕ → Scan (List ℕ)
unfolding numbers
arguments [] = fail
arguments (b ∷ bs) = cond (eqb b (code ")")) (took [] bs) (bind_scan (numbers max_arguments [] (b ∷ bs)) closing)

-- the answer: a number, or the mark for none (S26)
unfoldable pub answer : List ℕ → Scan (Option ℕ)
unfolding number
answer [] = fail
answer (b ∷ bs) = cond (eqb b (code "-")) (took none bs) (bind_scan (number (b ∷ bs)) (λ n r. took (some n) r))

-- one of n types
abbrev pub below : ℕ → ℕ → Bool
below n a = ltb a n

-- a signature behind its state; a type number that isn't below n is 2 (S27, S29)
unfoldable pub signature : ℕ → State → List ℕ → Res Method
unfolding arguments answer
signature n s l = try (whole (bind_scan (arguments l) λ xs r. bind_scan (answer r) λ o q. took (record { state = s; args = xs; answer = o }) q))
    λ (m : Method). need (all (below n) m.args && unless_missing m.answer (below n)) out_of_range λ _. ok m

-- the line of one method (S26)
unfoldable pub method_line : ℕ → List ℕ → Res Method
unfolding signature starts
method_line n l = cond (starts (state_text avail) l) (signature n avail (drop (length (state_text avail)) l))
    (cond (starts (state_text optional) l) (signature n optional (drop (length (state_text optional)) l))
    (cond (same (state_text denied) l) (ok (bare denied))
    (cond (same (state_text unavail) l) (ok (bare unavail)) (refuse form))))

-- a type of the sheet, which has no key (T17)
abbrev pub sheet_type : Rep → ℕ → Bool → List Method → Ty
sheet_type r k o ms = record { rep = r; cat = k; own = o; methods = ms; key = none }

-- What stands behind the `cat=` line (S25); for a number type nothing does. m methods, n types.
unfoldable pub members : ℕ → ℕ → Rep → ℕ → Reader Ty
unfolding times own_line method_line
members m n ref k = bind (line own_line) λ o. bind (times (λ j. line (method_line n)) m 0 []) λ ms. pure (sheet_type ref k o ms)
members m n w32 k = pure (sheet_type w32 k false [])
members m n w64 k = pure (sheet_type w64 k false [])

-- The block of type i (S25), which has its own number in front (S30). m methods, cats categories, n types.
unfoldable pub one_type : ℕ → ℕ → ℕ → ℕ → Reader Ty
unfolding number_line rep_line members
one_type m cats n i = bind (line (number_line (bytes "type=") i i)) λ x. bind (line rep_line) λ r. bind (line (number_line (bytes "cat=") 0 cats)) λ k. members m n r k

-- all lines but the last, in their order (S22), with the ranges of their counts (S23)
unfoldable pub body : Reader Table
unfolding number_line under_line times one_type
body = bind (line (number_line (bytes "guide=") 1 newest_form)) λ g.
    bind (line (number_line (bytes "subjects=") 1 max_subjects)) λ s.
    bind (line (number_line (bytes "methods=") 1 max_methods)) λ m.
    bind (line (number_line (bytes "cats=") 0 max_categories)) λ cats.
    bind (times (λ k. line (under_line cats k)) cats 1 []) λ links.
    bind (line (number_line (bytes "types=") 1 max_sheet_types)) λ n.
    bind (times (one_type m cats n) n 0 []) λ ts.
    pure (record { subjects = s; methods = m; cats = links; sheet = n; types = ts })

-- the types of a method's signature are among those that may stand in one
abbrev pub stands : (ℕ → Bool) → Method → Bool
stands may m = all may m.args && unless_missing m.answer may

-- every type in a signature of the table may stand in one (the model's `may_stand`, T14)
unfoldable pub signatures_stand : Table → Bool
signatures_stand t = all (λ (x : Ty). all (stands (λ a. may_stand (type_at t a))) x.methods) t.types

-- The last line, and nothing behind it (S10). Only where no line is wrong are the signatures tested: 3 at the last line where a type stands in one that may not (S6, S13).
unfoldable pub ending : Table → Reader Table
unfolding end_line signatures_stand
ending t last = bind (line end_line) (λ u. bind end_of_input λ u at rs. cond (signatures_stand t) (got t at rs) (refused not_below last)) last

-- the whole sheet
unfoldable pub sheet : Reader Table
unfolding body ending
sheet = bind body ending

-- The reader's result: a table, or the number of a refusal and the byte offset of the line.
pub data SheetResult : Type 0 where
  malformed : ℕ → ℕ → SheetResult
  loaded : Table → SheetResult

abbrev pub sheet_result : Reading Table → SheetResult
sheet_result (refused n at) = malformed n at
sheet_result (got t at rs) = loaded t

-- sheet read, for every string of bytes
unfoldable pub read : List ℕ → SheetResult
unfolding sheet split
read bs = sheet_result (sheet 0 (split bs))
