-- Laws of readings: the groups of a sheet's lines, and what the code's answers say of them.
use Rattle.std.specs.Prelude.{Result, Ok, Err, OnOk}
use mathlib.Core.Path.{◌≡◌, refl, sym, ap, ◌∙◌, subst}
use mathlib.Core.Bool.{Bool, true, false, cond}
use mathlib.Core.List.{List, [], ◌∷◌}
use Prim.Native.Nat.{ℕ, ◌+◌, ◌≤◌, ◌<◌}
use lib.Dec.{eqb}
use lib.ListN.{length, get_or, drop}
use Rattle.spec_model.specs.Table.{Ty, Table, max_subjects, max_methods, max_categories, max_sheet_types}
use Rattle.spec_model.specs.Refusals.{form, not_below}
use Rattle.spec_sheet.specs.Lines.{bytes, Row, row, cut, push, split, Reading, refused, got, Reader, pure, line, follow, bind, times, end_of_input}
use Rattle.spec_sheet.specs.Text.{newest_form}
use Rattle.spec_sheet.specs.Sheet.{number_line, end_line, one_type, body, signatures_stand, ending, sheet, sheet_result, malformed, read}
use Rattle.text_read.proofs.Laws.{from-here, at-end}
use Rattle.text_cursor.specs.declared.Cursor.{Cursor}
use Rattle.base_numbers.specs.Refusal.{number_of}
use Rattle.text_read.specs.declared.Malformed.{Malformed}
use Rattle.sheet_read_type.proofs.Readings.{step-no, step_ok}
use Rattle.sheet_read_type.specs.View.{done_by}
use Rattle.sheet_read.specs.declared.Front.{Front}
use Rattle.sheet_read.specs.View.{each_under, first₁, first, after_count, after_cats, after_first}

-- What the cases of a result say.
module _ {A : Type 0} (s : List ℕ) (x : A) (r : Result Cursor Malformed) (R : Reading A) (is : done_by s x r ≡ R) where
  pub done-no : (e : Malformed) → r ≡ Err e → refused (number_of e.refusal) e.at ≡ R
  done-no e w = ap (done_by s x) (sym w) ∙ is

  pub done_ok : (c : Cursor) → r ≡ Ok c → got x c.at (split (drop c.at s)) ≡ R
  done_ok c w = ap (done_by s x) (sym w) ∙ is

pub on-done : (r : Result Cursor Malformed) (c : Cursor) (P : Type 0) → r ≡ Ok c → OnOk r P → P
on-done r c P w h = subst (λ z. OnOk z P) w h

-- two readers as one
pub regroup : {A B C : Type 0} (R : Reading A) (k : A → Reader B) (e : B → Reader C) (f : A → Reader C) → ((x : A) (at : ℕ) (rs : List Row) → f x at rs ≡ follow (k x at rs) e)
    → follow R f ≡ follow (follow R k) e
regroup (refused n at) k e f h = refl
regroup (got x at rs) k e f h = h x at rs

-- The first four lines, and the whole sheet behind them.
abbrev pub after_cats_line : ℕ → ℕ → ℕ → Reader Front
after_cats_line s m c = pure (record { subjects = s; methods = m; cats = c })

abbrev pub after_methods_line : ℕ → ℕ → Reader Front
after_methods_line s m = bind (line (number_line (bytes "cats=") 0 max_categories)) (after_cats_line s m)

abbrev pub after_subjects_line : ℕ → Reader Front
after_subjects_line s = bind (line (number_line (bytes "methods=") 1 max_methods)) (after_methods_line s)

pub first_of : (at : ℕ) (rs : List Row) → follow (line (number_line (bytes "guide=") 1 newest_form) at rs) first₁ ≡ first at rs
unfolding first
first_of at rs = refl

pub first_body : (at : ℕ) (rs : List Row) → body at rs ≡ follow (first at rs) after_first
unfolding body first after_first after_cats after_count
first_body at rs =
    regroup (line (number_line (bytes "guide=") 1 newest_form) at rs) first₁ after_first _
    (λ g at rs. regroup (line (number_line (bytes "subjects=") 1 max_subjects) at rs) _ after_first _
    (λ s at rs. regroup (line (number_line (bytes "methods=") 1 max_methods) at rs) _ after_first _
    (λ m at rs. regroup (line (number_line (bytes "cats=") 0 max_categories) at rs) _ after_first _ (λ c at rs. refl))))

sheet-of : (s : List ℕ) → sheet_result (follow (follow (first 0 (split s)) after_first) ending) ≡ read s
unfolding read sheet
sheet-of s = ap (λ z. sheet_result (follow z ending)) (sym (first_body 0 (split s)))

-- The whole sheet is its first lines and what follows them, put together again.
module _ (s : List ℕ) where
  pub first-no : (k a : ℕ) → refused k a ≡ first 0 (split s) → malformed k a ≡ read s
  first-no k a e = ap (λ z. sheet_result (follow (follow z after_first) ending)) e ∙ sheet-of s

  pub first-ok : (h : Front) (at : ℕ) (rs : List Row) → got h at rs ≡ first 0 (split s) → sheet_result (bind (after_first h) ending at rs) ≡ read s
  first-ok h at rs e = ap (λ z. sheet_result (follow (follow z after_first) ending)) e ∙ sheet-of s

-- The groups of lines behind the first four.
module _ (h : Front) (at : ℕ) (rs : List Row) where
  all_of : follow (follow (times (each_under h.cats) h.cats 1 [] at rs) (after_cats h)) ending ≡ bind (after_first h) ending at rs
  unfolding after_first
  all_of = refl

  pub links-no : (k a : ℕ) → refused k a ≡ times (each_under h.cats) h.cats 1 [] at rs → refused k a ≡ bind (after_first h) ending at rs
  links-no k a e = ap (λ z. follow (follow z (after_cats h)) ending) e ∙ all_of

  module _ (links : List (List ℕ)) (at₁ : ℕ) (rs₁ : List Row) (e₁ : got links at₁ rs₁ ≡ times (each_under h.cats) h.cats 1 [] at rs) where
    to-count : follow (follow (line (number_line (bytes "types=") 1 max_sheet_types) at₁ rs₁) (after_count h links)) ending ≡ bind (after_first h) ending at rs
    unfolding after_cats
    to-count = ap (λ z. follow (follow z (after_cats h)) ending) e₁ ∙ all_of

    pub count_no : (k a : ℕ) → refused k a ≡ line (number_line (bytes "types=") 1 max_sheet_types) at₁ rs₁ → refused k a ≡ bind (after_first h) ending at rs
    count_no k a e = ap (λ z. follow (follow z (after_count h links)) ending) e ∙ to-count

    pub count-ok : (n at₂ : ℕ) (rs₂ : List Row) → got n at₂ rs₂ ≡ line (number_line (bytes "types=") 1 max_sheet_types) at₁ rs₁
        → bind (after_count h links n) ending at₂ rs₂ ≡ bind (after_first h) ending at rs
    count-ok n at₂ rs₂ e = ap (λ z. follow (follow z (after_count h links)) ending) e ∙ to-count

-- the table that is read
abbrev pub table_with : Front → List (List ℕ) → ℕ → List Ty → Table
table_with h links n ts = record { subjects = h.subjects; methods = h.methods; cats = links; sheet = n; types = ts }

-- the types and the last line
module _ (h : Front) (links : List (List ℕ)) (n at : ℕ) (rs : List Row) where
  tabled : List Ty → Reader Table
  tabled ts = pure (table_with h links n ts)

  count_of : follow (follow (times (one_type h.methods h.cats n) n 0 [] at rs) tabled) ending ≡ bind (after_count h links n) ending at rs
  unfolding after_count tabled
  count_of = refl

  pub types-no : (k a : ℕ) → refused k a ≡ times (one_type h.methods h.cats n) n 0 [] at rs → refused k a ≡ bind (after_count h links n) ending at rs
  types-no k a e = ap (λ z. follow (follow z tabled) ending) e ∙ count_of

  pub to-ending : (ts : List Ty) (at₁ : ℕ) (rs₁ : List Row) → got ts at₁ rs₁ ≡ times (one_type h.methods h.cats n) n 0 [] at rs
      → ending (table_with h links n ts) at₁ rs₁ ≡ bind (after_count h links n) ending at rs
  unfolding tabled
  to-ending ts at₁ rs₁ e = ap (λ z. follow (follow z tabled) ending) e ∙ count_of

-- The last line: bytes that are left make a row
push-some : (at b : ℕ) (rs : List Row) → end_of_input at (push b rs) ≡ refused form at
push-some at b [] = refl
push-some at b (row l ∷ rs) = refl
push-some at b (cut l ∷ rs) = refl

more_left : (at b : ℕ) (l : List ℕ) → end_of_input at (split (b ∷ l)) ≡ refused form at
unfolding split
more_left at b l = go (eqb b 10)
  where
    go : (t : Bool) → end_of_input at (cond t (row [] ∷ split l) (push b (split l))) ≡ refused form at
    go true = refl
    go false = push-some at b (split l)

module _ (t : Table) (s : List ℕ) (last : ℕ) where
  after-end_of_input : Unit {0} → Reader Table
  unfolding signatures_stand
  after-end_of_input u at rs = cond (signatures_stand t) (got t at rs) (refused not_below last)

  after-end : Unit {0} → Reader Table
  unfolding after-end_of_input
  after-end u = bind end_of_input after-end_of_input

  ending_of : follow (line end_line last (split (drop last s))) after-end ≡ ending t last (split (drop last s))
  unfolding ending after-end after-end_of_input
  ending_of = refl

  pub ending-no : (k a : ℕ) → refused k a ≡ line end_line last (split (drop last s)) → refused k a ≡ ending t last (split (drop last s))
  ending-no k a e = step-no after-end ending_of e

  module _ (a : ℕ) (e : got tt a (split (drop a s)) ≡ line end_line last (split (drop last s))) where
    to-end_of_input : follow (end_of_input a (split (drop a s))) after-end_of_input ≡ ending t last (split (drop last s))
    unfolding after-end
    to-end_of_input = step_ok after-end ending_of e

    pub ending-more : a < length s → refused form a ≡ ending t last (split (drop last s))
    ending-more h = step-no after-end_of_input to-end_of_input (sym (ap (λ z. end_of_input a (split z)) (from-here s a h) ∙ more_left a (get_or s a 0) (drop (a + 1) s)))

    module _ (h : length s ≤ a) where
      alone : cond (signatures_stand t) (got t a (split (drop a s))) (refused not_below last) ≡ ending t last (split (drop last s))
      unfolding after-end_of_input split
      alone =
          ap (λ z. cond (signatures_stand t) (got t a (split z)) (refused not_below last)) (at-end s a h)
          ∙ ap (λ z. follow (end_of_input a (split z)) after-end_of_input) (sym (at-end s a h)) ∙ to-end_of_input

      pub ending-own : signatures_stand t ≡ false → refused not_below last ≡ ending t last (split (drop last s))
      ending-own q = ap (λ z. cond z (got t a (split (drop a s))) (refused not_below last)) (sym q) ∙ alone

      pub ending-good : signatures_stand t ≡ true → got t a (split (drop a s)) ≡ ending t last (split (drop last s))
      ending-good q = ap (λ z. cond z (got t a (split (drop a s))) (refused not_below last)) (sym q) ∙ alone
