-- Laws of readings: one reader behind another, several in a row, the lines of a type, and what the code's answers say of them.
use Rattle.std.specs.Prelude.{Result, Ok, Err, IfOk}
use mathlib.Core.Path.{◌≡◌, refl, sym, ap, ◌∙◌, subst}
use mathlib.Core.Bool.{Bool, false}
use mathlib.Core.List.{List, [], ◌∷◌, ◌++◌}
use Prim.Native.Nat.{ℕ, zero, suc, ◌+◌, ◌-◌, ◌≤◌, ◌<◌}
use native.Mathlib.Omega.{arith}
use lib.ListN.{drop}
use Rattle.spec_model.specs.Table.{ref, Ty, Rep, Method}
use Rattle.spec_model.specs.Check.{rep_of}
use Rattle.spec_sheet.specs.Lines.{bytes, Row, split, Reading, refused, got, Reader, pure, line, follow, bind, times}
use Rattle.spec_sheet.specs.Sheet.{number_line, rep_line, own_line, sheet_type, members, one_type}
use Rattle.base_numbers.specs.Refusal.{number_of}
use Rattle.text_read.specs.View.{reading_by}
use Rattle.text_read.specs.declared.Malformed.{Malformed}
use Rattle.text_cursor.specs.declared.Cursor.{Cursor}
use Rattle.sheet_read_type.specs.View.{each_method, members_read}

-- What the cases of a result say.
module _ {T A : Type 0} (f : T → A) (s : List ℕ) (r : Result (T × Cursor) Malformed) (R : Reading A) (is : reading_by f s r ≡ R) where
  pub read_no : (e : Malformed) → r ≡ Err e → refused (number_of e.refusal) e.at ≡ R
  read_no e w = ap (reading_by f s) (sym w) ∙ is

  pub read_ok : (x : T) (c : Cursor) → r ≡ Ok (x, c) → got (f x) c.at (split (drop c.at s)) ≡ R
  read_ok x c w = ap (reading_by f s) (sym w) ∙ is

pub ok_has : {T : Type 0} (P : T × Cursor → Type 0) (r : Result (T × Cursor) Malformed) (x : T) (c : Cursor) → r ≡ Ok (x, c) → IfOk r P → P (x, c)
ok_has P r x c w h = subst (λ z. IfOk z P) w h

-- One reader behind another, k, where both come to S: the step of every line.
module _ {A B : Type 0} {R : Reading A} {S : Reading B} (k : A → Reader B) (whole : follow R k ≡ S) where
  pub step-no : {n at : ℕ} → refused n at ≡ R → refused n at ≡ S
  step-no e = ap (λ z. follow z k) e ∙ whole

  pub step_ok : {x : A} {at : ℕ} {rs : List Row} → got x at rs ≡ R → k x at rs ≡ S
  step_ok e = ap (λ z. follow z k) e ∙ whole

-- Several in a row: j of n are read, the next has number i.
module _ {A : Type 0} (p : ℕ → Reader A) (n j i : ℕ) (acc : List A) (at : ℕ) (rs : List Row) (R : Reading (List A)) (inv : times p (n - j) i acc at rs ≡ R) where
  pub times-done : n ≤ j → got acc at rs ≡ R
  unfolding times
  times-done h = let e : n - j ≡ 0 = omega arith in ap (λ z. times p z i acc at rs) (sym e) ∙ inv

  module _ (h : j < n) where
    one_more : follow (p i at rs) (λ x. times p (n - (j + 1)) (suc i) (acc ++ x ∷ [])) ≡ R
    unfolding times
    one_more = let e : n - j ≡ suc (n - (j + 1)) = omega arith in ap (λ z. times p z i acc at rs) (sym e) ∙ inv

    pub times-stop : (k a : ℕ) → refused k a ≡ p i at rs → refused k a ≡ R
    times-stop k a e = ap (λ z. follow z (λ x. times p (n - (j + 1)) (suc i) (acc ++ x ∷ []))) e ∙ one_more

    pub times-next : (x : A) (a : ℕ) (q : List Row) (i' : ℕ) (acc' : List A) → got x a q ≡ p i at rs → i' ≡ suc i → acc' ≡ acc ++ x ∷ []
        → times p (n - (j + 1)) i' acc' a q ≡ R
    times-next x a q i' acc' e f g =
        ap (λ z. times p (n - (j + 1)) z acc' a q) f ∙ ap (λ z. times p (n - (j + 1)) (suc i) z a q) g
        ∙ ap (λ z. follow z (λ x. times p (n - (j + 1)) (suc i) (acc ++ x ∷ []))) e ∙ one_more

-- A type's lines, and those of a reference type.
abbrev pub after_rep : ℕ → ℕ → ℕ → Rep → Reader Ty
after_rep m c n r = bind (line (number_line (bytes "cat=") 0 c)) (members m n r)

abbrev pub after_number : ℕ → ℕ → ℕ → ℕ → Reader Ty
after_number m c n x = bind (line rep_line) (after_rep m c n)

pub type-of : (m c n i at : ℕ) (rs : List Row) → follow (line (number_line (bytes "type=") i i) at rs) (after_number m c n) ≡ one_type m c n i at rs
unfolding one_type
type-of m c n i at rs = refl

abbrev pub after_methods : ℕ → Bool → List Method → Reader Ty
after_methods c o ms = pure (sheet_type ref c o ms)

abbrev pub after_own : ℕ → ℕ → ℕ → Bool → Reader Ty
after_own m n c o = bind (times (each_method n) m 0 []) (after_methods c o)

pub members-of : (m n c at : ℕ) (rs : List Row) → follow (line own_line at rs) (after_own m n c) ≡ members_read m n c at rs
unfolding members_read
members-of m n c at rs = refl

pub members-ref : (m n r c at : ℕ) (rs : List Row) → r ≡ 0 → members_read m n c at rs ≡ members m n (rep_of r) c at rs
unfolding members_read members
members-ref m n r c at rs e = ap (λ (z : ℕ). members m n (rep_of z) c at rs) (sym e)

pub members-number : (m n r c at : ℕ) (rs : List Row) → (r ≡ 0 → ⊥) → got (sheet_type (rep_of r) c false []) at rs ≡ members m n (rep_of r) c at rs
unfolding members
members-number m n zero c at rs h = absurd (h refl)
members-number m n (suc zero) c at rs h = refl
members-number m n (suc (suc r)) c at rs h = refl
