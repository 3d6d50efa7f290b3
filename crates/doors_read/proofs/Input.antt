-- The three lines put together: what is left to read behind each of them. That no refusal is any other than that of the form is shown of the definition (`input-form`).
use mathlib.Core.Path.{◌≡◌, refl, ap, sym, ◌∙◌, subst}
use mathlib.Core.List.{List, [], ◌∷◌}
use Prim.Native.Nat.{ℕ, ◌≤◌, ◌<◌}
use native.Mathlib.Omega.{arith}
use lib.ListN.{length, drop, length-drop}
use Rattle.spec_model.specs.Refusals.{form}
use Rattle.spec_sheet.specs.Lines.{bytes, Row, split, Reading, refused, Reader, pure, line, follow, bind, end_of_input}
use Rattle.spec_sheet.specs.Numbers.{top}
use Rattle.spec_sheet.specs.Sheet.{number_line}
use Rattle.spec_sheet.proofs.Lines.{unsplit, unsplit-split}
use Rattle.spec_doors.specs.Input.{times_line, Input, input_lines}
use Rattle.spec_doors.proofs.Forms.{input-form}
use Rattle.text_cursor.specs.declared.Cursor.{Cursor}
use Rattle.text_read.specs.View.{reading_by}
use Rattle.text_read.specs.declared.Malformed.{Malformed}
use Rattle.base_numbers.specs.Refusal.{number_of}
use Rattle.std.specs.Prelude.{Option, Some, None, Result, Ok, Err}
use Rattle.std.specs.Result.{result_ok}
use Rattle.text_read.proofs.Laws.{at-end}
use Rattle.doors_read.specs.View.{Stored, Gives, LineRead, Whole}

-- ---- What is left behind the arrivals, behind the marks and behind the tolerance.
abbrev pub behind_arrivals : ℕ → List ℕ → List ℕ → Reader Input
behind_arrivals w ms xs = bind end_of_input λ _. pure (record { within = w; marks = ms; arrivals = xs })

abbrev pub behind_marks : ℕ → List ℕ → Reader Input
behind_marks w ms = bind (line times_line) (behind_arrivals w ms)

abbrev pub behind_tolerance : ℕ → Reader Input
behind_tolerance w = bind (line times_line) (behind_marks w)

-- some line is refused, the form being wrong
abbrev pub FormWrong : Reading Input → Type 0
FormWrong R = (at : ℕ) × (R ≡ refused form at)

module _ (s : List ℕ) (c : Cursor) (g : Result (ℕ × Cursor) Malformed) (z : c.at ≡ 0)
    (e : reading_by (λ n. n) s g ≡ line (number_line (bytes "within=") 0 top) c.at (split (drop c.at s))) where
  first-line : input_lines 0 (split s) ≡ follow (reading_by (λ n. n) s g) behind_tolerance
  unfolding input_lines
  first-line = sym (ap (λ R. follow R behind_tolerance) e ∙ ap (λ (a : ℕ). follow (line (number_line (bytes "within=") 0 top) a (split (drop a s))) behind_tolerance) z)

  pub no-tolerance : None ≡ result_ok g → FormWrong (input_lines 0 (split s))
  no-tolerance n = go g refl n
    where
      go : (r : Result (ℕ × Cursor) Malformed) → g ≡ r → None ≡ result_ok r → FormWrong (input_lines 0 (split s))
      go (Ok p) q n = cc
      go (Err k) q n =
          let r : input_lines 0 (split s) ≡ refused (number_of k.refusal) k.at = first-line ∙ ap (λ g. follow (reading_by (λ n. n) s g) behind_tolerance) q in
          (k.at, r ∙ ap (λ (n : ℕ). refused n k.at) (rw r at (input-form 0 (split s))))

  pub tolerance : (p : ℕ × Cursor) → g ≡ Ok p → input_lines 0 (split s) ≡ behind_tolerance p.0 p.1.at (split (drop p.1.at s))
  tolerance p q = first-line ∙ ap (λ g. follow (reading_by (λ n. n) s g) behind_tolerance) q

-- a line of times, behind which k goes on
module _ (R : Reading Input) (s : List ℕ) (at : ℕ) (k : List ℕ → Reader Input) (e : R ≡ bind (line times_line) k at (split (drop at s)))
    (items : List ℕ) (x : Option (ℕ × Cursor)) (h : LineRead (line times_line at (split (drop at s))) s at items x) where
  pub no-times : x ≡ None → FormWrong R
  no-times q = (at, e ∙ ap (λ M. follow M k) (subst (LineRead (line times_line at (split (drop at s))) s at items) q h))

  pub times : (p : ℕ × Cursor) → x ≡ Some p → Gives R (λ xs. k xs p.1.at (split (drop p.1.at s))) items p.0
  times p q = let g : LineRead (line times_line at (split (drop at s))) s at items (Some p) = subst (LineRead (line times_line at (split (drop at s))) s at items) q h in
      record { times = g.times; is = e ∙ ap (λ M. follow M k) g.is; stored = g.stored }

-- ---- The end.
left_over : (at : ℕ) (l : List ℕ) → 0 < length l → end_of_input at (split l) ≡ refused form at
left_over at l h = go (split l) refl
  where
    go : (rs : List Row) → split l ≡ rs → end_of_input at rs ≡ refused form at
    go [] e = let n : length l ≡ 0 = ap length (sym (unsplit-split l) ∙ ap unsplit e) in absurd (omega arith)
    go (r ∷ rs) e = refl

module _ (R : Reading Input) (s : List ℕ) (w : ℕ) (ms marks : List ℕ) (m : ℕ) (p : Stored ms marks m) (arrivals : List ℕ) (n at : ℕ)
    (q : Gives R (λ xs. behind_arrivals w ms xs at (split (drop at s))) arrivals n) where
  pub more_left : at < length s → FormWrong R
  more_left h = (at, q.is ∙ rw (left_over at (drop at s) (omega (arith, length-drop at s))))

  pub all_read : length s ≤ at → Whole R marks arrivals w m n
  unfolding split
  all_read h = record {
    input = record { within = w; marks = ms; arrivals = q.times };
    at = at;
    is = q.is ∙ rw (at-end s at h);
    within = refl;
    marks = p;
    arrivals = q.stored;
  }
