-- Which line the offset of a refused sheet names (docs/SPEC.md, S6 to S10, S13, S31).
use mathlib.Core.Path.{◌≡◌, refl, ap, sym, subst, ◌∙◌}
use mathlib.Core.Bool.{Bool, true, false, cond}
use mathlib.Core.List.{List, [], ◌∷◌, ◌++◌}
use Prim.Native.Nat.{ℕ, ◌+◌, ◌≤◌}
use native.Mathlib.Omega.{arith}
use lib.ListN.{length, length-append}
use Rattle.spec_model.specs.Basics.{Res, refuse, ok}
use Rattle.spec_model.specs.Table.{Table}
use Rattle.spec_model.specs.Refusals.{form, not_below}
use Rattle.spec_sheet.specs.Lines.{Row, row, cut, split, join, Reading, refused, got, line_at, line, follow}
use Rattle.spec_sheet.specs.Text.{end_text}
use Rattle.spec_sheet.specs.Sheet.{end_line, body, signatures_stand, ending, sheet, malformed, sheet_result, read}
use Rattle.spec_sheet.proofs.Lines.{rows}
use Rattle.spec_sheet.proofs.LineKinds.{end-exact}
use Rattle.spec_sheet.proofs.Exact.{behind_end}
use Rattle.law_rules.proofs.Readers.{NotBefore, Took, Wrong, missing, unended, at_fault, Stopped, Came, follow-later, wrong-on, goes_on, both-passed, both-offset, second, body-local}

-- What is wrong behind the lines ls of a sheet refused with n at offset k.
pub data SheetWrong (ls : List (List ℕ)) (rest : List Row) (n k : ℕ) : Type 0 where
  -- S6 to S9: the line there, of which all is said in Wrong
  of_line : Wrong sheet 0 ls rest n k → SheetWrong ls rest n k
  -- S10: something stands behind the last line, whatever it is
  extra : n ≡ form → (r : Row) (qs : List Row) → rest ≡ r ∷ qs → ((r : Row) (qs : List Row) → sheet 0 (rows ls ++ (r ∷ qs)) ≡ refused form k) → SheetWrong ls rest n k
  -- S13: every line is right, and the offset is the last line's
  own : n ≡ not_below → rest ≡ row end_text ∷ [] → SheetWrong ls rest n k

-- S31. The offset is behind whole lines, which are right: no sheet that goes on behind them is refused in front of it. What stands there is wrong.
pub record RefusedLine (rs : List Row) (n k : ℕ) : Type 0 where
  pub lines : List (List ℕ)
  pub rest : List Row
  pub passed : rs ≡ rows lines ++ rest
  pub offset : k ≡ length (join lines)
  pub right : (r : Row) (qs : List Row) → NotBefore k (sheet 0 (rows lines ++ (r ∷ qs)))
  pub wrong : SheetWrong lines rest n k

of-line : (rs : List Row) (n k : ℕ) → Stopped sheet 0 rs n k → RefusedLine rs n k
of-line rs n k w =
    record {
      lines = w.lines;
      rest = w.rest;
      passed = w.passed;
      offset = let e : k ≡ 0 + length (join w.lines) = w.offset in omega arith;
      right = λ r qs. w.right (r ∷ qs);
      wrong = of_line w.wrong;
    }

abbrev OfSheet : List Row → Reading Table → Type 0
OfSheet rs (refused n k) = RefusedLine rs n k
OfSheet rs (got t k rest) = Unit {0}

ending-later : (t : Table) (last : ℕ) (rs : List Row) → NotBefore last (ending t last rs)
unfolding ending
ending-later t last [] = omega arith
ending-later t last (cut l ∷ qs) = omega arith
ending-later t last (row l ∷ qs) = go (end_line l)
  where
    own : (b : Bool) (a : ℕ) → last ≤ a → NotBefore last (cond b (got t a []) (refused not_below last))
    own true a h = h
    own false a h = omega arith

    behind : (a : ℕ) → last ≤ a → (qs : List Row) → NotBefore last (behind_end t last tt a qs)
    behind a h [] = own (signatures_stand t) a h
    behind a h (r ∷ qs) = h

    go : (r : Res (Unit {0})) → NotBefore last (follow (line_at r last l qs) (behind_end t last))
    go (refuse n) = omega arith
    go (ok u) = behind (last + (length l + 1)) (omega arith) qs

-- the last line, from offset a on, behind the lines that gave the table t
module _ (rs : List Row) (t : Table) (a : ℕ) (q : List Row) (w : Took body 0 rs t a q) where
  stops : (n : ℕ) → Wrong (ending t) a [] q n a → OfSheet rs (refused n a)
  unfolding sheet join
  stops n h = of-line rs n a (goes_on body ending 0 rs t a q w (refused n a) (record { lines = []; rest = q; passed = refl; offset = omega arith; right = ending-later t a; wrong = h }))

  first-offset : a ≡ length (join w.lines)
  first-offset = let e : a ≡ 0 + length (join w.lines) = w.offset in omega arith

  stops-own : q ≡ row end_text ∷ [] → OfSheet rs (refused not_below a)
  unfolding sheet
  stops-own e = record {
    lines = w.lines;
    rest = q;
    passed = w.passed;
    offset = first-offset;
    right = λ r qs. subst (NotBefore a) (sym (ap (λ z. follow z ending) (w.always (r ∷ qs)))) (ending-later t a (r ∷ qs));
    wrong = own refl e;
  }

  stops-extra : (l : List ℕ) → end_line l ≡ ok tt → (r : Row) (qs : List Row) → q ≡ row l ∷ r ∷ qs → OfSheet rs (refused form (a + (length l + 1)))
  unfolding sheet ending join
  stops-extra l e r qs h =
      let k = a + (length l + 1) in
      let n : length (l ++ 10 ∷ []) ≡ length l + 1 = length-append l (10 ∷ []) in
      let z : k ≡ 0 + length (join (w.lines ++ (l ∷ []))) = both-offset body ending 0 rs t a q w (l ∷ []) k (omega arith) in
      let always : (r : Row) (qs : List Row) → sheet 0 (rows (w.lines ++ (l ∷ [])) ++ (r ∷ qs)) ≡ refused form k =
      λ r qs. second body ending 0 rs t a q w (l ∷ []) (r ∷ qs) ∙ ap (λ z. follow (line_at z a l (r ∷ qs)) (behind_end t a)) e in
      record {
        lines = w.lines ++ (l ∷ []);
        rest = r ∷ qs;
        passed = both-passed body ending 0 rs t a q w (l ∷ []) (r ∷ qs) h;
        offset = omega arith;
        right = λ r qs. subst (NotBefore k) (sym (always r qs)) (omega arith);
        wrong = extra refl r qs refl always;
      }

  ends : OfSheet rs (ending t a q)
  unfolding ending
  ends = go q refl
    where
      signed : (b : Bool) (k : ℕ) → q ≡ row end_text ∷ [] → OfSheet rs (cond b (got t k []) (refused not_below a))
      signed true k e = tt
      signed false k e = stops-own e

      behind : (l : List ℕ) (qs : List Row) → q ≡ row l ∷ qs → end_line l ≡ ok tt → OfSheet rs (behind_end t a tt (a + (length l + 1)) qs)
      behind l [] e h = signed (signatures_stand t) (a + (length l + 1)) (e ∙ ap (λ z. row z ∷ []) (end-exact.sound l tt h).1)
      behind l (r ∷ qs) e h = stops-extra l h r qs e

      last : (l : List ℕ) (qs : List Row) → q ≡ row l ∷ qs → (r : Res (Unit {0})) → end_line l ≡ r → OfSheet rs (follow (line_at r a l qs) (behind_end t a))
      last l qs e (refuse n) h = stops n (at_fault l qs e (λ os. ap (λ z. follow (line_at z a l os) (behind_end t a)) h))
      last l qs e (ok tt) h = behind l qs e h

      go : (qs : List Row) → q ≡ qs → OfSheet rs (follow (line end_line a qs) (behind_end t a))
      go [] e = stops form (missing e refl)
      go (cut l ∷ qs) e = stops form (unended l qs e refl)
      go (row l ∷ qs) e = last l qs e (end_line l) refl

of-sheet : (rs : List Row) → OfSheet rs (sheet 0 rs)
unfolding sheet
of-sheet rs = go (body 0 rs) (body-local 0 rs)
  where
    go : (r : Reading Table) → Came body 0 rs r → OfSheet rs (follow r ending)
    go (refused n k) w =
        of-line rs n k
        (record {
          lines = w.lines;
          rest = w.rest;
          passed = w.passed;
          offset = w.offset;
          right = λ qs. follow-later ending ending-later k (body 0 (rows w.lines ++ qs)) (w.right qs);
          wrong = wrong-on body ending 0 w.lines w.rest n k w.wrong;
        })
    go (got t a q) w = ends rs t a q w

-- S31, with S6 to S10 and S13: of every input that is refused
pub refused-line : (bs : List ℕ) (n at : ℕ) → read bs ≡ malformed n at → RefusedLine (split bs) n at
unfolding read
refused-line bs n at = go (sheet 0 (split bs)) (of-sheet (split bs))
  where
    go : (r : Reading Table) → OfSheet (split bs) r → sheet_result r ≡ malformed n at → RefusedLine (split bs) n at
    go (refused m k) h e = let p : m ≡ n = cc in let q : k ≡ at = cc in subst (λ x. RefusedLine (split bs) x at) p (subst (RefusedLine (split bs) m) q h)
    go (got t k rest) h e = let z : ◌≡◌ {A = ℕ} 0 1 = cc in absurd (omega arith)
