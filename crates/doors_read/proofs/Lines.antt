-- The line at a cursor: where the cursor stays no LF ends one, and else the reading is what comes of the line, with the cursor behind it.
use mathlib.Core.Path.{◌≡◌, refl, ap, sym, ◌∙◌, subst}
use mathlib.Core.List.{List, [], ◌∷◌}
use Prim.Native.Nat.{ℕ, ◌+◌, ◌≤◌, ◌<◌}
use native.Mathlib.Omega.{arith}
use lib.ListN.{length, drop}
use Rattle.spec_model.specs.Basics.{Res, refuse, ok}
use Rattle.spec_model.specs.Refusals.{form}
use Rattle.spec_sheet.specs.Lines.{Row, row, cut, split, first_line, Reading, refused, got, line, line_at}
use Rattle.spec_doors.specs.Input.{times_line}
use Rattle.text_cursor.specs.View.{LineAt, past}
use Rattle.text_cursor.specs.declared.Cursor.{Cursor}
use Rattle.text_cursor.proofs.Laws.{past-rest}
use Rattle.doors_read.specs.View.{Gives, TimesRead, LineRead}
use Rattle.std.specs.Prelude.{Option, Some, None}

module _ (s : List ℕ) (at : ℕ) (d : Cursor) (p : d.at ≡ past at (split (drop at s))) where
  pub no_line : d.at ≤ at → line times_line at (split (drop at s)) ≡ refused form at
  no_line e = go (split (drop at s)) p
    where
      go : (rs : List Row) → d.at ≡ past at rs → line times_line at rs ≡ refused form at
      go [] q = refl
      go (cut l ∷ rs) q = refl
      go (row l ∷ rs) q = let n : d.at ≡ at + (length l + 1) = q in absurd (omega arith)

  abbrev passed : Res (List ℕ) → Reading (List ℕ)
  passed (refuse k) = refused k at
  passed (ok x) = got x d.at (split (drop d.at s))

  module _ (n : at < d.at) (l : List ℕ) (h : LineAt s at l) where
    line-is : line times_line at (split (drop at s)) ≡ passed (times_line l)
    line-is = go (split (drop at s)) refl
      where
        by : (m : List ℕ) (rs : List Row) → split (drop at s) ≡ row m ∷ rs → (R : Res (List ℕ)) → line_at R at m rs ≡ passed R
        by m rs e (refuse k) = refl
        by m rs e (ok x) =
            ap (λ (z : ℕ). got x z rs) (sym (p ∙ ap (past at) e)) ∙ ap (got x d.at) (sym (past-rest s at d.at p m rs e))

        go : (rs : List Row) → split (drop at s) ≡ rs → line times_line at rs ≡ passed (times_line l)
        go [] e = let q : d.at ≡ at = p ∙ ap (past at) e in absurd (omega arith)
        go (cut m ∷ rs) e = let q : d.at ≡ at = p ∙ ap (past at) e in absurd (omega arith)
        go (row m ∷ rs) e = by m rs e (times_line m) ∙ ap (λ z. passed (times_line z)) (sym (h.is ∙ ap first_line e))

    module _ (items : List ℕ) (k : Option ℕ) (t : TimesRead (times_line l) items k) where
      pub wrong-line : k ≡ None → line times_line at (split (drop at s)) ≡ refused form at
      wrong-line e = line-is ∙ ap passed (subst (TimesRead (times_line l) items) e t)

      pub right-line : (m : ℕ) → k ≡ Some m → LineRead (line times_line at (split (drop at s))) s at items (Some (m, d))
      right-line m e = let g : Gives (times_line l) ok items m = subst (TimesRead (times_line l) items) e t in
          record { times = g.times; is = line-is ∙ ap passed g.is; stored = g.stored }
