-- The rows of a text by its first line: the line that is found at a place (crate `text_cursor`) is the first row there, or nothing ends one.
use mathlib.Core.Path.{◌≡◌, refl, sym, ap, ◌∙◌, subst}
use mathlib.Core.Bool.{Bool, true, false, cond}
use mathlib.Core.List.{List, [], ◌∷◌, ◌++◌}
use Prim.Native.Nat.{ℕ, zero, suc, ◌+◌, ◌-◌, ◌≤◌, ◌<◌}
use native.Mathlib.Omega.{arith}
use lib.Dec.{eqb}
use lib.ListN.{length, drop, length-drop, drop_of_length-le}
use lib.Seq.{drop-drop}
use borrow.Author.Tests.{eqb-true}
use Rattle.spec_sheet.specs.Lines.{Row, row, cut, push, split, first_line, same}
use Rattle.spec_sheet.specs.Text.{end_text}
use Rattle.text_cursor.specs.View.{LineAt, past}
use Rattle.script_output.specs.Output.{end_from, sheet_end}

-- ---- what the rows of xs say of xs
abbrev Shape : List ℕ → List Row → Type 0
Shape xs [] = xs ≡ []
Shape xs (row m ∷ rs) = (xs ≡ m ++ 10 ∷ drop (length m + 1) xs) × (rs ≡ split (drop (length m + 1) xs))
Shape xs (cut m ∷ rs) = (xs ≡ m) × (rs ≡ [])

shape : (xs : List ℕ) → Shape xs (split xs)
unfolding split
shape [] = refl
shape (b ∷ bs) = go (eqb b 10) refl (split bs) refl (shape bs)
  where
    go : (t : Bool) → eqb b 10 ≡ t → (rs : List Row) → split bs ≡ rs → Shape bs rs → Shape (b ∷ bs) (cond t (row [] ∷ rs) (push b rs))
    go true e rs q h = (ap (λ z. z ∷ bs) (eqb-true b 10 e), sym q)
    go false e [] q h = (ap (λ z. b ∷ z) h, refl)
    go false e (cut m ∷ rs) q h = (ap (λ z. b ∷ z) h.0, h.1)
    go false e (row m ∷ rs) q h =
        let f : suc (length m) + 1 ≡ suc (length m + 1) = omega arith in
        (ap (λ z. b ∷ z) h.0 ∙ ap (λ z. b ∷ (m ++ 10 ∷ drop z (b ∷ bs))) (sym f), h.1 ∙ ap (λ z. split (drop z (b ∷ bs))) (sym f))

-- ---- the line l at `at`, before the end of s
module _ (s : List ℕ) (at : ℕ) (l : List ℕ) (h : LineAt s at l) (k : at < length s) where
  some_left : {C : Type 0} → drop at s ≡ [] → C
  some_left e = let d : length (drop at s) ≡ length s - at = length-drop at s in let z : length (drop at s) ≡ 0 = ap length e in absurd (omega arith)

  pub rows_left : {C : Type 0} → split (drop at s) ≡ [] → C
  rows_left e = some_left (subst (Shape (drop at s)) e (shape (drop at s)))

  pub line-within : at + length l < length s
  line-within = go (length l) refl
    where
      go : (n : ℕ) → length l ≡ n → at + length l < length s
      go zero e = omega arith
      go (suc n) e = h.ended (omega arith)

  -- the first row is l
  row_is : (m : List ℕ) (rs : List Row) → split (drop at s) ≡ row m ∷ rs → Shape (drop at s) (row m ∷ rs) → split (drop at s) ≡ row l ∷ split (drop (at + (length l + 1)) s)
  row_is m rs e x =
      let w : l ≡ m = h.is ∙ ap first_line e in
      e ∙ ap (λ z. row m ∷ z) x.1 ∙ ap (λ z. row m ∷ split z) (drop-drop (length m + 1) at s) ∙ ap (λ (z : List ℕ). row z ∷ split (drop (at + (length z + 1)) s)) (sym w)

  pub line-some : 0 < length l → split (drop at s) ≡ row l ∷ split (drop (at + (length l + 1)) s)
  line-some n = go (split (drop at s)) refl (shape (drop at s))
    where
      none : {C : Type 0} → l ≡ [] → C
      none e = let z : length l ≡ 0 = ap length e in absurd (omega arith)

      go : (rs : List Row) → split (drop at s) ≡ rs → Shape (drop at s) rs → split (drop at s) ≡ row l ∷ split (drop (at + (length l + 1)) s)
      go [] e x = none (h.is ∙ ap first_line e)
      go (cut m ∷ rs) e x = none (h.is ∙ ap first_line e)
      go (row m ∷ rs) e x = row_is m rs e x

  -- ---- `next` is where the cursor stands behind it: it has passed the row, or no LF ends one
  module _ (next : ℕ) (n : next ≡ past at (split (drop at s))) where
    pub line_row : (next ≡ at → ⊥) → (next ≡ at + (length l + 1)) × (split (drop at s) ≡ row l ∷ split (drop next s))
    line_row g = go (split (drop at s)) refl (shape (drop at s))
      where
        go : (rs : List Row) → split (drop at s) ≡ rs → Shape (drop at s) rs → (next ≡ at + (length l + 1)) × (split (drop at s) ≡ row l ∷ split (drop next s))
        go [] e x = some_left x
        go (cut m ∷ rs) e x = absurd (g (n ∙ ap (past at) e))
        go (row m ∷ rs) e x =
            let w : l ≡ m = h.is ∙ ap first_line e in
            let q : next ≡ at + (length l + 1) = n ∙ ap (past at) e ∙ ap (λ (z : List ℕ). at + (length z + 1)) (sym w) in
            (q, row_is m rs e x ∙ ap (λ z. row l ∷ split (drop z s)) (sym q))

    line-cut : next ≡ at → split (drop at s) ≡ cut (drop at s) ∷ []
    line-cut g = go (split (drop at s)) refl (shape (drop at s))
      where
        go : (rs : List Row) → split (drop at s) ≡ rs → Shape (drop at s) rs → split (drop at s) ≡ cut (drop at s) ∷ []
        go [] e x = some_left x
        go (cut m ∷ rs) e x = e ∙ ap (λ z. cut m ∷ z) x.1 ∙ ap (λ z. cut z ∷ []) (sym x.0)
        go (row m ∷ rs) e x = let q : next ≡ at + (length m + 1) = n ∙ ap (past at) e in absurd (omega (arith, q, g))

    pub next-within : (next ≡ at → ⊥) → (at < next) × (next ≤ length s)
    next-within g = let q = (line_row g).0 in let w = line-within in (omega (arith, q), omega (arith, q, w))

    -- ---- where the sheet ends
    module _ (inv : sheet_end s ≡ end_from at (split (drop at s))) where
      pub end-cut : next ≡ at → length s ≡ sheet_end s
      unfolding end_from
      end-cut g =
          let d : length (drop at s) ≡ length s - at = length-drop at s in
          let e : at + length (drop at s) ≡ length s = omega arith in
          sym (inv ∙ ap (end_from at) (line-cut g) ∙ e)

      by_row : (next ≡ at → ⊥) → sheet_end s ≡ cond (same end_text l) next (end_from next (split (drop next s)))
      unfolding end_from
      by_row g = inv ∙ ap (end_from at) (line_row g).1 ∙ ap (λ z. cond (same end_text l) z (end_from z (split (drop next s)))) (sym (line_row g).0)

      pub end-here : (b : Bool) → (next ≡ at → ⊥) → b ≡ same end_text l → b ≡ true → next ≡ sheet_end s
      end-here b g q t = sym (by_row g ∙ ap (λ z. cond z next (end_from next (split (drop next s)))) (sym q ∙ t))

      pub end-next : (b : Bool) → (next ≡ at → ⊥) → b ≡ same end_text l → b ≡ false → sheet_end s ≡ end_from next (split (drop next s))
      end-next b g q t = by_row g ∙ ap (λ z. cond z next (end_from next (split (drop next s)))) (sym q ∙ t)

pub end-starts : (s : List ℕ) → sheet_end s ≡ end_from 0 (split (drop 0 s))
unfolding sheet_end
end-starts s = refl

pub end-all : (s : List ℕ) (at : ℕ) → at ≤ length s → length s ≤ at → sheet_end s ≡ end_from at (split (drop at s)) → at ≡ sheet_end s
unfolding end_from split
end-all s at p q inv = sym (inv ∙ ap (λ z. end_from at (split z)) (drop_of_length-le s {i = at} q))
