-- Laws over plain values: what a byte more means for a line, and where a line lies whose LF is found. The proofs of the functions cite them.
use mathlib.Core.Path.{◌≡◌, refl, sym, ap, ◌∙◌, subst}
use mathlib.Core.Bool.{true, false, So, cond}
use mathlib.Core.List.{List, [], ◌∷◌, ◌++◌}
use Prim.Native.Nat.{ℕ, suc, ◌+◌, ◌-◌, ◌≤◌, ◌<◌}
use native.Mathlib.Omega.{arith}
use native.Mathlib.Numerals.{add-one}
use lib.Dec.{eqb}
use lib.ListN.{length, get_or, take, drop, length-drop, length-append, take-append-drop}
use lib.Seq.{drop-cons, take-suc, get_or-drop, drop-drop, take_all, length-take-le, take-append_seam}
use borrow.Author.Tests.{ne_eqb}
use Rattle.spec_model.proofs.Rules.{both, first, second}
use Rattle.spec_sheet.specs.Lines.{Row, row, cut, push, split, first_line}
use Rattle.spec_sheet.specs.Clean.{not_lf, clean}
use Rattle.spec_sheet.proofs.Steps.{cond_cases}
use Rattle.spec_sheet.proofs.Lines.{all_append, unsplit, unsplit-split, not_lf-eqb, split-line}
use Rattle.text_cursor.specs.View.{Clear, LineAt, past}

-- A list from one of its places on.
pub from-here : (l : List ℕ) (i : ℕ) → i < length l → drop i l ≡ get_or l i 0 ∷ drop (i + 1) l
from-here l i h = drop-cons l i 0 h ∙ ap (λ (n : ℕ). get_or l i 0 ∷ drop n l) (sym (add-one i))

-- Lines. No LF in it:
pub clear_none : (s : List ℕ) (at : ℕ) → Clear s at at
clear_none s at = let e : at - at ≡ 0 = omega arith in record { after = omega arith; clear = ap (λ z. clean (take z (drop at s))) e }

clean-more : (s : List ℕ) (at i : ℕ) → at ≤ i → i < length s → (get_or s i 0 ≡ 10 → ⊥) → So (clean (take (i - at) (drop at s))) → So (clean (take (i + 1 - at) (drop at s)))
clean-more s at i h k n c =
    let e : i + 1 - at ≡ suc (i - at) = omega arith in
    let f : at + (i - at) ≡ i = omega arith in
    let g : get_or (drop at s) (i - at) 0 ≡ get_or s i 0 = get_or-drop at s (i - at) 0 ∙ ap (λ z. get_or s z 0) f in
    let d : length (drop at s) ≡ length s - at = length-drop at s in
    ap (λ z. clean (take z (drop at s))) e ∙ ap clean (take-suc (drop at s) (i - at) 0 (omega arith))
    ∙ all_append (λ b. cond (eqb b 10) false true) (take (i - at) (drop at s)) (get_or (drop at s) (i - at) 0 ∷ []) c
    (both (ap (λ z. cond (eqb z 10) false true) g ∙ ap (λ z. cond z false true) (ne_eqb (get_or s i 0) 10 n)) refl)

-- a byte more that is no LF
pub clear-more : (s : List ℕ) (at i j : ℕ) → j ≡ i + 1 → i < length s → (get_or s i 0 ≡ 10 → ⊥) → Clear s at i → Clear s at j
clear-more s at i j e k n c =
    let h = c.after in
    record { after = omega arith; clear = subst (λ z. So (clean (take (z - at) (drop at s)))) (sym e) (clean-more s at i h k n c.clear) }

-- what is left has no LF
split-cut : (b : ℕ) (l : List ℕ) → So (clean (b ∷ l)) → split (b ∷ l) ≡ cut (b ∷ l) ∷ []
unfolding split
split-cut b [] h = ap (λ z. cond z (row [] ∷ []) (cut (b ∷ []) ∷ [])) (not_lf-eqb b (first (not_lf b) (clean []) h))
split-cut b (d ∷ l) h =
    ap (λ z. cond z (row [] ∷ split (d ∷ l)) (push b (split (d ∷ l)))) (not_lf-eqb b (first (not_lf b) (clean (d ∷ l)) h))
    ∙ ap (push b) (split-cut d l (second (not_lf b) (clean (d ∷ l)) h))

past-cut : (at : ℕ) (l : List ℕ) → So (clean l) → past at (split l) ≡ at
unfolding split
past-cut at [] h = refl
past-cut at (b ∷ l) h = ap (past at) (split-cut b l h)

-- The text ends before an LF: no line is passed.
pub past-none : (s : List ℕ) (at e : ℕ) → length s ≤ e → Clear s at e → at ≡ past at (split (drop at s))
past-none s at e q c =
    let k = c.after in
    let d : length (drop at s) ≡ length s - at = length-drop at s in
    let w : take (e - at) (drop at s) ≡ drop at s = take_all (e - at) (drop at s) (omega arith) in
    sym (past-cut at (drop at s) (ap clean (sym w) ∙ c.clear))

-- An LF at e ends the line.
pub past-found : (s : List ℕ) (at e : ℕ) → e < length s → Clear s at e → get_or s e 0 ≡ 10 → e + 1 ≡ past at (split (drop at s))
past-found s at e q c g =
    let k = c.after in
    let f : at + (e - at) ≡ e = omega (arith, k) in
    let w : drop (e - at) (drop at s) ≡ 10 ∷ drop (e + 1) s = drop-drop (e - at) at s ∙ ap (λ z. drop z s) f ∙ from-here s e q ∙ ap (λ z. z ∷ drop (e + 1) s) g in
    let r : split (drop at s) ≡ row (take (e - at) (drop at s)) ∷ split (drop (e + 1) s) =
    ap split (sym (take-append-drop (e - at) (drop at s)) ∙ ap (λ z. take (e - at) (drop at s) ++ z) w) ∙ split-line (take (e - at) (drop at s)) (drop (e + 1) s) c.clear in
    let d : length (drop at s) ≡ length s - at = length-drop at s in
    let l : length (take (e - at) (drop at s)) ≡ e - at = length-take-le (e - at) (drop at s) (omega arith) in
    let n : e + 1 ≡ at + (length (take (e - at) (drop at s)) + 1) = omega arith in
    n ∙ ap (past at) (sym r)

-- the rows behind the first line are those of the bytes behind its LF
behind-first : (l xs : List ℕ) (rs : List Row) → split xs ≡ row l ∷ rs → rs ≡ split (drop (length l + 1) xs)
unfolding split
behind-first l [] rs e = row-none e
  where
    row-none : {C : Type 0} → [] ≡ row l ∷ rs → C
    row-none p = let z : ◌≡◌ {A = ℕ} 0 1 = cc in absurd (omega arith)
behind-first l (b ∷ xs) rs e = cond_cases (eqb b 10) e (λ t q. lf (row-value q) (rows-rest q)) (λ t q. pushed (split xs) refl q (λ m qs p. behind-first m xs qs p))
  where
    row-value : {k m : List ℕ} {qs ps : List Row} → row k ∷ qs ≡ row m ∷ ps → k ≡ m
    row-value p = cc

    rows-rest : {k m : Row} {qs ps : List Row} → k ∷ qs ≡ m ∷ ps → qs ≡ ps
    rows-rest p = cc

    cut-row : {C : Type 0} {k m : List ℕ} {qs ps : List Row} → cut k ∷ qs ≡ row m ∷ ps → C
    cut-row p = let z : ◌≡◌ {A = ℕ} 0 1 = cc in absurd (omega arith)

    lf : [] ≡ l → split xs ≡ rs → rs ≡ split (drop (length l + 1) (b ∷ xs))
    lf p q = sym q ∙ ap (λ (z : List ℕ). split (drop (length z + 1) (b ∷ xs))) p

    pushed : (qs : List Row) → split xs ≡ qs → push b qs ≡ row l ∷ rs → ((m : List ℕ) (ps : List Row) → split xs ≡ row m ∷ ps → ps ≡ split (drop (length m + 1) xs))
        → rs ≡ split (drop (length l + 1) (b ∷ xs))
    pushed [] p q rec = cut-row q
    pushed (cut m ∷ qs) p q rec = cut-row q
    pushed (row m ∷ qs) p q rec =
        let f : suc (length m) + 1 ≡ suc (length m + 1) = omega arith in
        sym (rows-rest q) ∙ rec m qs p ∙ ap (λ (z : ℕ). split (drop z (b ∷ xs))) (sym f)
        ∙ ap (λ (z : List ℕ). split (drop (length z + 1) (b ∷ xs))) (row-value q)

-- The first row is what stands in front, with an LF behind it.
first-row : (l xs : List ℕ) (rs : List Row) → split xs ≡ row l ∷ rs → (take (length l) xs ≡ l) × (length l < length xs)
first-row l xs rs e =
    let w : xs ≡ l ++ 10 ∷ unsplit rs = sym (unsplit-split xs) ∙ ap unsplit e in
    let n : length xs ≡ length l + suc (length (unsplit rs)) = ap length w ∙ length-append l (10 ∷ unsplit rs) in
    (ap (take (length l)) w ∙ take-append_seam l (10 ∷ unsplit rs), omega arith)

-- The line between a place and the one behind it.
module _ (s : List ℕ) (at next : ℕ) (h : next ≡ past at (split (drop at s))) where
  stays : (rs : List Row) → split (drop at s) ≡ rs → past at rs ≡ at → next ≡ at
  stays rs e q = h ∙ ap (past at) e ∙ q

  goes : (l : List ℕ) (rs : List Row) → split (drop at s) ≡ row l ∷ rs → next ≡ at + (length l + 1)
  goes l rs e = h ∙ ap (past at) e

  -- the text goes on with the rows behind the first
  pub past-rest : (l : List ℕ) (rs : List Row) → split (drop at s) ≡ row l ∷ rs → split (drop next s) ≡ rs
  past-rest l rs e = ap (λ (z : ℕ). split (drop z s)) (goes l rs e) ∙ ap split (sym (drop-drop (length l + 1) at s)) ∙ sym (behind-first l (drop at s) rs e)

  pub past-within : at < next → next ≤ length s
  past-within k = go (split (drop at s)) refl
    where
      go : (rs : List Row) → split (drop at s) ≡ rs → next ≤ length s
      go [] e = let n : next ≡ at = stays [] e refl in absurd (omega arith)
      go (cut l ∷ rs) e = let n : next ≡ at = stays (cut l ∷ rs) e refl in absurd (omega arith)
      go (row l ∷ rs) e =
          let n : next ≡ at + (length l + 1) = goes l rs e in
          let d : length (drop at s) ≡ length s - at = length-drop at s in
          let w : length l < length (drop at s) = (first-row l (drop at s) rs e).1 in
          omega arith

  pub line-passed : at < next → LineAt s at (take (next - 1 - at) (drop at s))
  line-passed k = go (split (drop at s)) refl
    where
      go : (rs : List Row) → split (drop at s) ≡ rs → LineAt s at (take (next - 1 - at) (drop at s))
      go [] e = let n : next ≡ at = stays [] e refl in absurd (omega arith)
      go (cut l ∷ rs) e = let n : next ≡ at = stays (cut l ∷ rs) e refl in absurd (omega arith)
      go (row l ∷ rs) e =
          let n : next ≡ at + (length l + 1) = goes l rs e in
          let d : length (drop at s) ≡ length s - at = length-drop at s in
          let w = first-row l (drop at s) rs e in
          let m : next - 1 - at ≡ length l = omega arith in
          let t : take (next - 1 - at) (drop at s) ≡ l = ap (λ (z : ℕ). take z (drop at s)) m ∙ w.0 in
          let u : length (take (next - 1 - at) (drop at s)) ≡ length l = ap length t in
          let v : length l < length (drop at s) = w.1 in
          record { is = t ∙ sym (ap first_line e); ended = λ _. omega arith }

  pub line-stayed : next ≤ at → LineAt s at []
  line-stayed k = go (split (drop at s)) refl
    where
      go : (rs : List Row) → split (drop at s) ≡ rs → LineAt s at []
      go [] e = record { is = sym (ap first_line e); ended = λ z. absurd (omega arith) }
      go (cut l ∷ rs) e = record { is = sym (ap first_line e); ended = λ z. absurd (omega arith) }
      go (row l ∷ rs) e = let n : next ≡ at + (length l + 1) = goes l rs e in absurd (omega arith)
