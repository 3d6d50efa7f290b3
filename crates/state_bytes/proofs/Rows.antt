-- Bytes that are written row by row: row k, of w bytes, from k · w on.
use mathlib.Core.Path.{◌≡◌, refl, ap, sym, ◌∙◌, subst}
use mathlib.Core.List.{List, [], ◌∷◌}
use mathlib.Core.Logic.{⊎_elim}
use Prim.Native.Nat.{ℕ, suc, ◌+◌, ◌-◌, ◌*◌, ◌≤◌, ◌<◌}
use native.Mathlib.Nat.{not-suc-le-zero}
use native.Mathlib.Omega.{arith}
use lib.ListN.{length, get_or, set, drop, length-drop}
use lib.Seq.{sets, length-sets, get_or-drop, ext_get_or}
use Rattle.table_record.proofs.Lists.{same_or, get_or-sets-below, get_or-sets-above, get_or-sets-in}

-- four stores, as the code has them
pub four : (b : List ℕ) (at x₀ x₁ x₂ x₃ : ℕ) → set (set (set (set b at x₀) (at + 1) x₁) (at + 2) x₂) (at + 3) x₃ ≡ sets b at (x₀ ∷ x₁ ∷ x₂ ∷ x₃ ∷ [])
four b at x₀ x₁ x₂ x₃ =
    let e₁ : at + 1 ≡ suc at = omega arith in
    let e₂ : at + 2 ≡ suc (suc at) = omega arith in
    let e₃ : at + 3 ≡ suc (suc (suc at)) = omega arith in
    rw (e₁, e₂, e₃)

-- f i at row i; old is what stood there before
module _ (w : ℕ) (f : ℕ → List ℕ) (old : List ℕ) where
  pub record Rows (k : ℕ) (b : List ℕ) : Type 0 where
    pub long : length b ≡ length old
    pub are : (i : ℕ) → i < k → (j : ℕ) → j < w → get_or b (i * w + j) 0 ≡ get_or (f i) j 0
    pub behind : (i : ℕ) → k * w ≤ i → get_or b i 0 ≡ get_or old i 0

  pub rows_none : Rows 0 old
  rows_none = record { long = refl; are = λ i h. absurd (not-suc-le-zero h); behind = λ i h. refl }

  -- all that lies behind the rows, from n on
  pub rows_behind : (n k : ℕ) (b : List ℕ) → k * w ≤ n → Rows k b → drop n b ≡ drop n old
  rows_behind n k b h rows = ext_get_or 0 (drop n b) (drop n old) (length-drop n b ∙ ap (λ (l : ℕ). l - n) rows.long ∙ sym (length-drop n old))
      (λ i p. get_or-drop n b i 0 ∙ rows.behind (n + i) (omega (arith, h)) ∙ sym (get_or-drop n old i 0))

  -- the first byte of a row
  pub row_first : (k : ℕ) (b : List ℕ) → Rows k b → (i : ℕ) → i < k → 0 < w → get_or b (i * w) 0 ≡ get_or (f i) 0 0
  row_first k b rows i p q = let z : i * w ≡ i * w + 0 = omega arith in ap (λ (v : ℕ). get_or b v 0) z ∙ rows.are i p 0 q

  -- rows are as wide as they are, and lie one behind the other
  module _ (wide : (i : ℕ) → length (f i) ≡ w) (below : (i k j : ℕ) → i < k → j < w → i * w + j < k * w) (next : (k : ℕ) → (k + 1) * w ≡ k * w + w) where
    pub rows_more : (n k : ℕ) (b b' : List ℕ) → length old ≡ n → k * w + w ≤ n → b' ≡ sets b (k * w) (f k) → Rows k b → Rows (k + 1) b'
    rows_more n k b b' l room e rows = record {
      long = ap length e ∙ length-sets b (k * w) (f k) ∙ rows.long;
      are = λ i p j q. ap (λ (x : List ℕ). get_or x (i * w + j) 0) e ∙ ⊎_elim
          (λ (s : i ≡ k). subst (λ (v : ℕ). get_or (sets b (k * w) (f k)) (v * w + j) 0 ≡ get_or (f v) j 0) (sym s) (here j q))
          (λ (s : i ≡ k → ⊥). let l : i < k = omega (arith, p, s) in get_or-sets-below b (k * w) (f k) (i * w + j) 0 (below i k j l q) ∙ rows.are i l j q)
          (same_or i k);
      behind = λ i p. ap (λ (x : List ℕ). get_or x i 0) e ∙ get_or-sets-above b (k * w) (f k) i 0 (omega (arith, p, next k, wide k)) ∙ rows.behind i (omega (arith, p, next k));
    }
      where
        here : (j : ℕ) → j < w → get_or (sets b (k * w) (f k)) (k * w + j) 0 ≡ get_or (f k) j 0
        here j q = get_or-sets-in b (k * w) (f k) j 0 (omega (arith, wide k, q)) (omega (arith, wide k, room, rows.long, l))
