-- Signed numbers as indices, and what a caller learns by comparing the index with n. And that the number of a refusal by name is small.
use mathlib.Core.Path.{◌≡◌, refl, sym, ◌∙◌}
use mathlib.Core.Bool.{Bool, true, false}
use Prim.Native.Nat.{ℕ, ◌≤◌, ◌<◌, ◌^◌}
use native.Mathlib.Omega.{arith}
use lib.Dec.{T, ltb}
use lib.IntN.{ℤ, pos, negsuc, nat_abs}
use lib.Signed.{lt_z, non_neg}
use mir.Syntax.{w64}
use mir.Val.{SFits, Fits}
use borrow.Author.Tests.{ltb-true, lt-ltb, le-ltb}
use Rattle.spec_model.specs.Basics.{names, named}
use Rattle.base_numbers.specs.Index.{index_of}
use Rattle.base_numbers.specs.Refusal.{number_of}
use Rattle.base_numbers.specs.declared.refusal.Refusal.{Refusal}
use Rattle.base_numbers.specs.declared.refusal.Refusal.TheVariants.{Form}

pub index-negative : (z : ℤ) (n : ℕ) → lt_z z (pos 0) ≡ true → n ≡ index_of z n
index-negative (pos k) n h = let l : k < 0 = ltb-true k 0 h in absurd (omega arith)
index-negative (negsuc k) n h = refl

-- what is not negative is a number of a machine word as it is
pub index-cast : (z : ℤ) → lt_z z (pos 0) ≡ false → SFits w64 z → T (non_neg z) × Fits w64 (nat_abs z)
index-cast (pos k) h f = let g : k < 2 ^ 63 = f.sfits in (tt, record { fits = omega arith })
index-cast (negsuc k) h f = let z : ◌≡◌ {A = Bool} true false = h in let e : ◌≡◌ {A = ℕ} 0 1 = cc in absurd (omega arith)

pub index-within : (z : ℤ) (n : ℕ) → lt_z z (pos 0) ≡ false → nat_abs z < n → nat_abs z ≡ index_of z n
index-within (pos k) n h l = rw (lt-ltb k n l)
index-within (negsuc k) n h l = let z : ◌≡◌ {A = Bool} true false = h in let e : ◌≡◌ {A = ℕ} 0 1 = cc in absurd (omega arith)

pub index-above : (z : ℤ) (n : ℕ) → lt_z z (pos 0) ≡ false → n ≤ nat_abs z → n ≡ index_of z n
index-above (pos k) n h l = rw (le-ltb k n l)
index-above (negsuc k) n h l = refl

-- For callers: i is the index of z among n.
module _ (z : ℤ) (n i : ℕ) (e : i ≡ index_of z n) where
  pub index-unknown : n ≤ i → names z n ≡ false
  index-unknown l = go z e
    where
      go : (z : ℤ) → i ≡ index_of z n → names z n ≡ false
      go (pos k) e = step (ltb k n) refl
        where
          step : (b : Bool) → ltb k n ≡ b → b ≡ false
          step true d = let p : k < n = ltb-true k n d in let q : i ≡ k = e ∙ rw d in absurd (omega arith)
          step false d = refl
      go (negsuc k) e = refl

  pub index-known : i < n → (names z n ≡ true) × (named z ≡ i)
  index-known l = go z e
    where
      go : (z : ℤ) → i ≡ index_of z n → (names z n ≡ true) × (named z ≡ i)
      go (pos k) e = step (ltb k n) refl
        where
          step : (b : Bool) → ltb k n ≡ b → (b ≡ true) × (k ≡ i)
          step true d = let q : i ≡ k = e ∙ rw d in (refl, sym q)
          step false d = let q : i ≡ n = e ∙ rw d in absurd (omega arith)
      go (negsuc k) e = let q : i ≡ n = e in absurd (omega arith)

-- The number of a refusal by name is a word as it is (U8).
pub number-small : (e : Refusal) → number_of e < 65536
number-small Form = omega arith
number-small e = omega arith
