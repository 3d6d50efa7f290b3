-- What the codes of records mean, number by number; a code that names nothing is read as the last one that does.
use mathlib.Core.Path.{◌≡◌, refl, ap}
use mathlib.Core.Bool.{true, false, not}
use mathlib.Core.Option.{some}
use Prim.Native.Nat.{ℕ, zero, suc, ◌-◌, ◌<◌}
use native.Mathlib.Omega.{arith}
use lib.Dec.{eqb}
use borrow.Author.Tests.{ne_eqb}
use Rattle.spec_model.specs.Table.{is_ref, is_avail}
use Rattle.spec_model.specs.Check.{RawType, state_of, rep_of, answer_of}
use Rattle.spec_model.specs.Records.{state_code}
use Rattle.table_record.specs.Store.{may_stand_as}

pub number-rep : (r : ℕ) → (r ≡ 0 → ⊥) → is_ref (rep_of r) ≡ false
number-rep zero p = absurd (p refl)
number-rep (suc zero) p = refl
number-rep (suc (suc r)) p = refl

pub rep-code : (r : ℕ) → eqb r 0 ≡ is_ref (rep_of r)
rep-code zero = refl
rep-code (suc zero) = refl
rep-code (suc (suc r)) = ne_eqb (suc (suc r)) 0 (λ e. let w : suc (suc r) ≡ 0 = e in omega arith)

pub state-back : (s : ℕ) → s < 4 → state_code (state_of s) ≡ s
state-back zero h = refl
state-back (suc zero) h = refl
state-back (suc (suc zero)) h = refl
state-back (suc (suc (suc zero))) h = refl
state-back (suc (suc (suc (suc s)))) h = absurd (omega arith)

pub not-avail : (y : ℕ) → (y ≡ 2 → ⊥) → is_avail (state_of y) ≡ false
not-avail zero h = refl
not-avail (suc zero) h = refl
not-avail (suc (suc zero)) h = absurd (h refl)
not-avail (suc (suc (suc y))) h = refl

-- 0 for no answer, else the number and 1
pub answer-is : (x : ℕ) → (x ≡ 0 → ⊥) → answer_of x ≡ some (x - 1)
answer-is zero h = absurd (h refl)
answer-is (suc n) h = let e : n ≡ suc n - 1 = omega arith in ap (λ (k : ℕ). some k) e

pub ref-rep : (r : ℕ) → r ≡ 0 → is_ref (rep_of r) ≡ true
ref-rep r e = ap (λ (n : ℕ). is_ref (rep_of n)) e

-- A number type may stand in a signature; a reference type by its own flag.
module _ (x : RawType) where
  pub number-stands : (x.rep ≡ 0 → ⊥) → not (eqb x.rep 0) ≡ may_stand_as x
  number-stands h = rw (number-rep x.rep h, ne_eqb x.rep 0 h)

  pub reference-stands : x.rep ≡ 0 → not (eqb x.own 1) ≡ may_stand_as x
  reference-stands e = rw (ref-rep x.rep e)
