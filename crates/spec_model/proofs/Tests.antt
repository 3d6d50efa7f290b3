-- The native tests of numbers and truth values, as paths: what a test says of its operands, and what its operands make it say.
use mathlib.Core.Path.{◌≡◌, refl, sym, subst, ◌∙◌}
use mathlib.Core.Logic.{◌≢◌}
use mathlib.Core.Bool.{Bool, true, false, not, So, false≢true, beq}
use Prim.Native.Nat.{ℕ, ◌≤◌, ◌<◌}
use lib.Dec.{T, eqb, ltb, leb, leb→le, le→leb, eqb→eq, eqb_refl, ltb→lt, lt→ltb, nltb→le}

pub of_T : (b : Bool) → T b → So b
of_T true h = refl
of_T false h = absurd h

pub to-T : {b : Bool} → So b → T b
to-T e = subst T (sym e) tt

pub eqb-so : {m n : ℕ} → So (eqb m n) → m ≡ n
eqb-so {m} {n} h = eqb→eq m n (to-T h)

pub eqb-self : (n : ℕ) → So (eqb n n)
eqb-self n = of_T (eqb n n) (eqb_refl n)

pub eqb_no : {m n : ℕ} → eqb m n ≡ false → m ≢ n
eqb_no {m} {n} e p = false≢true (sym e ∙ subst (λ x. So (eqb m x)) p (eqb-self m))

pub ltb-so : {m n : ℕ} → So (ltb m n) → m < n
ltb-so {m} {n} h = ltb→lt m n (to-T h)

pub so-ltb : {m n : ℕ} → m < n → So (ltb m n)
so-ltb {m} {n} h = of_T (ltb m n) (lt→ltb m n h)

pub ltb_no : {m n : ℕ} → ltb m n ≡ false → n ≤ m
ltb_no {m} {n} h = nltb→le m n (subst (λ b. T (not b)) (sym h) tt)

pub leb-so : {m n : ℕ} → So (leb m n) → m ≤ n
leb-so {m} {n} h = leb→le m n (to-T h)

pub so-leb : {m n : ℕ} → m ≤ n → So (leb m n)
so-leb {m} {n} h = of_T (leb m n) (le→leb m n h)

pub beq-so : (a b : Bool) → So (beq a b) → a ≡ b
beq-so true true h = refl
beq-so true false h = absurd (false≢true h)
beq-so false true h = absurd (false≢true h)
beq-so false false h = refl
