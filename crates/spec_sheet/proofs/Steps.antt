-- Tests and steps taken apart: what holds where a test, a scan or a line was right.
use mathlib.Core.Path.{◌≡◌, refl}
use mathlib.Core.Bool.{Bool, true, false, So, cond}
use mathlib.Core.List.{List, [], ◌∷◌}
use mathlib.Core.Option.{none, some}
use Prim.Native.Nat.{ℕ}
use native.Mathlib.Omega.{arith}
use Rattle.spec_model.specs.Basics.{Res, refuse, ok, try, need}
use Rattle.spec_sheet.specs.Numbers.{Scan, fail, took, bind_scan, whole}

pub cond_cases : {A C : Type 0} {x y z : A} (b : Bool) → cond b x y ≡ z → (b ≡ true → x ≡ z → C) → (b ≡ false → y ≡ z → C) → C
cond_cases true h f g = f refl h
cond_cases false h f g = g refl h

-- answers
pub refuse-ok : {A C : Type 0} {n : ℕ} {x : A} → refuse n ≡ ok x → C
refuse-ok p = let z : ◌≡◌ {A = ℕ} 0 1 = cc in absurd (omega arith)

pub ok-value : {A : Type 0} {x y : A} → ok x ≡ ok y → x ≡ y
ok-value p = cc

pub none-some : {A C : Type 0} {x : A} → none ≡ some x → C
none-some p = let z : ◌≡◌ {A = ℕ} 0 1 = cc in absurd (omega arith)

pub try_ok : {A B C : Type 0} {y : B} (r : Res A) (k : A → Res B) → try r k ≡ ok y → ((x : A) → r ≡ ok x → k x ≡ ok y → C) → C
try_ok (refuse e) k h c = refuse-ok h
try_ok (ok x) k h c = c x refl h

pub need-ok : {B C : Type 0} {y : B} (b : Bool) (e : ℕ) (k : Unit {0} → Res B) → need b e k ≡ ok y → (So b → k tt ≡ ok y → C) → C
need-ok true e k h c = c refl h
need-ok false e k h c = refuse-ok h

-- scans
pub fail-took : {A : Type 0} {x : A} {r : List ℕ} → fail ≡ took x r → ⊥
fail-took p = let z : ◌≡◌ {A = ℕ} 0 1 = cc in omega arith

pub took-value : {A : Type 0} {x y : A} {r q : List ℕ} → took x r ≡ took y q → x ≡ y
took-value p = cc

pub took-rest : {A : Type 0} {x y : A} {r q : List ℕ} → took x r ≡ took y q → r ≡ q
took-rest p = cc

pub bind_scan-took : {A B C : Type 0} {y : B} {r : List ℕ} (s : Scan A) (k : A → List ℕ → Scan B) → bind_scan s k ≡ took y r
    → ((x : A) (q : List ℕ) → s ≡ took x q → k x q ≡ took y r → C) → C
bind_scan-took fail k h c = absurd (fail-took h)
bind_scan-took (took x q) k h c = c x q refl h

pub whole-ok : {A : Type 0} {x : A} (s : Scan A) → whole s ≡ ok x → s ≡ took x []
whole-ok fail h = refuse-ok h
whole-ok (took y []) h = rw (ok-value h)
whole-ok (took y (b ∷ r)) h = refuse-ok h
