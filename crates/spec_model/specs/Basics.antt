-- Small words that the sections share: results that may be refused, and tests over lists.
use Rattle.std.specs.Prelude.{Bool, true, false, ◌&&◌, ◌||◌, List, [], ◌∷◌, ℕ, zero, suc, ◌<◌, ltb, ℤ, pos, negsuc}
use Rattle.std.proofs.Math.Option.{Option, none, some}

-- A result: the number of a refusal, or a value.
pub data Res {ℓ} (A : Type ℓ) : Type ℓ where
  refuse : ℕ → Res A
  ok : A → Res A

-- Go on with the value of a result.
abbrev pub try {ℓ κ} : {A : Type ℓ} {B : Type κ} → Res A → (A → Res B) → Res B
try (refuse e) k = refuse e
try (ok a) k = k a

-- Refuse with `e` unless the test holds.
abbrev pub need {κ} : {B : Type κ} → Bool → ℕ → (Unit {0} → Res B) → Res B
need true e k = k tt
need false e k = refuse e

abbrev pub then {ℓ κ} : {A : Type ℓ} {B : Type κ} → Option A → (A → Option B) → Option B
then none k = none
then (some a) k = k a

infixr 25 ◌⇒◌
abbrev pub ◌⇒◌ : Bool → Bool → Bool
true ⇒ b = b
false ⇒ b = true

abbrev pub any {ℓ} : {A : Type ℓ} → (A → Bool) → List A → Bool
any f [] = false
any f (x ∷ xs) = f x || any f xs

abbrev pub all {ℓ} : {A : Type ℓ} → (A → Bool) → List A → Bool
all f [] = true
all f (x ∷ xs) = f x && all f xs

-- every entry of a list, with its number, the first being number i
abbrev pub every {ℓ} : {A : Type ℓ} → (ℕ → A → Bool) → ℕ → List A → Bool
every f i [] = true
every f i (x ∷ xs) = f i x && every f (suc i) xs

-- every number of a list is below n
abbrev pub AllBelow : ℕ → List ℕ → Type 0
AllBelow n [] = Unit {0}
AllBelow n (x ∷ xs) = (x < n) × AllBelow n xs

-- a test of what may be missing: `over` asks that it is there
abbrev pub over : Option ℕ → (ℕ → Bool) → Bool
over none f = false
over (some x) f = f x

abbrev pub unless_missing : Option ℕ → (ℕ → Bool) → Bool
unless_missing none f = true
unless_missing (some x) f = f x

-- f i, f (i + 1), ..: c values
unfoldable pub from {ℓ} : {A : Type ℓ} → ℕ → ℕ → (ℕ → A) → List A
from zero i f = []
from (suc c) i f = f i ∷ from c (suc i) f

-- A number that is handed in is signed. It names one of n things if it is not negative and below n.
abbrev pub names : ℤ → ℕ → Bool
names (pos k) n = ltb k n
names (negsuc k) n = false

-- the number named, where one is
abbrev pub named : ℤ → ℕ
named (pos k) = k
named (negsuc k) = 0
