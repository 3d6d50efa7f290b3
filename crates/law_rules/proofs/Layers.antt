-- Which numbers a value can be refused with at the layers of a call or an answer (docs/SPEC.md, C13 to C15, A9).
use mathlib.Core.Path.{◌≡◌, refl, ap}
use mathlib.Core.Logic.{◌⊎◌, inl, inr, ◌≢◌}
use mathlib.Core.Bool.{Bool, true, false, ◌||◌, cond}
use mathlib.Core.List.{List, [], ◌∷◌}
use mathlib.Core.Option.{Option, none, some}
use Prim.Native.Nat.{ℕ}
use native.Mathlib.Omega.{arith}
use lib.Dec.{eqb}
use lib.IntN.{ℤ}
use Rattle.spec_model.specs.Basics.{Res, refuse, ok, try, need}
use Rattle.spec_model.specs.Table.{Rep, ref, w32, w64, Table, type_at}
use Rattle.spec_model.specs.Crossing.{Reference, cross}
use Rattle.spec_model.specs.Requests.{at_layer, renumber, cross_layers, within, pass_layers}
use Rattle.spec_model.proofs.Tests.{eqb_no}
use Rattle.spec_model.specs.Refusals.{unrelated, not_strict, too_wide, later_layer}
use Rattle.law_model.proofs.Steps.{IfOk, whatever}

-- P holds of the number of a refusal, if it is one
abbrev pub IfRefused : {A : Type 0} → Res A → (ℕ → Type 0) → Type 0
IfRefused (refuse e) P = P e
IfRefused (ok a) P = Unit

pub refused-need : {A : Type 0} (P : ℕ → Type 0) (b : Bool) (e : ℕ) (k : Unit {0} → Res A) → P e → IfRefused (k tt) P → IfRefused (need b e k) P
refused-need P true e k h f = f
refused-need P false e k h f = h

pub refused-try : {A B : Type 0} (P : ℕ → Type 0) (Q : A → Type 0) (m : Res A) (k : A → Res B) → IfRefused m P → IfOk m Q → ((a : A) → Q a → IfRefused (k a) P) → IfRefused (try m k) P
refused-try P Q (refuse e) k h q f = h
refused-try P Q (ok a) k h q f = f a q

-- ---- C13: 8 and 10 are the first layer's own
abbrev pub Later : ℕ → Type 0
Later e = (e ≢ unrelated) × (e ≢ not_strict)

later_of : (e : ℕ) → Later (at_layer false e)
later_of e = go (eqb e unrelated) (eqb e not_strict) refl refl
  where
    go : (a b : Bool) → eqb e unrelated ≡ a → eqb e not_strict ≡ b → Later (cond (a || b) later_layer e)
    go true b p q = ((λ z. omega arith), λ z. omega arith)
    go false true p q = ((λ z. omega arith), λ z. omega arith)
    go false false p q = (eqb_no p, eqb_no q)

renumber-later : {A : Type 0} (m : Res A) → IfRefused (renumber false m) Later
renumber-later (refuse e) = later_of e
renumber-later (ok a) = tt

-- A reference that has passed the first layer is never refused with 8 or 10.
pub later-number : (ts : List (Option ℕ)) (f : Reference) (r : ℕ) → IfRefused (cross_layers false f r ts) Later
unfolding cross_layers
later-number [] f r = tt
later-number (none ∷ ts) f r = later_of unrelated
later-number (some to ∷ ts) f r = let m = renumber false (cross f to r) in
    refused-try Later (λ _. Unit {0}) m _ (renumber-later (cross f to r)) (whatever m) λ g _. later-number ts g r

-- What the first crossing is refused with, the reference is refused with.
pub first-number : (f : Reference) (to r e : ℕ) (ts : List (Option ℕ)) → cross f to r ≡ refuse e → cross_layers true f r (some to ∷ ts) ≡ refuse e
unfolding cross_layers
first-number f to r e ts h = ap (λ m. try (renumber true m) λ g. cross_layers false g r ts) h

-- ---- C14, C15: a number meets 16, or a layer that is unfit for it: 8 at the first, 19 later
abbrev pub NumberRefusal : Bool → ℕ → Type 0
NumberRefusal first e = (e ≡ too_wide) ⊎ ((e ≡ at_layer first unrelated) ⊎ (e ≡ later_layer))

late : (b : Bool) (e : ℕ) → NumberRefusal false e → NumberRefusal b e
late b e (inl q) = inl q
late b e (inr (inl q)) = inr (inr q)
late b e (inr (inr q)) = inr (inr q)

refused-map : {A : Type 0} (P Q : ℕ → Type 0) → ((e : ℕ) → P e → Q e) → (m : Res A) → IfRefused m P → IfRefused m Q
refused-map P Q f (refuse e) h = f e h
refused-map P Q f (ok a) h = tt

pub number-refusals : (ts : List (Option ℕ)) (b : Bool) (t : Table) (v : ℤ) → IfRefused (pass_layers b t v ts) (NumberRefusal b)
unfolding pass_layers
number-refusals [] b t v = tt
number-refusals (none ∷ ts) b t v = inr (inl refl)
number-refusals (some a ∷ ts) b t v = go (type_at t a).rep (refused-map (NumberRefusal false) (NumberRefusal b) (late b) (pass_layers false t v ts) (number-refusals ts false t v))
  where
    go : (r : Rep) → IfRefused (pass_layers false t v ts) (NumberRefusal b) → IfRefused {A = Unit {0}} (elim r [
      | ref ↦ refuse (at_layer b unrelated)
      | w32 ↦ need (within 2147483648 v) too_wide λ _. pass_layers false t v ts
      | w64 ↦ pass_layers false t v ts
    ]) (NumberRefusal b)
    go ref h = inr (inl refl)
    go w32 h = refused-need (NumberRefusal b) (within 2147483648 v) too_wide _ (inl refl) h
    go w64 h = h
