-- The operands that the C functions list, and the requests that they are.
use mathlib.Core.Path.{◌≡◌, refl, ap, sym, ◌∙◌}
use mathlib.Core.List.{List, [], ◌∷◌, ◌++◌}
use mathlib.Core.Bool.{Bool, cond}
use mathlib.Core.Option.{none, some}
use Prim.Native.Nat.{ℕ, zero, suc, ◌+◌, ◌≤◌}
use native.Mathlib.Omega.{arith}
use lib.IntN.{ℤ}
use lib.ListN.{length, take}
use Rattle.std.proofs.Math.Seq.{take-append_seam}
use Rattle.std.proofs.lemmas.List.{take_min, length-append, length-take-le}
use borrow.Author.Tests.{le-leb}
use Rattle.std.specs.Prelude.{min}
use Rattle.spec_model.specs.Table.{max_arguments}
use Rattle.spec_model.specs.Requests.{call, answer}
use Rattle.spec_model.specs.Coded.{by_code}
use Rattle.request_operands.specs.Given.{given_in}
use Rattle.request_operands.specs.Operands.{answer_operands, call_operands, Listed}

-- ---- Answer: a third operand where a value is given.
module _ (g n : ℕ) (e : n ≡ answer_operands g) where
  pub answer-few : n ≤ 3
  answer-few = let f = go g in omega arith
    where
      go : (k : ℕ) → answer_operands k ≤ 3
      go zero = omega arith
      go (suc k) = omega arith

  pub answer-is : (s j v : ℤ) → by_code 3 (take n (s ∷ j ∷ v ∷ [])) ≡ some (answer s j (given_in g v))
  answer-is s j v = ap (λ (k : ℕ). by_code 3 (take k (s ∷ j ∷ v ∷ []))) e ∙ go g
    where
      go : (k : ℕ) → by_code 3 (take (answer_operands k) (s ∷ j ∷ v ∷ [])) ≡ some (answer s j (given_in k v))
      go zero = refl
      go (suc k) = refl

-- ---- Call: the first n of the arguments stand behind the first three operands.
module _ (s k m : ℤ) (vs : List ℤ) where
  pub listed : (xs rest : List ℤ) (n : ℕ) → n ≡ min (length vs) (suc max_arguments) → xs ≡ take n vs → Listed (call_operands s k m vs) (record { count = 3 + n; items = s ∷ k ∷ m ∷ (xs ++ rest) })
  listed xs rest n e is = record {
    is = let z : 3 + n ≡ suc (suc (suc n)) = omega arith in ap (λ (j : ℕ). take j (s ∷ k ∷ m ∷ (xs ++ rest))) z ∙ ap (λ (ys : List ℤ). s ∷ k ∷ m ∷ ys) (front ∙ is ∙ cut);
    fits = omega (arith, length-append xs rest, long);
  }
    where
      long : length xs ≡ n
      long = ap length is ∙ length-take-le n vs (omega arith)

      front : take n (xs ++ rest) ≡ xs
      front = ap (λ (j : ℕ). take j (xs ++ rest)) (sym long) ∙ take-append_seam xs rest

      cut : take n vs ≡ take (suc max_arguments) vs
      cut = let z : n ≡ min (suc max_arguments) (length vs) = omega arith in ap (λ (j : ℕ). take j vs) z ∙ take_min (suc max_arguments) vs

  pub call-is : (ws : List ℤ) → ws ≡ call_operands s k m vs → by_code 2 ws ≡ some (call s k m (take (suc max_arguments) vs))
  call-is ws e = ap (by_code 2) e ∙ ap (λ (b : Bool). cond b (some (call s k m (take (suc max_arguments) vs))) none) (le-leb 3 (length (call_operands s k m vs)) (omega arith))
