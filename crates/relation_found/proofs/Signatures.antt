-- The rule of a method by its parts: states, arguments slot by slot, answers.
use mathlib.Core.Path.{◌≡◌, refl, ap, sym, ◌∙◌}
use mathlib.Core.Logic.{⊎_elim}
use mathlib.Core.Bool.{Bool, true, false, ◌&&◌, and-true, and_assoc, So}
use mathlib.Core.List.{List, [], ◌∷◌}
use Prim.Native.Nat.{ℕ, zero, suc, ◌-◌, ◌≤◌, ◌<◌, min}
use native.Mathlib.Nat.{not-suc-le-zero, le_of_suc-le-suc, min-eq_left, min-eq_right}
use native.Mathlib.Omega.{arith}
use lib.ListN.{length, get_or, take}
use lib.Seq.{take_all, length-take-le, get_or-take}
use Rattle.spec_model.specs.Table.{Method, permit}
use Rattle.spec_model.specs.Relations.{Relation, state_rule, args_rule, answer_rule, method_rule}
use Rattle.spec_model.specs.Check.{RawMethod, state_of, answer_of, method_of}
use Rattle.spec_model.proofs.Rules.{never, first, second, args-mono, signature-mono, args-test, args-says, method-test, method-says}
use Rattle.spec_model.specs.Records.{argument_slots}
use Rattle.table_record.proofs.Lists.{lt-or-ge}
use Rattle.table_record.proofs.Codes.{answer-is}
use Rattle.relation_found.specs.Found.{Within}
use Rattle.relation_found.proofs.Pairs.{Mono, clash}

-- Arguments. A count above the four slots uses all of them.
pub slots-are : (n r : ℕ) → r ≡ min n argument_slots → (xs : List ℕ) → length xs ≡ argument_slots → take n xs ≡ take r xs
slots-are n r e xs k = ⊎_elim
    (λ (l : n < argument_slots). ap (λ (m : ℕ). take m xs) (sym (e ∙ min-eq_left {n = n} {m = argument_slots} (omega arith))))
    (λ (l : argument_slots ≤ n). take_all n xs (omega arith) ∙ sym (take_all r xs (let d : r ≡ argument_slots = e ∙ min-eq_right {n = argument_slots} {m = n} l in omega arith)))
    (lt-or-ge n 4)

args-length : (M : ℕ → ℕ → Bool) (xs ys : List ℕ) → So (args_rule M xs ys) → length xs ≡ length ys
args-length M [] [] w = refl
args-length M [] (y ∷ ys) w = never w
args-length M (x ∷ xs) [] w = never w
args-length M (x ∷ xs) (y ∷ ys) w = ap suc (args-length M xs ys (second (M y x) _ w))

args_at : (M : ℕ → ℕ → Bool) (xs ys : List ℕ) → So (args_rule M xs ys) → (i : ℕ) → i < length xs → So (M (get_or ys i 0) (get_or xs i 0))
args_at M [] ys w i l = absurd (not-suc-le-zero l)
args_at M (x ∷ xs) [] w i l = never w
args_at M (x ∷ xs) (y ∷ ys) w zero l = first (M y x) _ w
args_at M (x ∷ xs) (y ∷ ys) w (suc i) l = args_at M xs ys (second (M y x) _ w) i (le_of_suc-le-suc l)

module _ (xs ys : List ℕ) where
  pub args-differ : (M : ℕ → ℕ → Bool) (c d : ℕ) → c ≤ length xs → d ≤ length ys → (c ≡ d → ⊥) → So (args_rule M (take c xs) (take d ys)) → ⊥
  args-differ M c d p q h w = h (sym (length-take-le c xs p) ∙ args-length M (take c xs) (take d ys) w ∙ length-take-le d ys q)

  pub args-need : (M : ℕ → ℕ → Bool) (c i : ℕ) → c ≤ length xs → i < c → So (args_rule M (take c xs) (take c ys)) → So (M (get_or ys i 0) (get_or xs i 0))
  args-need M c i p l w =
      let k : i < length (take c xs) = rw (length-take-le c xs p) l in
      rw (get_or-take c ys i 0 l, get_or-take c xs i 0 l) at (args_at M (take c xs) (take c ys) w i k)

-- one slot more
pub args-next : (M : ℕ → ℕ → Bool) (xs ys : List ℕ) (i : ℕ) → i < length xs → i < length ys → args_rule M (take (suc i) xs) (take (suc i) ys) ≡
    (args_rule M (take i xs) (take i ys) && M (get_or ys i 0) (get_or xs i 0))
args-next M [] ys i p q = absurd (not-suc-le-zero p)
args-next M (x ∷ xs) [] i p q = absurd (not-suc-le-zero q)
args-next M (x ∷ xs) (y ∷ ys) zero p q = and-true (M y x)
args-next M (x ∷ xs) (y ∷ ys) (suc i) p q = ap (λ (b : Bool). M y x && b) (args-next M xs ys i (le_of_suc-le-suc p) (le_of_suc-le-suc q)) ∙ sym (and_assoc (M y x) _ _)

module _ (M : ℕ → ℕ → Bool) (x y : ℕ) where
  pub answer-none : x ≡ 0 → y ≡ 0 → So (answer_rule M (answer_of x) (answer_of y))
  answer-none p q = rw (p, q)

  pub answer-left : x ≡ 0 → (y ≡ 0 → ⊥) → So (answer_rule M (answer_of x) (answer_of y)) → ⊥
  answer-left p q w = never (rw (p, answer-is y q) at w)

  pub answer-right : (x ≡ 0 → ⊥) → y ≡ 0 → So (answer_rule M (answer_of x) (answer_of y)) → ⊥
  answer-right p q w = never (rw (answer-is x p, q) at w)

  pub answer-both : (x ≡ 0 → ⊥) → (y ≡ 0 → ⊥) → answer_rule M (answer_of x) (answer_of y) ≡ M (x - 1) (y - 1)
  answer-both p q = rw (answer-is x p, answer-is y q)

-- A method.
module _ (k : Relation) (x y : RawMethod) where
  pub method-state : (M : ℕ → ℕ → Bool) → state_rule k (state_of x.state) (state_of y.state) ≡ false → So (method_rule k M (method_of x) (method_of y)) → ⊥
  unfolding method_rule
  method-state M e w = clash (first (state_rule k (state_of x.state) (state_of y.state)) _ w) e

  module _ (e : state_rule k (state_of x.state) (state_of y.state) ≡ true) where
    pub method-off : (M : ℕ → ℕ → Bool) → (permit (state_of x.state) && permit (state_of y.state)) ≡ false → So (method_rule k M (method_of x) (method_of y))
    unfolding method_rule
    method-off M f = rw (e, f)

    pub method-on : (M : ℕ → ℕ → Bool) → (permit (state_of x.state) && permit (state_of y.state)) ≡ true
        → method_rule k M (method_of x) (method_of y) ≡ (args_rule M (take x.count x.args) (take y.count y.args) && answer_rule M (answer_of x.answer) (answer_of y.answer))
    unfolding method_rule
    method-on M f =
        let p = first (permit (state_of x.state)) _ f in
        let q = second (permit (state_of x.state)) _ f in
        rw (e, p, q)

-- The rules are monotone in the relation.
pub args-up : (xs ys : List ℕ) → Mono (λ M. args_rule M xs ys)
unfolding Mono Within
args-up xs ys M N i w = args-test N xs ys (args-mono {R = λ x y. So (M x y)} {Q = λ x y. So (N x y)} i xs ys (args-says M xs ys w))

pub method-up : (k : Relation) (x y : Method) → Mono (λ M. method_rule k M x y)
unfolding Mono Within
method-up k x y M N i w =
    let r = method-says M k x y w in
    method-test N k x y (record { state = r.state; signature = λ p q. signature-mono {R = λ x y. So (M x y)} {Q = λ x y. So (N x y)} i x y (r.signature p q) })
