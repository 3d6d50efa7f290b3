-- The fuel of a derivation does not matter once it covers the free type numbers; so one step of it calls itself.
use mathlib.Core.Path.{◌≡◌, refl, ap, sym, ◌∙◌}
use mathlib.Core.Bool.{Bool, true, false}
use mathlib.Core.List.{List, [], ◌∷◌}
use mathlib.Core.Option.{Option, none, some}
use Prim.Native.Nat.{ℕ, zero, suc, ◌+◌, ◌-◌, ◌≤◌, ◌<◌}
use native.Mathlib.Omega.{arith}
use lib.Dec.{ltb}
use lib.ListN.{set, length-append}
use Rattle.spec_model.specs.Basics.{then}
use Rattle.spec_model.specs.Table.{Kind, Method, Table, size, type_at, permit, with_types, signed, bare, max_types}
use Rattle.spec_model.specs.Restriction.{restricted, arg_kind, answer_kind, without_new, entry, pending, Derivation, derive_args, derive_answer, derive_method, derive_methods, make, derive}
use Rattle.spec_model.proofs.Tests.{ltb-so}
use Rattle.law_model.proofs.Deriving.{IfSome, Keeping, Larger, larger-once, larger-onward, larger-new, args-kept, method-kept, derive-larger}

-- two ways to derive that agree from n types on
abbrev Agree : ℕ → Derivation → Derivation → Type 0
Agree n f g = (t : Table) (d : Kind) (l r : ℕ) → n ≤ size t → f t d l r ≡ g t d l r

then_same : {A B : Type 0} (P : A → Type 0) (m m' : Option A) (k k' : A → Option B) → m ≡ m' → IfSome m P → ((a : A) → P a → k a ≡ k' a) → then m k ≡ then m' k'
then_same {A} {B} P m m' k k' e h f = go m h ∙ ap (λ x. then x k') e
  where
    go : (m : Option A) → IfSome m P → then m k ≡ then m k'
    go none h = refl
    go (some a) h = f a h

module _ (n : ℕ) (f g : Derivation) (grows : Keeping Larger larger-once larger-onward larger-new f) (same : Agree n f g) (d : Kind) where
  args-agree : (xs ys : List ℕ) (t : Table) → n ≤ size t → derive_args f d t xs ys ≡ derive_args g d t xs ys
  unfolding derive_args
  args-agree [] ys t l = refl
  args-agree (x ∷ xs) [] t l = refl
  args-agree (x ∷ xs) (y ∷ ys) t l = then_same (λ z. size t ≤ size z.0) (f t (arg_kind d) y x) (g t (arg_kind d) y x) _ _ (same t (arg_kind d) y x l) (grows t (arg_kind d) y x)
      λ a p. ap (λ m. then m λ q. some (q.0, a.1 ∷ q.1)) (args-agree xs ys a.0 (omega arith))

  answer-agree : (x y : Option ℕ) (t : Table) → n ≤ size t → derive_answer f d t x y ≡ derive_answer g d t x y
  unfolding derive_answer
  answer-agree none y t l = refl
  answer-agree (some x) none t l = refl
  answer-agree (some x) (some y) t l = ap (λ m. then m λ p. some (p.0, some p.1)) (same t (answer_kind d) x y l)

  method-agree : (x y : Method) (t : Table) → n ≤ size t → derive_method f d t x y ≡ derive_method g d t x y
  unfolding derive_method
  method-agree x y t l = go (permit (restricted d x.state y.state))
    where
      w : Derivation → Option (Table × Method)
      w rec = then (derive_args rec d t x.args y.args) λ p. then (derive_answer rec d p.0 x.answer y.answer) λ q. some (q.0, signed (restricted d x.state y.state) p.1 q.1)

      both : w f ≡ w g
      both = then_same (λ z. size t ≤ size z.0) (derive_args f d t x.args y.args) (derive_args g d t x.args y.args) _ _ (args-agree x.args y.args t l)
          (args-kept Larger larger-once larger-onward larger-new f grows d x.args y.args t)
          λ a p. ap (λ m. then m λ q. some (q.0, signed (restricted d x.state y.state) a.1 q.1)) (answer-agree x.answer y.answer a.0 (omega arith))

      go : (b : Bool) → ◌≡◌ {A = Option (Table × Method)} (elim b [ false ↦ some (t, bare (restricted d x.state y.state)) | true ↦ w f ])
          (elim b [ false ↦ some (t, bare (restricted d x.state y.state)) | true ↦ w g ])
      go false = refl
      go true = both

  methods-agree : (xs ys : List Method) (t : Table) → n ≤ size t → derive_methods f d t xs ys ≡ derive_methods g d t xs ys
  unfolding derive_methods
  methods-agree [] ys t l = refl
  methods-agree (x ∷ xs) [] t l = refl
  methods-agree (x ∷ xs) (y ∷ ys) t l =
      then_same (λ z. size t ≤ size z.0) (derive_method f d t x y) (derive_method g d t x y) _ _ (method-agree x y t l) (method-kept Larger larger-once larger-onward larger-new f grows d x y t)
      λ a p. ap (λ m. then m λ q. some (q.0, a.1 ∷ q.1)) (methods-agree xs ys a.0 (omega arith))

make-agree : (f g : Derivation) → Keeping Larger larger-once larger-onward larger-new f → (t : Table) → Agree (suc (size t)) f g → (d : Kind) (l r : ℕ) → make f t d l r ≡ make g t d l r
unfolding make
make-agree f g grows t same d l r =
    ap
    (λ m.
    elim (without_new t d l r) as
    (λ _. Option (Table × ℕ)) [
      | some i ↦ some (t, i)
      | none ↦ elim
          (ltb (size t) max_types) [ false ↦ none | true ↦ then {A = Table × List Method} m λ p. some (with_types p.0 (set p.0.types (size t) (entry t d l r p.1)), size t) ]
    ])
    (methods-agree (suc (size t)) f g grows same d (type_at t l).methods (type_at t r).methods _ (omega (arith, length-append t.types (pending t d l r ∷ []))))

full : (f : Derivation) (t : Table) (d : Kind) (l r : ℕ) → max_types ≤ size t → derive zero t d l r ≡ make f t d l r
unfolding derive make
full f t d l r h = go (ltb (size t) max_types) refl _
  where
    go : (b : Bool) → ltb (size t) max_types ≡ b → (m : Option (Table × ℕ)) → ◌≡◌ {A = Option (Table × ℕ)} (elim (without_new t d l r) [ some i ↦ some (t, i) | none ↦ none ])
        (elim (without_new t d l r) [ some i ↦ some (t, i) | none ↦ elim b [ false ↦ none | true ↦ m ] ])
    go true e m = let p : size t < max_types = ltb-so e in absurd (omega arith)
    go false e m = refl

-- 128 is enough (D18): any two amounts that cover the free type numbers give the same
pub derive-fuel : (f g : ℕ) (t : Table) (d : Kind) (l r : ℕ) → max_types ≤ f + size t → max_types ≤ g + size t → derive f t d l r ≡ derive g t d l r
unfolding derive
derive-fuel zero zero t d l r p q = refl
derive-fuel zero (suc g) t d l r p q = full (derive g) t d l r (omega arith)
derive-fuel (suc f) zero t d l r p q = sym (full (derive f) t d l r (omega arith))
derive-fuel (suc f) (suc g) t d l r p q = make-agree (derive f) (derive g) (derive-larger f) t (λ u e a b h. derive-fuel f g u e a b (omega arith) (omega arith)) d l r

-- the equation that a function meets which calls itself
pub derive-self : (t : Table) (d : Kind) (l r : ℕ) → derive max_types t d l r ≡ make (derive max_types) t d l r
unfolding derive
derive-self t d l r = make-agree (derive (max_types - 1)) (derive max_types) (derive-larger (max_types - 1)) t (λ u e a b h. derive-fuel (max_types - 1) max_types u e a b (omega arith) (omega arith)) d l r
