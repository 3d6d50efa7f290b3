-- What every step of a derivation keeps, whatever the table: stated once over the property, then for the size, the 128 and the types that there were.
use mathlib.Core.Path.{◌≡◌, refl, ◌∙◌}
use mathlib.Core.Bool.{Bool, true, false, So}
use mathlib.Core.List.{List, [], ◌∷◌, ◌++◌}
use mathlib.Core.Option.{Option, none, some}
use Prim.Native.Nat.{ℕ, zero, suc, ◌≤◌, ◌<◌}
use native.Mathlib.Omega.{arith}
use lib.Dec.{ltb}
use lib.ListN.{set, length-append, length-set, get_or-append}
use lib.Seq.{get_or-set_other}
use Rattle.spec_model.specs.Basics.{then}
use Rattle.spec_model.specs.Table.{Kind, Method, Ty, Table, no_type, max_types, size, type_at, with_types, permit, signed, bare}
use Rattle.spec_model.specs.Restriction.{restricted, arg_kind, answer_kind, without_new, entry, pending, Derivation, derive_args, derive_answer, derive_method, derive_methods, make, derive}
use Rattle.spec_model.proofs.Tests.{ltb-so}
use Rattle.spec_model.proofs.Growth.{Grown, grown-refl, grown-trans}

-- Q holds of what is there, if anything is
abbrev pub IfSome : {A : Type 0} → Option A → (A → Type 0) → Type 0
IfSome none Q = Unit
IfSome (some a) Q = Q a

pub some_then : {A B : Type 0} (P : A → Type 0) (Q : B → Type 0) (m : Option A) (k : A → Option B) → IfSome m P → ((a : A) → P a → IfSome (k a) Q) → IfSome (then m k) Q
some_then P Q none k h f = tt
some_then P Q (some a) k h f = f a h

pub some-map : {A : Type 0} (P Q : A → Type 0) → ((a : A) → P a → Q a) → (m : Option A) → IfSome m P → IfSome m Q
some-map P Q f none h = tt
some-map P Q f (some a) h = f a h

-- the known type, or else the rest
pub some-pick : (Q : Table × ℕ → Type 0) (t : Table) (o : Option ℕ) (rest : Option (Table × ℕ)) → IfSome o (λ i. Q (t, i)) → IfSome rest Q
    → IfSome (elim o [ some i ↦ some (t, i) | none ↦ rest ]) Q
some-pick Q t none rest h k = k
some-pick Q t (some i) rest h k = h

-- the rest if there is room
pub some-room : (Q : Table × ℕ → Type 0) (b : Bool) (rest : Option (Table × ℕ)) → (So b → IfSome rest Q) → IfSome (elim b [ false ↦ none | true ↦ rest ]) Q
some-room Q false rest h = tt
some-room Q true rest h = h refl

-- a table with one type more, and with a type stored anew
abbrev pub pushed : Table → Ty → Table
pushed t e = with_types t (t.types ++ (e ∷ []))

abbrev pub stored : Table → ℕ → Ty → Table
stored t n e = with_types t (set t.types n e)

pub pushed-size : (t : Table) (e : Ty) → size (pushed t e) ≡ suc (size t)
pushed-size t e = length-append t.types (e ∷ []) ∙ omega arith

pub stored-size : (t : Table) (n : ℕ) (e : Ty) → size (stored t n e) ≡ size t
stored-size t n e = length-set t.types n e

pub pushed-grown : (t : Table) (e : Ty) → Grown t (pushed t e)
pushed-grown t e = record { subjects = refl; methods = refl; cats = refl; sheet = refl; more = omega (arith, pushed-size t e); same = λ i l. get_or-append t.types (e ∷ []) no_type i l }

-- A new type keeps P: it is pushed, those of its signatures are derived, and it is stored anew.
abbrev pub New : (Table → Table → Type 0) → Type 0
New P = (t u : Table) (e e' : Ty) → size t < max_types → P (pushed t e) u → P t (stored u (size t) e')

module _ (P : Table → Table → Type 0) (at_once : (t : Table) → P t t) (onward : (t u v : Table) → P t u → P u v → P t v) (new : New P) where
  abbrev pub Keeping : Derivation → Type 0
  Keeping rec = (t : Table) (d : Kind) (l r : ℕ) → IfSome (rec t d l r) (λ x. P t x.0)

  module _ (rec : Derivation) (g : Keeping rec) (d : Kind) where
    pub args-kept : (xs ys : List ℕ) (t : Table) → IfSome (derive_args rec d t xs ys) (λ x. P t x.0)
    unfolding derive_args
    args-kept [] ys t = at_once t
    args-kept (x ∷ xs) [] t = at_once t
    args-kept (x ∷ xs) (y ∷ ys) t = some_then _ _ (rec t (arg_kind d) y x) _ (g t (arg_kind d) y x) λ a p. some_then _ _ (derive_args rec d a.0 xs ys) _ (args-kept xs ys a.0) λ b q.
        onward t a.0 b.0 p q

    answer-kept : (x y : Option ℕ) (t : Table) → IfSome (derive_answer rec d t x y) (λ x. P t x.0)
    unfolding derive_answer
    answer-kept none y t = at_once t
    answer-kept (some x) none t = at_once t
    answer-kept (some x) (some y) t = some_then _ _ (rec t (answer_kind d) x y) _ (g t (answer_kind d) x y) λ a p. p

    pub method-kept : (x y : Method) (t : Table) → IfSome (derive_method rec d t x y) (λ x. P t x.0)
    unfolding derive_method
    method-kept x y t = go (permit (restricted d x.state y.state))
      where
        go : (b : Bool) → IfSome {A = Table × Method} (elim b [
          | false ↦ some (t, bare (restricted d x.state y.state))
          | true ↦ then (derive_args rec d t x.args y.args) λ p. then (derive_answer rec d p.0 x.answer y.answer) λ q.
              some (q.0, signed (restricted d x.state y.state) p.1 q.1)
        ]) (λ x. P t x.0)
        go false = at_once t
        go true = some_then _ _ (derive_args rec d t x.args y.args) _ (args-kept x.args y.args t) λ a p.
            some_then _ _ (derive_answer rec d a.0 x.answer y.answer) _ (answer-kept x.answer y.answer a.0) λ b q. onward t a.0 b.0 p q

    methods-kept : (xs ys : List Method) (t : Table) → IfSome (derive_methods rec d t xs ys) (λ x. P t x.0)
    unfolding derive_methods
    methods-kept [] ys t = at_once t
    methods-kept (x ∷ xs) [] t = at_once t
    methods-kept (x ∷ xs) (y ∷ ys) t = some_then _ _ (derive_method rec d t x y) _ (method-kept x y t) λ a p. some_then _ _ (derive_methods rec d a.0 xs ys) _ (methods-kept xs ys a.0) λ b q.
        onward t a.0 b.0 p q

  known_kept : (t : Table) (o : Option ℕ) → IfSome o (λ i. P t t)
  known_kept t none = tt
  known_kept t (some i) = at_once t

  make-kept : (rec : Derivation) → Keeping rec → Keeping (make rec)
  unfolding make
  make-kept rec g t d l r = some-pick (λ x. P t x.0) t (without_new t d l r) _ (known_kept t (without_new t d l r))
      (some-room (λ x. P t x.0) (ltb (size t) max_types) _ λ h.
      some_then _ (λ x. P t x.0) (derive_methods rec d (pushed t (pending t d l r)) (type_at t l).methods (type_at t r).methods) _
      (methods-kept rec g d (type_at t l).methods (type_at t r).methods (pushed t (pending t d l r)))
      λ p q. new t p.0 (pending t d l r) (entry t d l r p.1) (ltb-so h) q)

  pub derive-kept : (f : ℕ) → Keeping (derive f)
  unfolding derive
  derive-kept zero t d l r = some-pick (λ x. P t x.0) t (without_new t d l r) none (known_kept t (without_new t d l r)) tt
  derive-kept (suc f) t d l r = make-kept (derive f) (derive-kept f) t d l r

-- A table never shrinks,
abbrev pub Larger : Table → Table → Type 0
Larger t u = size t ≤ size u

pub larger-once : (t : Table) → Larger t t
larger-once t = omega arith

pub larger-onward : (t u v : Table) → Larger t u → Larger u v → Larger t v
larger-onward t u v p q = omega arith

pub larger-new : New Larger
larger-new t u e e' h p = omega (arith, pushed-size t e, stored-size u (size t) e')

pub derive-larger : (f : ℕ) → Keeping Larger larger-once larger-onward larger-new (derive f)
derive-larger = derive-kept Larger larger-once larger-onward larger-new

-- never goes past 128 types,
abbrev pub Roomy : Table → Table → Type 0
Roomy t u = size t ≤ max_types → size u ≤ max_types

pub derive-roomy : (f : ℕ) (t : Table) (d : Kind) (l r : ℕ) → IfSome (derive f t d l r) (λ x. Roomy t x.0)
derive-roomy = derive-kept Roomy (λ t h. h) (λ t u v p q h. q (p h)) λ t u e e' h p k.
    let m = p (omega (arith, pushed-size t e)) in omega (arith, stored-size u (size t) e')

-- and keeps every type that there was (D19)
pub derive-grown : (f : ℕ) (t : Table) (d : Kind) (l r : ℕ) → IfSome (derive f t d l r) (λ x. Grown t x.0)
derive-grown = derive-kept Grown grown-refl (λ t u v. grown-trans) λ t u e e' h q.
    let m = grown-trans (pushed-grown t e) q in
    record {
      subjects = m.subjects;
      methods = m.methods;
      cats = m.cats;
      sheet = m.sheet;
      more = omega (arith, m.more, stored-size u (size t) e');
      same = λ i s. get_or-set_other u.types (size t) i e' no_type (λ z. let w : i ≡ size t = z in omega arith) ∙ m.same i s;
    }
