-- What a derived type of a table is, from the two types that its key names.
use mathlib.Core.Path.{◌≡◌}
use mathlib.Core.Bool.{Bool, true, false, So}
use mathlib.Core.List.{List, [], ◌∷◌}
use mathlib.Core.Option.{Option, none, some}
use Prim.Native.Nat.{ℕ, ◌<◌}
use Rattle.spec_model.specs.Basics.{AllBelow}
use Rattle.spec_model.specs.Table.{Kind, sub, sup, closed, Key, Method, Table, no_method, size, type_at, method_at, permit, is_ref}
use Rattle.spec_model.specs.Relations.{cat_le}
use Rattle.spec_model.specs.Restriction.{restricted, arg_kind, answer_kind, main_side}

-- an answer type, where there is one, below n
abbrev pub AnswerBelow : ℕ → Option ℕ → Type 0
AnswerBelow n none = Unit
AnswerBelow n (some x) = x < n

-- the order of categories is reflexive and transitive
pub record CategoryOrder (t : Table) : Type 0 where
  pub self : (a : ℕ) → So (cat_le t a a)
  pub through : (a b c : ℕ) → So (cat_le t a b) → So (cat_le t b c) → So (cat_le t a c)

-- every type in a signature lies in the table
abbrev pub SignaturesIn : Table → Type 0
SignaturesIn t = (a m : ℕ) → AllBelow (size t) (method_at t a m).args × AnswerBelow (size t) (method_at t a m).answer

-- Sub and Sup are known without a key where the two sides are one type, or numbers
abbrev pub is_open : Kind → Bool
is_open sub = true
is_open sup = true
is_open closed = false

-- i is what the kind d makes of l and r
pub data Known (t : Table) (d : Kind) (l r i : ℕ) : Type 0 where
  itself : So (is_open d) → l ≡ r → i ≡ l → Known t d l r i
  of_number : l < size t → So (is_open d) → is_ref (type_at t l).rep ≡ false → i ≡ main_side d l r → Known t d l r i
  made : i < size t → (type_at t i).key ≡ some (record { kind = d; left = l; right = r }) → Known t d l r i

-- argument by argument, with sides exchanged
abbrev pub ArgsFrom : (ℕ → ℕ → ℕ → Type 0) → List ℕ → List ℕ → List ℕ → Type 0
ArgsFrom P [] ys [] = Unit
ArgsFrom P [] ys (z ∷ zs) = ⊥
ArgsFrom P (x ∷ xs) [] [] = Unit
ArgsFrom P (x ∷ xs) [] (z ∷ zs) = ⊥
ArgsFrom P (x ∷ xs) (y ∷ ys) [] = ⊥
ArgsFrom P (x ∷ xs) (y ∷ ys) (z ∷ zs) = P y x z × ArgsFrom P xs ys zs

abbrev pub AnswerFrom : (ℕ → ℕ → ℕ → Type 0) → Option ℕ → Option ℕ → Option ℕ → Type 0
AnswerFrom P none y none = Unit
AnswerFrom P none y (some z) = ⊥
AnswerFrom P (some x) none none = Unit
AnswerFrom P (some x) none (some z) = ⊥
AnswerFrom P (some x) (some y) none = ⊥
AnswerFrom P (some x) (some y) (some z) = P x y z

-- the signature z of a derived type, from those of its left and right side
pub record DerivedSignature (t : Table) (d : Kind) (x y z : Method) : Type 0 where
  pub args : ArgsFrom (Known t (arg_kind d)) x.args y.args z.args
  pub answer : AnswerFrom (Known t (answer_kind d)) x.answer y.answer z.answer

-- a method past the last, or one with its state and, where that permits it and only there, its signature
pub data DerivedMethod (t : Table) (d : Kind) (x y z : Method) : Type 0 where
  past : x ≡ no_method → y ≡ no_method → z ≡ no_method → DerivedMethod t d x y z
  here : z.state ≡ restricted d x.state y.state → (So (permit z.state) → DerivedSignature t d x y z) → (permit z.state ≡ false → (z.args ≡ []) × (z.answer ≡ none))
      → DerivedMethod t d x y z

-- type i is what its key k says
pub record DerivedType (t : Table) (k : Key) (i : ℕ) : Type 0 where
  pub low : k.left < size t
  pub high : k.right < size t
  pub rep : (type_at t i).rep ≡ (type_at t (main_side k.kind k.left k.right)).rep
  pub cat : (type_at t i).cat ≡ (type_at t (main_side k.kind k.left k.right)).cat
  pub own : (type_at t i).own ≡ false
  pub at : (m : ℕ) → DerivedMethod t k.kind (method_at t k.left m) (method_at t k.right m) (method_at t i m)

-- every derived type of the table is what its key says
abbrev pub Complete : Table → Type 0
Complete t = (i : ℕ) (k : Key) → (type_at t i).key ≡ some k → DerivedType t k i
