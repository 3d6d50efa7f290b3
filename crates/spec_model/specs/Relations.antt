-- Rules R: the order of states, what it is to keep the rules of a relation, and the largest relation that does.
use Rattle.std.specs.Prelude.{Bool, true, false, ◌&&◌, ◌||◌, List, [], ◌∷◌, ℕ, zero, suc, ◌+◌, ◌*◌, ◌<◌, eqb, ℤ, get_or}
use Rattle.std.proofs.Math.Bool.{So}
use Rattle.std.specs.Bool.{beq}
use Rattle.std.proofs.Math.Option.{Option, none, some}
use Rattle.spec_model.specs.Basics.{Res, ok, need, ◌⇒◌, any, from, names, named}
use Rattle.spec_model.specs.Table.{State, denied, optional, avail, unavail, Rep, ref, w32, w64, Method, Ty, Table, no_method, size, type_at, method_at, is_ref, permit, is_avail}
use Rattle.spec_model.specs.Refusals.{unknown_type}
use Rattle.spec_model.specs.Table.{max_categories}

-- the order of states (R1)
abbrev pub state_le : State → State → Bool
state_le denied s = true
state_le optional denied = false
state_le optional optional = true
state_le optional avail = true
state_le optional unavail = true
state_le avail denied = false
state_le avail optional = false
state_le avail avail = true
state_le avail unavail = false
state_le unavail denied = false
state_le unavail optional = false
state_le unavail avail = false
state_le unavail unavail = true

-- the order of categories (T7): `links` at b are those that b names, and the fuel bounds the way
unfoldable pub reaches : ℕ → List (List ℕ) → ℕ → ℕ → Bool
reaches zero links a b = eqb a 0 || eqb a b
reaches (suc f) links a b = eqb a 0 || (eqb a b || any (λ c. reaches f links a c) (get_or links b []))

-- category 0 names no broader one
abbrev pub broader : Table → List (List ℕ)
broader t = [] ∷ t.cats

-- links fall, so as many steps as there are numbers of categories, 0 to 31, are enough
unfoldable pub cat_le : Table → ℕ → ℕ → Bool
unfolding reaches
cat_le t a b = reaches (suc max_categories) (broader t) a b

-- The four relations, and `conforms`, which is subtype but for own (R12). All are written with T first: the type that is wanted, then S, the one that is there (R2).
pub data Relation : Type 0 where
  subtype conforms strict loose free : Relation

abbrev pub same_rep : Rep → Rep → Bool
same_rep ref ref = true
same_rep ref w32 = false
same_rep ref w64 = false
same_rep w32 ref = false
same_rep w32 w32 = true
same_rep w32 w64 = false
same_rep w64 ref = false
same_rep w64 w32 = false
same_rep w64 w64 = true

-- a reference never stands for a number, but the widths are not told apart (R9 to R11)
abbrev pub same_sort : Rep → Rep → Bool
same_sort a b = beq (is_ref a) (is_ref b)

-- What a relation asks of the representation, category and own flag of T and S
unfoldable pub outer_rule : Relation → Table → Ty → Ty → Bool
unfolding cat_le
-- R8, R12
outer_rule subtype t x y = same_rep x.rep y.rep && (cat_le t x.cat y.cat && (x.own ⇒ y.own))
outer_rule conforms t x y = same_rep x.rep y.rep && cat_le t x.cat y.cat
-- R9
outer_rule strict t x y = same_sort x.rep y.rep && cat_le t x.cat y.cat
-- R10, R11
outer_rule loose t x y = same_sort x.rep y.rep
outer_rule free t x y = same_sort x.rep y.rep

-- What a relation asks of a method's states in T and in S
abbrev pub state_rule : Relation → State → State → Bool
-- R8
state_rule subtype a b = state_le a b
state_rule conforms a b = state_le a b
-- R9
state_rule strict a b = is_avail a ⇒ is_avail b
-- R10
state_rule loose a b = is_avail a ⇒ permit b
-- R11
state_rule free a b = true

-- as many arguments on both sides; what goes in is asked the other way round (R4, R6)
abbrev pub ArgsBy : (ℕ → ℕ → Type 0) → List ℕ → List ℕ → Type 0
ArgsBy R [] [] = Unit
ArgsBy R [] (y ∷ ys) = ⊥
ArgsBy R (x ∷ xs) [] = ⊥
ArgsBy R (x ∷ xs) (y ∷ ys) = R y x × ArgsBy R xs ys

-- an answer on both sides or on none; what comes out is asked the same way round (R4, R5)
abbrev pub AnswerBy : (ℕ → ℕ → Type 0) → Option ℕ → Option ℕ → Type 0
AnswerBy R none none = Unit
AnswerBy R none (some y) = ⊥
AnswerBy R (some x) none = ⊥
AnswerBy R (some x) (some y) = R x y

pub record SignatureBy (R : ℕ → ℕ → Type 0) (x y : Method) : Type 0 where
  pub args : ArgsBy R x.args y.args
  pub answer : AnswerBy R x.answer y.answer

-- Signatures count only for a method that both sides permit (R7).
pub record MethodBy (k : Relation) (R : ℕ → ℕ → Type 0) (x y : Method) : Type 0 where
  pub state : So (state_rule k x.state y.state)
  pub signature : So (permit x.state) → So (permit y.state) → SignatureBy R x y

-- The pair (a, b) satisfies the rule of the relation k, where R says which pairs of types in signatures are related.
pub record Rule (k : Relation) (t : Table) (R : ℕ → ℕ → Type 0) (a b : ℕ) : Type 0 where
  pub low : a < size t
  pub high : b < size t
  pub outer : So (outer_rule k t (type_at t a) (type_at t b))
  pub at : (m : ℕ) → MethodBy k R (method_at t a m) (method_at t b m)

-- R keeps the rules of k: each of its pairs satisfies them by R itself.
abbrev pub Keeps : Relation → Table → (ℕ → ℕ → Type 0) → Type 0
Keeps k t R = (a b : ℕ) → R a b → Rule k t R a b

-- R3: M keeps the rules, and whatever keeps them lies within M.
pub record Largest (k : Relation) (t : Table) (M : ℕ → ℕ → Bool) : Type 1 where
  pub keeps : Keeps k t (λ a b. So (M a b))
  pub above : (R : ℕ → ℕ → Type 0) → Keeps k t R → (a b : ℕ) → R a b → So (M a b)

-- The same rule as a test, over a relation that is computed
abbrev pub args_rule : (ℕ → ℕ → Bool) → List ℕ → List ℕ → Bool
args_rule M [] [] = true
args_rule M [] (y ∷ ys) = false
args_rule M (x ∷ xs) [] = false
args_rule M (x ∷ xs) (y ∷ ys) = M y x && args_rule M xs ys

abbrev pub answer_rule : (ℕ → ℕ → Bool) → Option ℕ → Option ℕ → Bool
answer_rule M none none = true
answer_rule M none (some y) = false
answer_rule M (some x) none = false
answer_rule M (some x) (some y) = M x y

unfoldable pub method_rule : Relation → (ℕ → ℕ → Bool) → Method → Method → Bool
method_rule k M x y = state_rule k x.state y.state && ((permit x.state && permit y.state) ⇒ (args_rule M x.args y.args && answer_rule M x.answer y.answer))

-- every method of the two; a list that ends is denied from there on
unfoldable pub every_method : (Method → Method → Bool) → List Method → List Method → Bool
every_method f [] [] = true
every_method f [] (y ∷ ys) = f no_method y && every_method f [] ys
every_method f (x ∷ xs) [] = f x no_method && every_method f xs []
every_method f (x ∷ xs) (y ∷ ys) = f x y && every_method f xs ys

unfoldable pub rule : Relation → Table → (ℕ → ℕ → Bool) → ℕ → ℕ → Bool
unfolding outer_rule method_rule every_method
rule k t M a b = outer_rule k t (type_at t a) (type_at t b) && every_method (method_rule k M) (type_at t a).methods (type_at t b).methods

-- The largest relation, by elimination: a square of yes and no, from which each round takes the pairs that break the rule by the square as it stands
abbrev pub Square : Type 0
Square = List (List Bool)

unfoldable pub square : ℕ → (ℕ → ℕ → Bool) → Square
unfolding from
square n f = from n 0 (λ a. from n 0 (λ b. f a b))

abbrev pub look : Square → ℕ → ℕ → Bool
look g a b = get_or (get_or g a []) b false

abbrev pub bit : Bool → ℕ
bit true = 1
bit false = 0

unfoldable pub yeses : List Bool → ℕ
yeses [] = 0
yeses (b ∷ bs) = bit b + yeses bs

unfoldable pub count : Square → ℕ
unfolding yeses
count [] = 0
count (r ∷ rs) = yeses r + count rs

unfoldable pub round : Relation → Table → Square → Square
unfolding rule square
round k t g = square (size t) (λ a b. look g a b && rule k t (look g) a b)

-- rounds until one takes nothing
unfoldable pub rounds : ℕ → Relation → Table → Square → Square
unfolding round count
rounds zero k t g = g
rounds (suc f) k t g = let g' = round k t g in elim (eqb (count g') (count g)) [ true ↦ g | false ↦ rounds f k t g' ]

unfoldable pub all_pairs : Table → Square
unfolding square
all_pairs t = square (size t) (λ a b. true)

-- what R3 asks for, computed: a round that goes on takes a pair, so as many rounds as pairs are enough
unfoldable pub related : Relation → Table → ℕ → ℕ → Bool
unfolding rounds all_pairs
related k t a b = look (rounds (size t * size t) k t (all_pairs t)) a b

-- Compare (R14)
pub record Comparison : Type 0 where
  pub subtype : Bool
  pub strict : Bool
  pub loose : Bool
  pub free : Bool

unfoldable pub compare : Table → ℤ → ℤ → Res Comparison
unfolding related
compare t a b = need (names a (size t) && names b (size t)) unknown_type λ _.
    ok
    (record
    { subtype = related subtype t (named a) (named b); strict = related strict t (named a) (named b); loose = related loose t (named a) (named b); free = related free t (named a) (named b) })
