-- Rules D: Sub, Sup and Closed, over a table that grows.
use Rattle.std.specs.Prelude.{Bool, true, false, not, ◌&&◌, cond, List, [], ◌∷◌, ◌++◌, ℕ, zero, suc, eqb, ltb, set}
use Rattle.std.proofs.Math.Option.{Option, none, some}
use Rattle.spec_model.specs.Basics.{Res, refuse, ok, then, from}
use Rattle.spec_model.specs.Table.{State, denied, optional, avail, unavail, Kind, sub, sup, closed, Key, Method, Ty, Table, no_method, max_types, size, type_at, with_types, is_ref, permit}
use Rattle.spec_model.specs.Table.{is_avail, signed, bare}
use Rattle.spec_model.specs.Refusals.{types_full}

-- what a state becomes on something that is settled: an adapter is, as a class is (D8)
abbrev pub shut : State → State
shut denied = unavail
shut optional = avail
shut avail = avail
shut unavail = unavail

-- A method's state in the derived type, from its states on the left and on the right
abbrev pub restricted : Kind → State → State → State
-- what the left side alone permits is gone (D2)
restricted sub a b = cond (permit a && not (permit b)) unavail a
-- what the right side alone permits is not to be asked for (D4)
restricted sup a b = cond (permit b && not (permit a)) denied b
-- there is only what the object behind really has and the left side lets through (D8)
restricted closed a b = cond (is_avail b) (shut (cond (permit a && not (permit b)) unavail a)) unavail

-- by which kind the types in a signature are derived: answers by the same kind, arguments by the other (D5, D6); Closed has the signatures of Sub (D9)
abbrev pub arg_kind : Kind → Kind
arg_kind sub = sup
arg_kind sup = sub
arg_kind closed = sup

abbrev pub answer_kind : Kind → Kind
answer_kind sub = sub
answer_kind sup = sup
answer_kind closed = sub

-- the side whose category and representation the derived type has (D1, D3, D7)
abbrev pub main_side : Kind → ℕ → ℕ → ℕ
main_side sub l r = l
main_side sup l r = r
main_side closed l r = l

abbrev pub same_kind : Kind → Kind → Bool
same_kind sub sub = true
same_kind sub sup = false
same_kind sub closed = false
same_kind sup sub = false
same_kind sup sup = true
same_kind sup closed = false
same_kind closed sub = false
same_kind closed sup = false
same_kind closed closed = true

abbrev pub is_key : Kind → ℕ → ℕ → Option Key → Bool
is_key d l r none = false
is_key d l r (some k) = same_kind d k.kind && (eqb l k.left && eqb r k.right)

-- the lowest type with that key (D14)
unfoldable pub find : Kind → ℕ → ℕ → ℕ → List Ty → Option ℕ
find d l r i [] = none
find d l r i (x ∷ xs) = elim (is_key d l r x.key) [ true ↦ some i | false ↦ find d l r (suc i) xs ]

-- What needs no new type: the same type twice, numbers, and what is known already (D12 to D14).
unfoldable pub without_new : Table → Kind → ℕ → ℕ → Option ℕ
unfolding find
without_new t sub l r = elim (eqb l r) [ true ↦ some l | false ↦ elim (is_ref (type_at t l).rep && is_ref (type_at t r).rep) [ true ↦ find sub l r 0 t.types | false ↦ some l ] ]
without_new t sup l r = elim (eqb l r) [ true ↦ some l | false ↦ elim (is_ref (type_at t l).rep && is_ref (type_at t r).rep) [ true ↦ find sup l r 0 t.types | false ↦ some r ] ]
without_new t closed l r = find closed l r 0 t.types

-- a derived type with these methods (D11)
abbrev pub entry : Table → Kind → ℕ → ℕ → List Method → Ty
entry t d l r ms = record { rep = (type_at t (main_side d l r)).rep; cat = (type_at t (main_side d l r)).cat; own = false; methods = ms; key = some (record { kind = d; left = l; right = r }) }

-- A new type has its number and key from the start, so that its own signatures can lead back to it (D16); until they are there every method is denied, which nothing reads.
abbrev pub pending : Table → Kind → ℕ → ℕ → Ty
pending t d l r = entry t d l r (from t.methods 0 (λ _. no_method))

-- A derivation gives the table as it has become and the number of the type, or nothing if the table is full.
abbrev pub Derivation : Type 0
Derivation = Table → Kind → ℕ → ℕ → Option (Table × ℕ)

-- one after the other, each on the table that the one before left (D17); `rec` derives the types in signatures
unfoldable pub derive_args : Derivation → Kind → Table → List ℕ → List ℕ → Option (Table × List ℕ)
derive_args rec d t [] ys = some (t, [])
derive_args rec d t (x ∷ xs) [] = some (t, [])
derive_args rec d t (x ∷ xs) (y ∷ ys) = then (rec t (arg_kind d) y x) λ p. then (derive_args rec d p.0 xs ys) λ q. some (q.0, p.1 ∷ q.1)

unfoldable pub derive_answer : Derivation → Kind → Table → Option ℕ → Option ℕ → Option (Table × Option ℕ)
derive_answer rec d t none y = some (t, none)
derive_answer rec d t (some x) none = some (t, none)
derive_answer rec d t (some x) (some y) = then (rec t (answer_kind d) x y) λ p. some (p.0, some p.1)

unfoldable pub derive_method : Derivation → Kind → Table → Method → Method → Option (Table × Method)
unfolding derive_args derive_answer
derive_method rec d t x y = let s = restricted d x.state y.state in elim (permit s) [
  | false ↦ some (t, bare s)
  | true ↦ then (derive_args rec d t x.args y.args) λ p. then (derive_answer rec d p.0 x.answer y.answer) λ q. some (q.0, signed s p.1 q.1)
]

unfoldable pub derive_methods : Derivation → Kind → Table → List Method → List Method → Option (Table × List Method)
unfolding derive_method
derive_methods rec d t [] ys = some (t, [])
derive_methods rec d t (x ∷ xs) [] = some (t, [])
derive_methods rec d t (x ∷ xs) (y ∷ ys) = then (derive_method rec d t x y) λ p. then (derive_methods rec d p.0 xs ys) λ q. some (q.0, p.1 ∷ q.1)

-- one type, `rec` deriving those of its signatures (D15 to D17)
unfoldable pub make : Derivation → Derivation
unfolding without_new derive_methods
make rec t d l r = elim (without_new t d l r) [
  | some i ↦ some (t, i)
  | none ↦ elim (ltb (size t) max_types) [
    | false ↦ none
    | true ↦ let n = size t in
        then (derive_methods rec d (with_types t (t.types ++ (pending t d l r ∷ []))) (type_at t l).methods (type_at t r).methods) λ p.
        some (with_types p.0 (set p.0.types n (entry t d l r p.1)), n)
  ]
]

-- Every turn that calls for another has taken a number, and there are 128 (D18): fuel of 128 is at least what is left, and more changes nothing.
unfoldable pub derive : ℕ → Derivation
unfolding make
derive zero t d l r = elim (without_new t d l r) [ some i ↦ some (t, i) | none ↦ none ]
derive (suc f) t d l r = make (derive f) t d l r

-- no number is free: 11 (D15)
unfoldable pub derived : Table → Kind → ℕ → ℕ → Res (Table × ℕ)
unfolding derive
derived t d l r = elim (derive max_types t d l r) [ none ↦ refuse types_full | some p ↦ ok p ]
