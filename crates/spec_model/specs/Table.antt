-- Rules T: types, categories, and what a table must keep to.
use Rattle.std.specs.Prelude.{Bool, true, false, not, ◌&&◌, cond, List, [], ◌∷◌, ℕ, eqb, ltb, leb, length, get_or}
use Rattle.std.proofs.Math.Option.{Option, none, some}
use Rattle.std.proofs.Math.ListN.{get_elem?}
use Rattle.spec_model.specs.Basics.{◌⇒◌, all, every, unless_missing}

-- the most of each that a table may have (T1 to T4)
abbrev pub max_subjects : ℕ
max_subjects = 16

abbrev pub max_methods : ℕ
max_methods = 16

abbrev pub max_categories : ℕ
max_categories = 31

abbrev pub max_sheet_types : ℕ
max_sheet_types = 48

-- sheet types and derived ones together (T5)
abbrev pub max_types : ℕ
max_types = 128

-- of one signature (T13)
abbrev pub max_arguments : ℕ
max_arguments = 4

-- the broader categories that one category names (T6)
abbrev pub max_broader : ℕ
max_broader = 2

-- what values of a type are: references, or signed numbers of a width (T8)
pub data Rep : Type 0 where
  ref w32 w64 : Rep

-- what a type says of a method (T10)
pub data State : Type 0 where
  denied optional avail unavail : State

-- the three ways in which a type is derived from two others
pub data Kind : Type 0 where
  sub sup closed : Kind

-- what a derived type was derived from, and how: by this it is found again (T17, D14)
pub record Key : Type 0 where
  pub kind : Kind
  pub left : ℕ
  pub right : ℕ

-- A method of a type: its state and, where that permits the method, its signature: the argument types and the answer type, if any.
pub record Method : Type 0 where
  pub state : State
  pub args : List ℕ
  pub answer : Option ℕ

-- A type. A number type has no methods and own=no (T11); a sheet type has no key (T17).
pub record Ty : Type 0 where
  pub rep : Rep
  pub cat : ℕ
  pub own : Bool
  pub methods : List Method
  pub key : Option Key

-- The table. `cats` has for each category, from 1 on, the broader categories that it names; `sheet` is the number of sheet types.
pub record Table : Type 0 where
  pub subjects : ℕ
  pub methods : ℕ
  pub cats : List (List ℕ)
  pub sheet : ℕ
  pub types : List Ty

-- a method's state with a signature, and without one
abbrev pub signed : State → List ℕ → Option ℕ → Method
signed s xs a = record { state = s; args = xs; answer = a }

abbrev pub bare : State → Method
bare s = signed s [] none

-- what is read where there is no such method (T19), or no such type
abbrev pub no_method : Method
no_method = bare denied

abbrev pub no_type : Ty
no_type = record { rep = w32; cat = 0; own = false; methods = []; key = none }

abbrev pub size : Table → ℕ
size t = length t.types

abbrev pub type_at : Table → ℕ → Ty
type_at t i = get_or t.types i no_type

abbrev pub method_at : Table → ℕ → ℕ → Method
method_at t i m = get_or (type_at t i).methods m no_method

-- argument i of method m, and its answer, in type l's signature
abbrev pub argument_at : Table → ℕ → ℕ → ℕ → Option ℕ
argument_at t m i l = get_elem? (method_at t l m).args i

abbrev pub answer_at : Table → ℕ → ℕ → Option ℕ
answer_at t m l = (method_at t l m).answer

abbrev pub with_types : Table → List Ty → Table
with_types t ts = record { subjects = t.subjects; methods = t.methods; cats = t.cats; sheet = t.sheet; types = ts }

abbrev pub is_ref : Rep → Bool
is_ref ref = true
is_ref w32 = false
is_ref w64 = false

-- the states by which a method may be used or handed on; they alone have a signature (T12)
abbrev pub permit : State → Bool
permit denied = false
permit optional = true
permit avail = true
permit unavail = false

abbrev pub is_avail : State → Bool
is_avail denied = false
is_avail optional = false
is_avail avail = true
is_avail unavail = false

-- avail or unavail
abbrev pub is_settled : State → Bool
is_settled denied = false
is_settled optional = false
is_settled avail = true
is_settled unavail = true

-- a type that objects can be made of: nothing about it is left open (T16)
abbrev pub is_class : Ty → Bool
is_class x = is_ref x.rep && (not x.own && all (λ m. is_settled m.state) x.methods)

-- a count in its range
abbrev pub between : ℕ → ℕ → ℕ → Bool
between low high n = leb low n && leb n high

abbrev pub counts_fit : Table → Bool
counts_fit t = between 1 max_subjects t.subjects && (between 1 max_methods t.methods && (leb (length t.cats) max_categories
    && (between 1 max_sheet_types t.sheet && (leb t.sheet (size t) && leb (size t) max_types))))

-- what category k may name: links only fall (T6)
abbrev pub links_fit : ℕ → List ℕ → Bool
links_fit k links = between 1 max_broader (length links) && all (λ c. ltb c k) links

-- What may stand in a signature: a type without own (T14).
abbrev pub may_stand : Ty → Bool
may_stand x = not x.own

-- type a may stand in a signature whose types are the first n
abbrev pub stands_in : Table → ℕ → ℕ → Bool
stands_in t n a = ltb a n && may_stand (type_at t a)

abbrev pub is_none {ℓ} : {A : Type ℓ} → Option A → Bool
is_none none = true
is_none (some x) = false

abbrev pub is_nil {ℓ} : {A : Type ℓ} → List A → Bool
is_nil [] = true
is_nil (x ∷ xs) = false

-- A method that is permitted has a signature within T13 to T15, any other has none (T12).
abbrev pub signature_fits : Table → ℕ → Method → Bool
signature_fits t n m = elim (permit m.state) [
  | true ↦ leb (length m.args) max_arguments && (all (stands_in t n) m.args && unless_missing m.answer (stands_in t n))
  | false ↦ is_nil m.args && is_none m.answer
]

-- a reference type says something of every method, a number type of none (T10, T11)
abbrev pub method_count : Rep → ℕ → ℕ
method_count ref n = n
method_count w32 n = 0
method_count w64 n = 0

-- Only a derived type, from the number of sheet types on, has a key, of types in the table (T17).
abbrev pub key_fits : Table → ℕ → Option Key → Bool
key_fits t i none = ltb i t.sheet
key_fits t i (some k) = leb t.sheet i && (ltb k.left (size t) && ltb k.right (size t))

-- the types that the signatures of type i may name are the first so many: a sheet type names sheet types only (T15)
abbrev pub signature_bound : Table → ℕ → ℕ
signature_bound t i = cond (ltb i t.sheet) t.sheet (size t)

abbrev pub type_fits : Table → ℕ → Ty → Bool
type_fits t i x = leb x.cat (length t.cats) && ((x.own ⇒ is_ref x.rep) && (eqb (length x.methods) (method_count x.rep t.methods)
    && (all (signature_fits t (signature_bound t i)) x.methods && key_fits t i x.key)))

-- A table that keeps T1 to T17.
unfoldable pub table_fits : Table → Bool
table_fits t = counts_fit t && (every links_fit 1 t.cats && every (type_fits t) 0 t.types)

-- What a sheet describes: such a table with sheet types only (T18).
unfoldable pub valid_sheet : Table → Bool
unfolding table_fits
valid_sheet t = table_fits t && eqb t.sheet (size t)
