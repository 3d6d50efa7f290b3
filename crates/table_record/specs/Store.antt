-- What proofs and contracts of steps say of stored records beside the layout, which is passed on.
use Rattle.std.specs.Prelude.{◌≡◌, Option, None, Some, Bool, not, ◌&&◌, ℕ, ◌*◌, ◌<◌, eqb, ltb, List, [], ◌∷◌, map, length, get_or, replicate}
use Rattle.std.proofs.Math.Option.{none, some}
use Rattle.std.proofs.Math.Option.{Option as Optionᵐ}
use Rattle.std.proofs.lemmas.List.Edits.{sets}
use Rattle.spec_model.specs.Basics.{from}
use Rattle.spec_model.specs.Table.{Ty, is_ref, sub, sup, closed, max_methods}
use Rattle.spec_model.specs.Table.{Kind as Kindᵐ}
use Rattle.spec_model.specs.Table.{Method as Methodᵐ}
use Rattle.spec_model.specs.Check.{RawMethod, RawType, RawLinks, no_raw_type, no_raw_method, no_raw_links, method_of, type_of, rep_of, links_of}
use Rattle.table_record.specs.declared.Kind.{Kind}
use Rattle.table_record.specs.declared.Kind.TheVariants.{Sub, Sup, Closed}
use Rattle.table_record.specs.declared.Method.{Method}
use Rattle.table_record.specs.declared.TypeRec.{TypeRec}
use Rattle.table_record.specs.declared.Links.{Links}
use Rattle.spec_model.specs.Records.{method_record, type_record, argument_slots, kind_code}
pub use Rattle.table_record.specs.Layout.{raw_method_at, raw_type_at, raw_links_at, head_of, raw_table, with_count, method_bytes, head_bytes, spare_bytes, methods_bytes, links_bytes, empty_counts}
pub use Rattle.table_record.specs.Layout.{type_size, head_size, method_size, link_size, types_size, links_size}
unfoldable pub use Rattle.table_record.specs.Layout.{raw_methods_at, types_in, links_in, table_in, record_bytes, empty_types, empty_links}

-- The model's option.
abbrev pub option_of : {A : Type 0} → Option A → Optionᵐ A
option_of None = none
option_of (Some x) = some x

-- The model's kind.
abbrev pub kind_is : Kind → Kindᵐ
kind_is Sub = sub
kind_is Sup = sup
kind_is Closed = closed

-- The byte that a kind is stored as.
abbrev pub kind_byte : Kind → ℕ
kind_byte k = kind_code (kind_is k)

-- The code's records as the model's.
abbrev pub raw_method : Method → RawMethod
raw_method m = record { state = m.state; count = m.count; args = m.args; answer = m.answer }

abbrev pub raw_of : TypeRec → RawType
raw_of t = record { rep = t.head.rep; cat = t.head.cat; own = t.head.own; kind = t.head.kind; left = t.head.left; right = t.head.right; methods = map raw_method t.methods }

abbrev pub raw_links : Links → RawLinks
raw_links x = record { count = x.count; first = x.first; second = x.second }

-- The first n records as the model's types, in a table of so many methods and sheet types.
unfoldable pub types_to : ℕ → ℕ → ℕ → List RawType → List Ty
types_to methods sheet n rs = from n 0 (λ i. type_of methods sheet i (get_or rs i no_raw_type))

-- Method j of type i, as it is stored and as it is meant, and the broader categories that category k names.
abbrev pub raw_in : List ℕ → ℕ → ℕ → RawMethod
raw_in b i j = get_or (get_or (types_in b) i no_raw_type).methods j no_raw_method

abbrev pub method_in : List ℕ → ℕ → ℕ → Methodᵐ
method_in b i j = method_of (raw_in b i j)

abbrev pub broader_of : List ℕ → ℕ → List ℕ
broader_of l k = links_of (get_or (links_in l) k no_raw_links)

-- a reference type, as it is stored
abbrev pub ref_as : RawType → Bool
ref_as x = is_ref (rep_of x.rep)

-- Type t is a reference type of the first n.
abbrev pub ref_in : ℕ → List ℕ → ℕ → Bool
ref_in n b t = ltb t n && ref_as (get_or (types_in b) t no_raw_type)

-- own=yes: only a reference type has the flag
abbrev pub own_of : RawType → Bool
own_of x = is_ref (rep_of x.rep) && eqb x.own 1

-- what may stand in a signature, as it is stored: `may_stand` of what it means
abbrev pub may_stand_as : RawType → Bool
may_stand_as x = not (own_of x)

-- as many methods, with as many argument slots each, as the arrays of the code have
pub record Shaped (x : RawType) : Type 0 where
  pub methods : length x.methods ≡ max_methods
  pub slots : (j : ℕ) → j < max_methods → length (get_or x.methods j no_raw_method).args ≡ argument_slots

-- b' is b with the record x as type i, every byte of it.
pub record Put (b : List ℕ) (i : ℕ) (x : RawType) (b' : List ℕ) : Type 0 where
  pub bytes : b' ≡ sets b (i * type_size) (record_bytes x)
  pub shaped : Shaped x

abbrev pub empty_method : Method
empty_method = record { state = 0; count = 0; args = 0 ∷ 0 ∷ 0 ∷ 0 ∷ []; answer = 0 }

-- the record of a method that isn't there: denied, and every byte of it is 0 (B18)
abbrev pub blank_method : RawMethod
blank_method = record { state = 0; count = 0; args = 0 ∷ 0 ∷ 0 ∷ 0 ∷ []; answer = 0 }

abbrev pub empty_type : TypeRec
empty_type = record { head = record { rep = 0; cat = 0; own = 0; kind = 0; left = 0; right = 0 }; methods = replicate max_methods empty_method }

-- A stored record is exact if it is the one that stands for what it means.
abbrev pub MethodExact : RawMethod → Type 0
MethodExact m = method_record (method_of m) ≡ m

unfoldable pub TypeExact : ℕ → ℕ → ℕ → RawType → Type 0
TypeExact ms sh i x = type_record (type_of ms sh i x) ≡ x
