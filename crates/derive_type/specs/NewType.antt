-- The record of a new type: its methods from the bytes of their slots, and how it is stored, at work and finished.
use Rattle.std.specs.Prelude.{◌≡◌, cond, List, [], ◌∷◌, map, ℕ, suc, ◌+◌, ◌*◌, ◌≤◌, ◌<◌, ltb, get_or, take}
use Rattle.std.proofs.Math.Bool.{So}
use Rattle.std.proofs.Math.Option.{none}
use Rattle.spec_model.specs.Table.{Kind, sub, sup, closed, Method, permit}
use Rattle.spec_model.specs.Restriction.{restricted}
use Rattle.spec_model.specs.Check.{RawMethod, RawType, no_raw_method, answer_of, method_of, raw_method_fits}
use Rattle.spec_model.specs.Records.{argument_slots}
use Rattle.table_record.specs.declared.Kind.{Kind as Kindᵃ}
use Rattle.table_record.specs.declared.TypeRec.{TypeRec}
use Rattle.table_record.specs.Store.{kind_is, kind_byte, raw_method, raw_of, empty_type, TypeExact}
use Rattle.derive_slots.specs.Slots.{method_slots}
use Rattle.derive_type.specs.declared.Work.{Work as WorkOf}

-- how many arguments both signatures have
abbrev pub shared : List ℕ → List ℕ → ℕ
shared [] ys = 0
shared (x ∷ xs) [] = 0
shared (x ∷ xs) (y ∷ ys) = suc (shared xs ys)

-- A method of the derived type, from what its slots came to: the arguments' numbers, and the answer's byte, 0 for none.
abbrev pub fill : Kind → Method → Method → List ℕ → ℕ → Method
fill d x y args answer = record {
  state = restricted d x.state y.state;
  args = cond (permit (restricted d x.state y.state)) (take (shared x.args y.args) args) [];
  answer = cond (permit (restricted d x.state y.state)) (answer_of answer) none;
}

-- method j, from the bytes of all slots
abbrev pub fill_at : Kind → (ℕ → Method) → (ℕ → Method) → List ℕ → ℕ → Method
fill_at d x y ns j = fill d (x j) (y j) (get_or ns (j * method_slots) 0 ∷ get_or ns (j * method_slots + 1) 0 ∷ get_or ns (j * method_slots + 2) 0 ∷ get_or ns (j * method_slots + 3) 0 ∷ [])
    (get_or ns (j * method_slots + argument_slots) 0)

-- method j of a type of the code: as it is stored, and what it means
abbrev pub raw_in : TypeRec → ℕ → RawMethod
raw_in x j = get_or (raw_of x).methods j no_raw_method

abbrev pub method_in : TypeRec → ℕ → Method
method_in x j = method_of (raw_in x j)

-- the codes of a stored method name something, as the check of a table handed in asks
abbrev pub MethodCoded : RawMethod → Type 0
MethodCoded m = So (raw_method_fits m)

-- A method as it is stored: without a signature, and with one of so many arguments, the bytes of the other slots being 0.
abbrev pub bare_method : ℕ → RawMethod
bare_method state = record { state = state; count = 0; args = 0 ∷ 0 ∷ 0 ∷ 0 ∷ []; answer = 0 }

abbrev pub slot_byte : ℕ → List ℕ → ℕ → ℕ
slot_byte count args i = cond (ltb i count) (get_or args i 0) 0

abbrev pub signed_method : ℕ → ℕ → List ℕ → ℕ → RawMethod
signed_method state count args answer =
    record { state = state; count = count; args = slot_byte count args 0 ∷ slot_byte count args 1 ∷ slot_byte count args 2 ∷ slot_byte count args 3 ∷ []; answer = answer }

-- A type at work whose key has a kind.
abbrev pub Work : Type 0
Work = WorkOf Kindᵃ

-- The kind of the type at work, and the category of the side that it keeps. Those named `_by` are for any kind that has a code and a meaning (`KindCode`).
abbrev pub kind_in : Work → Kind
kind_in w = kind_is w.key.kind

abbrev pub main_of : Kind → TypeRec → TypeRec → TypeRec
main_of sub x y = x
main_of sup x y = y
main_of closed x y = x

abbrev pub cat_by : {K : Type 0} → (K → Kind) → WorkOf K → ℕ
cat_by meaning w = (main_of (meaning w.key.kind) w.left w.right).head.cat

abbrev pub cat_in : Work → ℕ
cat_in = cat_by kind_is

-- A derived type as it is stored, and one at work, with every method denied.
abbrev pub record_by : {K : Type 0} → (K → ℕ) → (K → Kind) → WorkOf K → List RawMethod → RawType
record_by code meaning w ms = record { rep = 0; cat = cat_by meaning w; own = 0; kind = code w.key.kind; left = w.key.left; right = w.key.right; methods = ms }

abbrev pub pending_by : {K : Type 0} → (K → ℕ) → (K → Kind) → WorkOf K → RawType
pending_by code meaning w = record_by code meaning w (map raw_method empty_type.methods)

abbrev pub new_record : Work → List RawMethod → RawType
new_record = record_by kind_byte kind_is

abbrev pub pending_record : Work → RawType
pending_record = pending_by kind_byte kind_is

-- The finished type, from the bytes of its slots: it is stored exactly.
pub record Finished (w : Work) (ms : ℕ) (ns : List ℕ) (z : TypeRec) : Type 0 where
  pub head : raw_of z ≡ new_record w (raw_of z).methods
  pub filled : (j : ℕ) → j < ms → method_in z j ≡ fill_at (kind_in w) (method_in w.left) (method_in w.right) ns j
  pub exact : (sheet i : ℕ) → sheet ≤ i → TypeExact ms sheet i (raw_of z)
  pub coded : (j : ℕ) → j < ms → MethodCoded (raw_in w.left j) → MethodCoded (raw_in z j)
