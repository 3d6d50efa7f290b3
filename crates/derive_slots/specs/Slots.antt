-- Restriction as the code goes through it: five slots to a method, four for arguments and one for the answer, the slots of all methods in one row.
use Rattle.std.specs.Prelude.{not, ◌&&◌, cond, List, [], ◌∷◌, ℕ, zero, suc, ◌*◌, ◌/◌, ◌%◌, ◌<◌, ltb, get_or}
use Rattle.std.proofs.Math.Option.{Option, none, some}
use Rattle.spec_model.specs.Table.{State, Kind, Key, Method, permit, max_methods}
use Rattle.spec_model.specs.Restriction.{restricted}
use Rattle.spec_model.specs.Check.{no_raw_type, no_raw_method, kind_of, method_of}
use Rattle.spec_model.specs.Records.{argument_slots}
use Rattle.table_record.specs.declared.Head.{Head}
use Rattle.table_record.specs.Store.{types_in}
use Rattle.derive_slots.specs.declared.Slot.{Slot}
use Rattle.derive_slots.specs.declared.Slot.TheVariants.{Empty, Argument, Answer}

-- the slots of a method: its arguments, and its answer
abbrev pub method_slots : ℕ
method_slots = suc argument_slots

-- the slots of all methods
abbrev pub slots_size : ℕ
slots_size = max_methods * method_slots

-- What is derived for argument i of two signatures, the sides exchanged, and for their answers.
abbrev pub argument_slot : ℕ → List ℕ → List ℕ → Slot
argument_slot i [] ys = Empty
argument_slot i (x ∷ xs) [] = Empty
argument_slot zero (x ∷ xs) (y ∷ ys) = Argument y x
argument_slot (suc i) (x ∷ xs) (y ∷ ys) = argument_slot i xs ys

abbrev pub answer_slot : Option ℕ → Option ℕ → Slot
answer_slot none y = Empty
answer_slot (some x) none = Empty
answer_slot (some x) (some y) = Answer x y

-- slot i of a method; nothing where the derived type doesn't permit it
abbrev pub slot_of : Kind → Method → Method → ℕ → Slot
slot_of d x y i = cond (permit (restricted d x.state y.state)) (cond (ltb i argument_slots) (argument_slot i x.args y.args) (answer_slot x.answer y.answer)) Empty

-- slot k of all methods
abbrev pub slot_at : Kind → (ℕ → Method) → (ℕ → Method) → ℕ → Slot
slot_at d x y k = slot_of d (x (k / method_slots)) (y (k / method_slots)) (k % method_slots)

-- The numbers that a slot of bytes can name: an answer is stored as its number plus 1.
abbrev pub Low : Slot → Type 0
Low Empty = Unit {0}
Low (Argument l r) = (l < 256) × (r < 256)
Low (Answer l r) = (l < 255) × (r < 255)

-- method j of type t of the bytes
abbrev pub method_at : List ℕ → ℕ → ℕ → Method
method_at b t j = method_of (get_or (get_or (types_in b) t no_raw_type).methods j no_raw_method)

-- the key of a derived type
abbrev pub key_in : Head → Option Key
key_in h = some (record { kind = kind_of h.kind; left = h.left; right = h.right })

-- the main side's state, but for a method that it permits and the other side doesn't
abbrev pub kept_state : State → State → State → State
kept_state main other lost = cond (permit main && not (permit other)) lost main
