-- Rules Q, N, M, C and A: new, move, call and answer.
use Rattle.std.specs.Prelude.{Bool, true, false, not, ◌&&◌, ◌||◌, cond, List, [], ◌∷◌, ◌++◌, map, reverse, ℕ, zero, suc, ◌-◌, eqb, ltb, ℤ, pos, negsuc, length, get_or, set}
use Rattle.std.proofs.Math.Option.{Option, none, some}
use Rattle.spec_model.specs.Basics.{Res, refuse, ok, try, need, names, named}
use Rattle.spec_model.specs.Table.{ref, w32, w64, Table, type_at, method_at, argument_at, answer_at, is_ref, is_avail, is_class}
use Rattle.spec_model.specs.Crossing.{Place, object, adapter, max_places, place_at, base_owner, base, Reference, cross}
use Rattle.spec_model.specs.Refusals.{unknown_subject, not_held, unknown_type, unrelated, not_strict, places_full, cells_full, not_callable, wrong_values}
use Rattle.spec_model.specs.Refusals.{too_wide, answered_already, calls_full, later_layer}

-- A cell is one reference in the hands of a subject: who holds it, as what, and where it leads (Q4).
pub record Cell : Type 0 where
  pub holder : ℕ
  pub type : ℕ
  pub place : ℕ

-- A call that was made, until it is answered and after (Q5).
pub record Call : Type 0 where
  pub caller : ℕ
  pub cell : ℕ
  pub method : ℕ
  pub answered : Bool

-- The state. What has a number has it by where it stands in its list, and lists only grow (Q6, Q10).
pub record System : Type 0 where
  pub table : Table
  pub cells : List Cell
  pub places : List Place
  pub calls : List Call

-- the most of each (Q7, Q9; places: Crossing): 32 calls for each of 16 subjects are 512
abbrev pub max_cells : ℕ
max_cells = 256

abbrev pub max_calls_each : ℕ
max_calls_each = 32

abbrev pub max_calls : ℕ
max_calls = 512

-- how many of the calls subject k made (Q9)
abbrev pub made_by : ℕ → List Call → ℕ
made_by k [] = 0
made_by k (c ∷ cs) = cond (eqb k c.caller) (suc (made_by k cs)) (made_by k cs)

-- the state of a loaded sheet (Q10)
abbrev pub loaded : Table → System
loaded t = record { table = t; cells = []; places = []; calls = [] }

-- The requests with their operands in order, each a signed number (Q11, Q12); an answer gives a value or nothing.
pub data Request : Type 0 where
  new : (subject class type : ℤ) → Request
  move : (subject cell receiver type : ℤ) → Request
  call : (subject cell method : ℤ) → List ℤ → Request
  answer : (subject call : ℤ) → Option ℤ → Request

-- What an accepted request gives: two numbers (Q18, C19), the value answered, or nothing (A12).
pub data Result : Type 0 where
  pair : (first second : ℕ) → Result
  number : ℤ → Result
  nothing : Result

abbrev pub no_cell : Cell
no_cell = record { holder = 0; type = 0; place = 0 }

abbrev pub no_call : Call
no_call = record { caller = 0; cell = 0; method = 0; answered = false }

abbrev pub cell_at : System → ℕ → Cell
cell_at s k = get_or s.cells k no_cell

abbrev pub call_at : System → ℕ → Call
call_at s j = get_or s.calls j no_call

-- the number of a sheet ref type
abbrev pub is_sheet_ref : Table → ℤ → Bool
is_sheet_ref t a = names a t.sheet && is_ref (type_at t (named a)).rep

-- the number of a cell that the subject holds
abbrev pub held : System → ℤ → ℤ → Bool
held s subject k = names k (length s.cells) && eqb (named subject) (cell_at s (named k)).holder

-- the reference in cell k, before it crosses
abbrev pub leaving : System → ℕ → Reference
leaving s k = record { table = s.table; places = s.places; type = (cell_at s k).type; place = (cell_at s k).place }

-- the state with the reference that arrived as a cell of r
abbrev pub with_cell : System → ℕ → Reference → System
with_cell s r f = record { table = f.table; cells = s.cells ++ (record { holder = r; type = f.type; place = f.place } ∷ []); places = f.places; calls = s.calls }

-- The reference that arrived becomes a cell of r, if there is one left (N7, M5, C17, A10).
unfoldable pub add_cell : System → ℕ → Reference → Res (System × Result)
add_cell s r f = need (ltb (length s.cells) max_cells) cells_full λ _. ok (with_cell s r f, pair (length s.cells) f.place)

-- New: an object is made, and its maker holds it by the type asked for (N1 to N8).
unfoldable pub new_request : System → ℤ → ℤ → ℤ → Res (System × Result)
unfolding cross add_cell
new_request s subject class to =
    need (names subject s.table.subjects) unknown_subject λ _.
    need (names class s.table.sheet && is_class (type_at s.table (named class))) unknown_type λ _.
    need (is_sheet_ref s.table to) unknown_type λ _.
    need (ltb (length s.places) max_places) places_full λ _.
    try (cross (record { table = s.table; places = s.places ++ (object (named class) (named subject) ∷ []); type = named class; place = length s.places }) (named to) (named subject)) λ f.
    add_cell s (named subject) f

-- Move: the receiver gets what the cell leads to, seen by the type asked for (M1 to M6).
unfoldable pub move_request : System → ℤ → ℤ → ℤ → ℤ → Res (System × Result)
unfolding cross add_cell
move_request s subject k receiver to =
    need (names subject s.table.subjects && names receiver s.table.subjects) unknown_subject λ _.
    need (held s subject k) not_held λ _.
    need (is_sheet_ref s.table to) unknown_type λ _.
    try (cross (leaving s (named k)) (named to) (named receiver)) λ f.
    add_cell s (named receiver) f

-- the types of a place and of all that is behind it, in that order: the class comes last (C9)
unfoldable pub layers : ℕ → List Place → ℕ → List ℕ
layers zero ps p = []
layers (suc f) ps p = elim (place_at ps p) [ object c o ↦ c ∷ [] | adapter b c ↦ c ∷ layers f ps b ]

abbrev pub layers_of : List Place → ℕ → List ℕ
layers_of ps p = layers (length ps) ps p

-- how many of them are adapters (C19)
abbrev pub adapter_count : List Place → ℕ → ℕ
adapter_count ps p = length (layers_of ps p) - 1

-- what a value meets on its way: the cell's type, then the layers of its place (C9)
abbrev pub call_layers : System → Cell → List ℕ
call_layers s c = c.type ∷ layers_of s.places c.place

-- the number of a refusal at the first layer, or at one further in (C13)
abbrev pub at_layer : Bool → ℕ → ℕ
at_layer true e = e
at_layer false e = cond (eqb e unrelated || eqb e not_strict) later_layer e

abbrev pub renumber {ℓ} : {A : Type ℓ} → Bool → Res A → Res A
renumber first (refuse e) = refuse (at_layer first e)
renumber first (ok a) = ok a

-- A reference crosses to each type in turn (C11). A layer that has no type there is unfit (C15); where it has a number type the crossing itself refuses.
unfoldable pub cross_layers : Bool → Reference → ℕ → List (Option ℕ) → Res Reference
unfolding cross
cross_layers first f r [] = ok f
cross_layers first f r (none ∷ ts) = refuse (at_layer first unrelated)
cross_layers first f r (some t ∷ ts) = try (renumber first (cross f t r)) λ g. cross_layers false g r ts

-- the signed numbers from -h to h - 1, half of the range of a width on each side of 0: `negsuc n` is -(n + 1)
abbrev pub within : ℕ → ℤ → Bool
within h (pos n) = ltb n h
within h (negsuc n) = ltb n h

-- A number has to fit each width that it meets (C14); every value fits 64 bits. A layer without a type there, or with a reference, is unfit (C15).
unfoldable pub pass_layers : Bool → Table → ℤ → List (Option ℕ) → Res (Unit {0})
pass_layers first t v [] = ok tt
pass_layers first t v (none ∷ ts) = refuse (at_layer first unrelated)
pass_layers first t v (some a ∷ ts) = elim (type_at t a).rep [
  | ref ↦ refuse (at_layer first unrelated)
  | w32 ↦ need (within 2147483648 v) too_wide λ _. pass_layers false t v ts
  | w64 ↦ pass_layers false t v ts
]

-- The reference in cell k crosses to each of the types and becomes a cell of r (C17, A10).
unfoldable pub send : System → ℕ → ℕ → List (Option ℕ) → Res (System × Result)
unfolding cross_layers add_cell
send s r k ts = try (cross_layers true (leaving s k) r ts) λ f. add_cell s r f

-- as many arguments as the signature has, and each that is to be a reference a cell of the subject's (C4, C5)
abbrev pub arguments_held : System → ℤ → List ℕ → List ℤ → Bool
arguments_held s subject [] [] = true
arguments_held s subject [] (v ∷ vs) = false
arguments_held s subject (a ∷ xs) [] = false
arguments_held s subject (a ∷ xs) (v ∷ vs) = (not (is_ref (type_at s.table a).rep) || held s subject v) && arguments_held s subject xs vs

-- Argument i and those after it, whose types in the cell type's signature are `xs`: each passes all layers, and a reference has become a cell of r, before the next begins (C10, C17).
unfoldable pub send_arguments : System → ℕ → List ℕ → ℕ → ℕ → List ℕ → List ℤ → Res System
unfolding send pass_layers
send_arguments s r ls m i [] vs = ok s
send_arguments s r ls m i (a ∷ xs) [] = ok s
send_arguments s r ls m i (a ∷ xs) (v ∷ vs) = elim (is_ref (type_at s.table a).rep) [
  | true ↦ try (send s r (named v) (map (argument_at s.table m i) ls)) λ x. send_arguments x.0 r ls m (suc i) xs vs
  | false ↦ try (pass_layers true s.table v (map (argument_at s.table m i) ls)) λ _. send_arguments s r ls m (suc i) xs vs
]

abbrev pub with_calls : System → List Call → System
with_calls s cs = record { table = s.table; cells = s.cells; places = s.places; calls = cs }

abbrev pub with_call : System → Call → System
with_call s c = with_calls s (s.calls ++ (c ∷ []))

-- Call: a method through a cell; its arguments go to the owner of the object (C1 to C20).
unfoldable pub call_request : System → ℤ → ℤ → ℤ → List ℤ → Res (System × Result)
unfolding send_arguments base layers
call_request s subject k m vs =
    need (names subject s.table.subjects) unknown_subject λ _.
    need (held s subject k) not_held λ _.
    let c = cell_at s (named k) in
    need (names m s.table.methods && is_avail (method_at s.table c.type (named m)).state) not_callable λ _.
    let xs = (method_at s.table c.type (named m)).args in
    need (arguments_held s subject xs vs) wrong_values λ _.
    need (ltb (made_by (named subject) s.calls) max_calls_each) calls_full λ _.
    try (send_arguments s (base_owner s.places c.place) (call_layers s c) (named m) 0 xs vs) λ x.
    ok (with_call x (record { caller = named subject; cell = named k; method = named m; answered = false }), pair (length s.calls) (adapter_count s.places c.place))

-- a call with its flag, and the state with call j answered (A11)
abbrev pub flagged : Call → Bool → Call
flagged c b = record { caller = c.caller; cell = c.cell; method = c.method; answered = b }

abbrev pub with_answer : System → ℕ → System
with_answer s j = with_calls s (set s.calls j (flagged (call_at s j) true))

-- the answer type that is due for call j (A4), and those that its value meets: the class's first (A7)
abbrev pub due_for : System → ℕ → Option ℕ
due_for s j = answer_at s.table (call_at s j).method (cell_at s (call_at s j).cell).type

abbrev pub answers_met : System → ℕ → List (Option ℕ)
answers_met s j = reverse (map (answer_at s.table (call_at s j).method) (call_layers s (cell_at s (call_at s j).cell)))

-- What is due and what is given must match (A5, A6). A value passes the layers from the object outward to the caller, who gets a reference as a cell (A7 to A13).
unfoldable pub give : System → ℤ → ℕ → Option ℕ → Option ℤ → Res (System × Result)
unfolding send pass_layers layers
give s subject j none none = ok (with_answer s j, nothing)
give s subject j none (some v) = refuse wrong_values
give s subject j (some a) none = refuse wrong_values
give s subject j (some a) (some v) =
    let ts = answers_met s j in
    elim (is_ref (type_at s.table a).rep) [
      | true ↦ need (held s subject v) wrong_values λ _. try (send s (call_at s j).caller (named v) ts) λ x. ok (with_answer x.0 j, x.1)
      | false ↦ try (pass_layers true s.table v ts) λ _. ok (with_answer s j, number v)
    ]

-- Answer: the owner of the object answers a call once, with what the caller's view of the method promises (A1 to A4).
unfoldable pub answer_request : System → ℤ → ℤ → Option ℤ → Res (System × Result)
unfolding give base
answer_request s subject j v =
    need (names subject s.table.subjects) unknown_subject λ _.
    let c = cell_at s (call_at s (named j)).cell in
    need (names j (length s.calls) && eqb (named subject) (base_owner s.places c.place)) not_held λ _.
    need (not (call_at s (named j)).answered) answered_already λ _.
    give s subject (named j) (due_for s (named j)) v

unfoldable pub serve : System → Request → Res (System × Result)
unfolding new_request move_request call_request answer_request
serve s (new subject class to) = new_request s subject class to
serve s (move subject k receiver to) = move_request s subject k receiver to
serve s (call subject k m vs) = call_request s subject k m vs
serve s (answer subject j v) = answer_request s subject j v

-- a refused request leaves the state alone (Q14)
abbrev pub after : System → Res (System × Result) → System
after s (refuse e) = s
after s (ok x) = x.0

-- what each request of a list comes to, and the state at the end
pub data Outcome : Type 0 where
  got : Result → Outcome
  refused : ℕ → Outcome

abbrev pub outcome : Res (System × Result) → Outcome
outcome (refuse e) = refused e
outcome (ok x) = got x.1

unfoldable pub run : System → List Request → List Outcome × System
unfolding serve
run s [] = ([], s)
run s (q ∷ qs) = let a = serve s q in let r = run (after s a) qs in (outcome a ∷ r.0, r.1)
