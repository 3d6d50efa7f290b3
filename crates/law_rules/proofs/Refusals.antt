-- The refusals of each request in the order of their tests: what a request is refused with is the first of them that fails (docs/SPEC.md, Q11, X11, N, M, C, A).
use mathlib.Core.Path.{◌≡◌, refl, ap}
use mathlib.Core.Bool.{Bool, true, false, not, ◌&&◌, cond}
use mathlib.Core.List.{List, [], ◌∷◌, ◌++◌}
use mathlib.Core.Option.{Option, none, some}
use Prim.Native.Nat.{ℕ}
use native.Mathlib.Omega.{arith}
use lib.Dec.{eqb, ltb}
use lib.IntN.{ℤ}
use lib.ListN.{length}
use Rattle.spec_model.specs.Basics.{Res, refuse, ok, try, need, names, named}
use Rattle.spec_model.specs.Table.{sub, closed, Table, max_types, type_at, method_at, is_ref, is_avail, is_class, is_none}
use Rattle.spec_model.specs.Relations.{subtype, conforms, strict, loose, free, related}
use Rattle.spec_model.specs.Restriction.{derive, derived}
use Rattle.spec_model.specs.Crossing.{Place, object, adapter, place_type, place_at, base_of, base_owner, Reference, adapt, cross, max_places}
use Rattle.spec_model.specs.Requests.{System, Result, pair, number, cell_at, call_at, is_sheet_ref, held, leaving, with_cell, add_cell, new_request, move_request, call_layers, cross_layers, pass_layers, send}
use Rattle.spec_model.specs.Requests.{arguments_held, send_arguments, call_request, with_answer, due_for, answers_met, give, answer_request, max_cells, max_calls_each, made_by}
use Rattle.spec_model.specs.Refusals.{unknown_subject, not_held, unknown_type, unrelated, not_owner, not_strict, types_full, places_full, cells_full, not_callable}
use Rattle.spec_model.specs.Refusals.{wrong_values, answered_already, calls_full}

-- the number of a refusal, if it is one
abbrev pub refusal : {A : Type 0} → Res A → Option ℕ
refusal (refuse e) = some e
refusal (ok a) = none

-- one test and the number it refuses with
abbrev pub unless : Bool → ℕ → Option ℕ
unless true e = none
unless false e = some e

-- the first test that fails
abbrev pub first_of : List (Option ℕ) → Option ℕ
first_of [] = none
first_of (none ∷ os) = first_of os
first_of (some e ∷ os) = some e

-- Before the first that fails every test is passed.
abbrev pub AllPassed : List (Option ℕ) → Type 0
AllPassed [] = Unit
AllPassed (o ∷ os) = (o ≡ none) × AllPassed os

pub record FailsAt (os : List (Option ℕ)) (e : ℕ) : Type 0 where
  pub before : List (Option ℕ)
  pub rest : List (Option ℕ)
  pub split : os ≡ before ++ (some e ∷ rest)
  pub passed : AllPassed before

pub fails-at : (os : List (Option ℕ)) (e : ℕ) → first_of os ≡ some e → FailsAt os e
fails-at [] e h = let z : ◌≡◌ {A = ℕ} 0 1 = cc in absurd (omega arith)
fails-at (none ∷ os) e h =
    let w = fails-at os e h in
    record { before = none ∷ w.before; rest = w.rest; split = ap {B = List (Option ℕ)} (λ z. none ∷ z) w.split; passed = (refl, w.passed) }
fails-at (some d ∷ os) e h = record { before = []; rest = os; split = ap {B = List (Option ℕ)} (λ z. z ∷ os) h; passed = tt }

pub all-passed : (os : List (Option ℕ)) → first_of os ≡ none → AllPassed os
all-passed [] h = tt
all-passed (none ∷ os) h = (refl, all-passed os h)
all-passed (some e ∷ os) h = let z : ◌≡◌ {A = ℕ} 0 1 = cc in absurd (omega arith)

-- ---- X11: one crossing
-- X6 to X9, from a place p and with R = r
abbrev pub adapt_tests : Table → List Place → ℕ → ℕ → List (Option ℕ)
adapt_tests t ps r p = let v = place_type (place_at ps p) in
    cond (related conforms t r v) [] (unless (related strict t r v) not_strict ∷ unless (not (is_none (derive max_types t closed r v))) types_full ∷ unless (ltb (length ps) max_places) places_full ∷ [])

-- X5 and what follows, by what Sub(T,S) comes to
abbrev pub sub_tests : Option (Table × ℕ) → List Place → ℕ → List (Option ℕ)
sub_tests none ps p = some types_full ∷ []
sub_tests (some x) ps p = adapt_tests x.0 ps x.1 p

abbrev pub cross_tests : Reference → ℕ → ℕ → List (Option ℕ)
cross_tests f to r = cond (type_at f.table to).own
    (unless (related free f.table to f.type) unrelated ∷ unless (eqb r (base_owner f.places f.place)) not_owner ∷ adapt_tests f.table f.places to (base_of f.places f.place))
    (unless (related loose f.table to f.type) unrelated ∷ cond (related subtype f.table to f.type) [] (sub_tests (derive max_types f.table sub to f.type) f.places f.place))

adapt-refusal : (t : Table) (ps : List Place) (to r p : ℕ) → refusal (adapt t ps to r p) ≡ first_of (adapt_tests t ps r p)
unfolding adapt derived
adapt-refusal t ps to r p = go (related conforms t r v) (related strict t r v) (derive max_types t closed r v) (ltb (length ps) max_places)
  where
    v : ℕ
    v = place_type (place_at ps p)

    go : (c s : Bool) (o : Option (Table × ℕ)) (b : Bool) → refusal {A = Reference} (elim c [
      | true ↦ ok (record { table = t; places = ps; type = to; place = p })
      | false ↦ need s not_strict λ _. try {A = Table × ℕ} (elim o [ none ↦ refuse types_full | some p ↦ ok p ]) λ x. need b places_full λ _.
          ok (record { table = x.0; places = ps ++ (adapter p x.1 ∷ []); type = to; place = length ps })
    ]) ≡ first_of (cond c [] (unless s not_strict ∷ unless (not (is_none o)) types_full ∷ unless b places_full ∷ []))
    go true s o b = refl
    go false false o b = refl
    go false true none b = refl
    go false true (some x) true = refl
    go false true (some x) false = refl

pub cross-refusal : (f : Reference) (to r : ℕ) → refusal (cross f to r) ≡ first_of (cross_tests f to r)
unfolding cross derived
cross-refusal f to r =
    go (type_at t to).own (related free t to f.type) (eqb r (base_owner ps f.place)) (related loose t to f.type) (related subtype t to f.type) (derive max_types t sub to f.type)
  where
    t : Table
    t = f.table

    ps : List Place
    ps = f.places

    go : (own fr ow lo st : Bool) (o : Option (Table × ℕ)) → refusal {A = Reference} (elim own [
      | true ↦ need fr unrelated λ _. need ow not_owner λ _. adapt t ps to to (base_of ps f.place)
      | false ↦ need lo unrelated λ _. elim st [
        | true ↦ ok (record { table = t; places = ps; type = to; place = f.place })
        | false ↦ try {A = Table × ℕ} (elim o [ none ↦ refuse types_full | some p ↦ ok p ]) λ x. adapt x.0 ps to x.1 f.place
      ]
    ]) ≡ first_of (cond own (unless fr unrelated ∷ unless ow not_owner ∷ adapt_tests t ps to (base_of ps f.place)) (unless lo unrelated ∷ cond st [] (sub_tests o ps f.place)))
    go true false ow lo st o = refl
    go true true false lo st o = refl
    go true true true lo st o = adapt-refusal t ps to to (base_of ps f.place)
    go false fr ow false st o = refl
    go false fr ow true true o = refl
    go false fr ow true false none = refl
    go false fr ow true false (some x) = adapt-refusal x.0 ps to x.1 f.place

-- ---- the four requests
-- a crossing or more, and then the cell
arrival-refusal : (s : System) (r : ℕ) (m : Res Reference) → refusal (try m (add_cell s r)) ≡ first_of (refusal m ∷ unless (ltb (length s.cells) max_cells) cells_full ∷ [])
unfolding add_cell
arrival-refusal s r (refuse e) = refl
arrival-refusal s r (ok f) = go (ltb (length s.cells) max_cells) (with_cell s r f, pair (length s.cells) f.place)
  where
    go : (b : Bool) (x : System × Result) → refusal (need b cells_full λ _. ok x) ≡ first_of (unless b cells_full ∷ [])
    go true x = refl
    go false x = refl

-- the reference to a new object (N5)
abbrev pub entering : System → ℤ → ℤ → Reference
entering s subject class = record { table = s.table; places = s.places ++ (object (named class) (named subject) ∷ []); type = named class; place = length s.places }

-- N1 to N4, N6, N7
pub new-refusal : (s : System) (subject class to : ℤ) → refusal (new_request s subject class to) ≡ first_of (
    unless (names subject s.table.subjects) unknown_subject
    ∷ unless (names class s.table.sheet && is_class (type_at s.table (named class))) unknown_type
    ∷ unless (is_sheet_ref s.table to) unknown_type
    ∷ unless (ltb (length s.places) max_places) places_full
    ∷ refusal (cross (entering s subject class) (named to) (named subject))
    ∷ unless (ltb (length s.cells) max_cells) cells_full ∷ [])
unfolding new_request
new-refusal s subject class to =
    go (names subject s.table.subjects) (names class s.table.sheet && is_class (type_at s.table (named class))) (is_sheet_ref s.table to) (ltb (length s.places) max_places)
    (cross (entering s subject class) (named to) (named subject))
  where
    go : (a b c d : Bool) (m : Res Reference) → refusal (need a unknown_subject λ _. need b unknown_type λ _. need c unknown_type λ _. need d places_full λ _. try m λ f. add_cell s (named subject) f)
        ≡ first_of (unless a unknown_subject ∷ unless b unknown_type ∷ unless c unknown_type ∷ unless d places_full ∷ refusal m ∷ unless (ltb (length s.cells) max_cells) cells_full ∷ [])
    go false b c d m = refl
    go true false c d m = refl
    go true true false d m = refl
    go true true true false m = refl
    go true true true true m = arrival-refusal s (named subject) m

-- M1 to M5
pub move-refusal : (s : System) (subject k receiver to : ℤ) → refusal (move_request s subject k receiver to) ≡ first_of (
    unless (names subject s.table.subjects && names receiver s.table.subjects) unknown_subject
    ∷ unless (held s subject k) not_held
    ∷ unless (is_sheet_ref s.table to) unknown_type
    ∷ refusal (cross (leaving s (named k)) (named to) (named receiver))
    ∷ unless (ltb (length s.cells) max_cells) cells_full ∷ [])
unfolding move_request
move-refusal s subject k receiver to =
    go (names subject s.table.subjects && names receiver s.table.subjects) (held s subject k) (is_sheet_ref s.table to) (cross (leaving s (named k)) (named to) (named receiver))
  where
    go : (a b c : Bool) (m : Res Reference) → refusal (need a unknown_subject λ _. need b not_held λ _. need c unknown_type λ _. try m λ f. add_cell s (named receiver) f)
        ≡ first_of (unless a unknown_subject ∷ unless b not_held ∷ unless c unknown_type ∷ refusal m ∷ unless (ltb (length s.cells) max_cells) cells_full ∷ [])
    go false b c m = refl
    go true false c m = refl
    go true true false m = refl
    go true true true m = arrival-refusal s (named receiver) m

-- C1 to C7, then the arguments in turn
pub call-refusal : (s : System) (subject k m : ℤ) (vs : List ℤ) → let c = cell_at s (named k) in let xs = (method_at s.table c.type (named m)).args in
    refusal (call_request s subject k m vs) ≡ first_of (
    unless (names subject s.table.subjects) unknown_subject
    ∷ unless (held s subject k) not_held
    ∷ unless (names m s.table.methods && is_avail (method_at s.table c.type (named m)).state) not_callable
    ∷ unless (arguments_held s subject xs vs) wrong_values
    ∷ unless (ltb (made_by (named subject) s.calls) max_calls_each) calls_full
    ∷ refusal (send_arguments s (base_owner s.places c.place) (call_layers s c) (named m) 0 xs vs) ∷ [])
unfolding call_request
call-refusal s subject k m vs = let c = cell_at s (named k) in let x = method_at s.table c.type (named m) in
    go (names subject s.table.subjects) (held s subject k) (names m s.table.methods && is_avail x.state) (arguments_held s subject x.args vs)
    (ltb (made_by (named subject) s.calls) max_calls_each)
    (send_arguments s (base_owner s.places c.place) (call_layers s c) (named m) 0 x.args vs) _
  where
    go : (a b c d e : Bool) (m : Res System) (f : System → System × Result)
        → refusal (need a unknown_subject λ _. need b not_held λ _. need c not_callable λ _. need d wrong_values λ _. need e calls_full λ _. try m λ x. ok (f x))
        ≡ first_of (unless a unknown_subject ∷ unless b not_held ∷ unless c not_callable ∷ unless d wrong_values ∷ unless e calls_full ∷ refusal m ∷ [])
    go false b c d e m f = refl
    go true false c d e m f = refl
    go true true false d e m f = refl
    go true true true false e m f = refl
    go true true true true false m f = refl
    go true true true true true (refuse n) f = refl
    go true true true true true (ok x) f = refl

-- C17, A10: a reference that is sent meets the layers, then 13
pub send-refusal : (s : System) (r k : ℕ) (ts : List (Option ℕ))
    → refusal (send s r k ts) ≡ first_of (refusal (cross_layers true (leaving s k) r ts) ∷ unless (ltb (length s.cells) max_cells) cells_full ∷ [])
unfolding send
send-refusal s r k ts = arrival-refusal s r (cross_layers true (leaving s k) r ts)

-- A5, A6, A9, A10, by what is due and what is given
abbrev pub give_tests : System → ℤ → ℕ → Option ℕ → Option ℤ → List (Option ℕ)
give_tests s subject j none none = []
give_tests s subject j none (some v) = some wrong_values ∷ []
give_tests s subject j (some a) none = some wrong_values ∷ []
give_tests s subject j (some a) (some v) = cond (is_ref (type_at s.table a).rep)
    (unless (held s subject v) wrong_values ∷ refusal (cross_layers true (leaving s (named v)) (call_at s j).caller (answers_met s j)) ∷ unless (ltb (length s.cells) max_cells) cells_full ∷ [])
    (refusal (pass_layers true s.table v (answers_met s j)) ∷ [])

give-refusal : (s : System) (subject : ℤ) (j : ℕ) (due : Option ℕ) (v : Option ℤ) → refusal (give s subject j due v) ≡ first_of (give_tests s subject j due v)
unfolding give
give-refusal s subject j none none = refl
give-refusal s subject j none (some v) = refl
give-refusal s subject j (some a) none = refl
give-refusal s subject j (some a) (some v) = go (is_ref (type_at s.table a).rep) (held s subject v) (send s (call_at s j).caller (named v) (answers_met s j))
    (send-refusal s (call_at s j).caller (named v) (answers_met s j)) (pass_layers true s.table v (answers_met s j))
  where
    os : List (Option ℕ)
    os = refusal (cross_layers true (leaving s (named v)) (call_at s j).caller (answers_met s j)) ∷ unless (ltb (length s.cells) max_cells) cells_full ∷ []

    go : (b h : Bool) (m : Res (System × Result)) → refusal m ≡ first_of os → (n : Res (Unit {0})) → refusal {A = System × Result} (elim b [
      | true ↦ need h wrong_values λ _. try m λ x. ok (with_answer x.0 j, x.1)
      | false ↦ try n λ _. ok (with_answer s j, number v)
    ]) ≡ first_of (cond b (unless h wrong_values ∷ os) (refusal n ∷ []))
    go true false m e n = refl
    go true true (refuse d) e n = e
    go true true (ok x) e n = e
    go false h m e (refuse d) = refl
    go false h m e (ok u) = refl

-- A1 to A6, A9, A10
pub answer-refusal : (s : System) (subject j : ℤ) (v : Option ℤ) → refusal (answer_request s subject j v) ≡ first_of (
    unless (names subject s.table.subjects) unknown_subject
    ∷ unless (names j (length s.calls) && eqb (named subject) (base_owner s.places (cell_at s (call_at s (named j)).cell).place)) not_held
    ∷ unless (not (call_at s (named j)).answered) answered_already
    ∷ give_tests s subject (named j) (due_for s (named j)) v)
unfolding answer_request
answer-refusal s subject j v = go (names subject s.table.subjects) (names j (length s.calls) && eqb (named subject) (base_owner s.places (cell_at s (call_at s (named j)).cell).place))
    (not (call_at s (named j)).answered)
    (give s subject (named j) (due_for s (named j)) v) (give_tests s subject (named j) (due_for s (named j)) v) (give-refusal s subject (named j) (due_for s (named j)) v)
  where
    go : (a b c : Bool) (m : Res (System × Result)) (os : List (Option ℕ)) → refusal m ≡ first_of os
        → refusal (need a unknown_subject λ _. need b not_held λ _. need c answered_already λ _. m) ≡ first_of (unless a unknown_subject ∷ unless b not_held ∷ unless c answered_already ∷ os)
    go false b c m os e = refl
    go true false c m os e = refl
    go true true false m os e = refl
    go true true true m os e = e
