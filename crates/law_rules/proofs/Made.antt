-- What each accepted request makes (docs/SPEC.md, Q6, N5, N8, M6, C17 to C19, A10, A11).
use mathlib.Core.Path.{◌≡◌, refl, ap, sym, subst, ◌∙◌}
use mathlib.Core.Logic.{◌⊎◌, inl, inr}
use mathlib.Core.Bool.{Bool, true, false, not, ◌&&◌}
use mathlib.Core.List.{List, [], ◌∷◌, ◌++◌, map, reverse, reverse-cons, append_assoc}
use mathlib.Core.Option.{Option, none, some, some-injective}
use Prim.Native.Nat.{ℕ, suc}
use lib.Dec.{eqb, ltb}
use lib.IntN.{ℤ}
use lib.ListN.{length, get_or, set}
use lib.Seq.{get_or-append_seam}
use Rattle.spec_model.specs.Basics.{ok, try, need, names, named}
use Rattle.spec_model.specs.Table.{type_at, method_at, argument_at, answer_at, is_ref, is_avail, is_class}
use Rattle.spec_model.specs.Crossing.{Place, object, no_place, max_places, place_at, base_owner, Reference, cross}
use Rattle.spec_model.specs.Requests.{Call, System, max_cells, max_calls_each, made_by, Request, new, move, call, answer, Result, pair, number, no_call, cell_at, call_at, is_sheet_ref, held, leaving, add_cell}
use Rattle.spec_model.specs.Requests.{new_request, move_request, adapter_count, layers_of, call_layers, pass_layers, send, arguments_held, send_arguments, call_request, flagged, with_answer, give}
use Rattle.spec_model.specs.Requests.{due_for, answer_request, serve}
use Rattle.spec_model.specs.Refusals.{unknown_subject, not_held, unknown_type, places_full, cells_full, not_callable, wrong_values, answered_already, calls_full}
use Rattle.law_model.proofs.Steps.{IfOk, ok-try, ok-map, ok-need, whatever}
use Rattle.law_rules.proofs.Numbering.{NextPlace, crossed, NextCell, Sent, cell-sent, sent-last, send-calls}

-- where a reference is due a cell of the caller's, of the type due; else none
abbrev pub AnswerCell : Bool → System → ℕ → ℕ → System × Result → Type 0
AnswerCell true s r a x = NextCell s r a x
AnswerCell false s r a x = x.0.cells ≡ s.cells

abbrev pub GivenCell : System → ℕ → Option ℕ → System × Result → Type 0
GivenCell s r none x = x.0.cells ≡ s.cells
GivenCell s r (some a) x = AnswerCell (is_ref (type_at s.table a).rep) s r a x

abbrev pub Makes : System → Request → System × Result → Type 0
-- N8: a cell of the subject, of the cell type
Makes s (new subject class to) x = NextCell s (named subject) (named to) x × (x.0.calls ≡ s.calls)
-- M6: a cell of the receiver, of the type moved to
Makes s (move subject k receiver to) x = NextCell s (named receiver) (named to) x × (x.0.calls ≡ s.calls)
-- C18, C19: the call is the next one, and the result names it by the count before and counts the adapters. (C17: arguments-arrive.)
Makes s (call subject k m vs) x = (x.0.calls ≡ s.calls ++ (record { caller = named subject; cell = named k; method = named m; answered = false } ∷ []))
    × (x.1 ≡ pair (length s.calls) (adapter_count s.places (cell_at s (named k)).place))
-- A10: a reference is the caller's, of the type due. A11: the call is answered, and every call is otherwise as it was.
Makes s (answer subject j v) x = GivenCell s (call_at s (named j)).caller (due_for s (named j)) x × (x.0.calls ≡ set s.calls (named j) (flagged (call_at s (named j)) true))

arguments-calls : (r : ℕ) (ls : List ℕ) (m : ℕ) (xs : List ℕ) (vs : List ℤ) (i : ℕ) (s : System) → IfOk (send_arguments s r ls m i xs vs) (λ x. x.calls ≡ s.calls)
unfolding send_arguments
arguments-calls r ls m [] vs i s = refl
arguments-calls r ls m (a ∷ xs) [] i s = refl
arguments-calls r ls m (a ∷ xs) (v ∷ vs) i s = go (is_ref (type_at s.table a).rep) (arguments-calls r ls m xs vs (suc i))
  where
    ts : List (Option ℕ)
    ts = map (argument_at s.table m i) ls

    go : (b : Bool) → ((u : System) → IfOk (send_arguments u r ls m (suc i) xs vs) (λ x. x.calls ≡ u.calls)) → IfOk {A = System} (elim b [
      | true ↦ try (send s r (named v) ts) λ x. send_arguments x.0 r ls m (suc i) xs vs
      | false ↦ try (pass_layers true s.table v ts) λ _. send_arguments s r ls m (suc i) xs vs
    ]) (λ x. x.calls ≡ s.calls)
    go true ih = ok-try _ _ (send s r (named v) ts) _ (send-calls s r (named v) ts) λ x w. ok-map _ _ (λ u d. d ∙ w) (send_arguments x.0 r ls m (suc i) xs vs) (ih x.0)
    go false ih = ok-try _ _ (pass_layers true s.table v ts) _ (whatever (pass_layers true s.table v ts)) λ _ _. ih s

-- the calls after an answer, where sending it has left them alone
answered : (s u : System) (j : ℕ) → u.calls ≡ s.calls → (with_answer u j).calls ≡ set s.calls j (flagged (call_at s j) true)
answered s u j e = ap (λ cs. set cs j (flagged (get_or cs j no_call) true)) e

give-makes : (s : System) (subject : ℤ) (j : ℕ) (due : Option ℕ) (v : Option ℤ) → due_for s j ≡ due
    → IfOk (give s subject j due v) (λ x. GivenCell s (call_at s j).caller due x × (x.0.calls ≡ set s.calls j (flagged (call_at s j) true)))
unfolding give
give-makes s subject j none none e = (refl, refl)
give-makes s subject j none (some v) e = tt
give-makes s subject j (some a) none e = tt
give-makes s subject j (some a) (some v) e = go (is_ref (type_at s.table a).rep)
  where
    f : ℕ → Option ℕ
    f = answer_at s.table (call_at s j).method

    outer : List (Option ℕ)
    outer = map f (layers_of s.places (cell_at s (call_at s j).cell).place)

    r : ℕ
    r = (call_at s j).caller

    ts : List (Option ℕ)
    ts = reverse (map f (call_layers s (cell_at s (call_at s j).cell)))

    -- the way out ends at the cell's own type
    ends : reverse outer ++ (due_for s j ∷ []) ≡ ts
    ends = sym (reverse-cons (due_for s j) outer)

    go : (b : Bool) → IfOk {A = System × Result} (elim b [
      | true ↦ need (held s subject v) wrong_values λ _. try (send s r (named v) ts) λ x. ok (with_answer x.0 j, x.1)
      | false ↦ try (pass_layers true s.table v ts) λ _. ok (with_answer s j, number v)
    ]) (λ x. AnswerCell b s r a x × (x.0.calls ≡ set s.calls j (flagged (call_at s j) true)))
    go true = ok-need _ (held s subject v) wrong_values _ λ _.
        ok-try _ _ (send s r (named v) ts) _
        (subst (λ us. IfOk (send s r (named v) us) (λ x. (type : ℕ) × (due_for s j ≡ some type) × Sent s r type x)) ends (sent-last s r (named v) (reverse outer) (due_for s j))) λ x w.
        let q : w.0 ≡ a = some-injective _ _ (sym w.1 ∙ e) in let n = subst (λ y. Sent s r y x) q w.2 in
        (record { place = n.next.place; cells = n.next.cells; result = n.next.result }, answered s x.0 j n.calls)
    go false = ok-try _ _ (pass_layers true s.table v ts) _ (whatever (pass_layers true s.table v ts)) λ _ _. (refl, refl)

-- Q6. What an accepted request makes stands behind what there was, under the count before.
pub serve-makes : (s : System) (q : Request) → IfOk (serve s q) (Makes s q)
unfolding serve new_request move_request call_request answer_request
serve-makes s (new subject class to) =
    ok-need _ (names subject s.table.subjects) unknown_subject _ λ _.
    ok-need _ (names class s.table.sheet && is_class (type_at s.table (named class))) unknown_type _ λ _.
    ok-need _ (is_sheet_ref s.table to) unknown_type _ λ _.
    ok-need _ (ltb (length s.places) max_places) places_full _ λ _.
    let f : Reference = record { table = s.table; places = s.places ++ (object (named class) (named subject) ∷ []); type = named class; place = length s.places } in
    ok-try _ _ (cross f (named to) (named subject)) _ (crossed f (named to) (named subject)) λ g h.
    ok-map _ _ (λ x w. (w.next, w.calls)) (add_cell s (named subject) g) (cell-sent s (named subject) (named to) g h.type h.table)
serve-makes s (move subject k receiver to) =
    ok-need _ (names subject s.table.subjects && names receiver s.table.subjects) unknown_subject _ λ _.
    ok-need _ (held s subject k) not_held _ λ _.
    ok-need _ (is_sheet_ref s.table to) unknown_type _ λ _.
    ok-try _ _ (cross (leaving s (named k)) (named to) (named receiver)) _ (crossed (leaving s (named k)) (named to) (named receiver)) λ g h.
    ok-map _ _ (λ x w. (w.next, w.calls)) (add_cell s (named receiver) g) (cell-sent s (named receiver) (named to) g h.type h.table)
serve-makes s (call subject k m vs) =
    ok-need _ (names subject s.table.subjects) unknown_subject _ λ _.
    ok-need _ (held s subject k) not_held _ λ _.
    let c = cell_at s (named k) in
    ok-need _ (names m s.table.methods && is_avail (method_at s.table c.type (named m)).state) not_callable _ λ _.
    let xs = (method_at s.table c.type (named m)).args in
    ok-need _ (arguments_held s subject xs vs) wrong_values _ λ _.
    ok-need _ (ltb (made_by (named subject) s.calls) max_calls_each) calls_full _ λ _.
    ok-try _ _ (send_arguments s (base_owner s.places c.place) (call_layers s c) (named m) 0 xs vs) _
    (arguments-calls (base_owner s.places c.place) (call_layers s c) (named m) xs vs 0 s) λ x w.
    let n : Call = record { caller = named subject; cell = named k; method = named m; answered = false } in (ap (λ cs. cs ++ (n ∷ [])) w, refl)
serve-makes s (answer subject j v) =
    ok-need _ (names subject s.table.subjects) unknown_subject _ λ _.
    let c = cell_at s (call_at s (named j)).cell in
    ok-need _ (names j (length s.calls) && eqb (named subject) (base_owner s.places c.place)) not_held _ λ _.
    ok-need _ (not (call_at s (named j)).answered) answered_already _ λ _.
    give-makes s subject (named j) (due_for s (named j)) v refl

-- N5. The object of an accepted new, of the class and owned by the subject, stands at the count of places before.
pub new-object : (s : System) (subject class to : ℤ) → IfOk (new_request s subject class to) (λ x. place_at x.0.places (length s.places) ≡ object (named class) (named subject))
unfolding new_request add_cell
new-object s subject class to =
    ok-need _ (names subject s.table.subjects) unknown_subject _ λ _.
    ok-need _ (names class s.table.sheet && is_class (type_at s.table (named class))) unknown_type _ λ _.
    ok-need _ (is_sheet_ref s.table to) unknown_type _ λ _.
    ok-need _ (ltb (length s.places) max_places) places_full _ λ _.
    ok-try _ _ (cross f (named to) (named subject)) _ (crossed f (named to) (named subject)) λ g h.
    ok-need _ (ltb (length s.cells) max_cells) cells_full _ λ _. stands g h.places
  where
    x : Place
    x = object (named class) (named subject)

    f : Reference
    f = record { table = s.table; places = s.places ++ (object (named class) (named subject) ∷ []); type = named class; place = length s.places }

    stands : (g : Reference) → (g.places ≡ f.places) ⊎ NextPlace f g → place_at g.places (length s.places) ≡ x
    stands g (inl e) = ap (λ ps. place_at ps (length s.places)) e ∙ get_or-append_seam s.places x [] no_place
    stands g (inr e) = ap (λ ps. place_at ps (length s.places)) (e.places ∙ append_assoc s.places (x ∷ []) (e.place ∷ [])) ∙ get_or-append_seam s.places x (e.place ∷ []) no_place
