-- What an accepted request leaves as it was, from any state: types, cells and places that there were, and calls but for their flag (Q15).
use mathlib.Core.Path.{◌≡◌, refl, ap, sym, subst, ◌∙◌}
use mathlib.Core.Bool.{Bool, true, false, not, ◌&&◌}
use mathlib.Core.List.{List, [], ◌∷◌, ◌++◌, map, reverse}
use mathlib.Core.Option.{Option, none, some}
use Prim.Native.Nat.{ℕ, suc, ◌≤◌, ◌<◌}
use native.Mathlib.Omega.{arith}
use native.Mathlib.Decide.{ℕ_discrete}
use lib.Dec.{eqb, ltb}
use lib.IntN.{ℤ}
use lib.ListN.{length, get_or, set, length-set}
use lib.Seq.{get_or-set_same, get_or-set_other}
use Rattle.spec_model.specs.Basics.{ok, try, need, names, named}
use Rattle.spec_model.specs.Table.{Kind, sub, closed, Table, max_types, type_at, method_at, argument_at, answer_at, is_ref, is_avail, is_class}
use Rattle.spec_model.specs.Relations.{conforms, strict, loose, free, subtype, related}
use Rattle.spec_model.specs.Restriction.{derived}
use Rattle.spec_model.specs.Crossing.{Place, object, adapter, no_place, max_places, place_type, place_at, base_of, base_owner, Reference, adapt, cross}
use Rattle.spec_model.specs.Requests.{Call, System, max_cells, max_calls_each, Request, new, move, call, answer, Result, number, no_cell, no_call, cell_at, call_at, is_sheet_ref, held, leaving, add_cell}
use Rattle.spec_model.specs.Requests.{new_request, move_request, call_layers, renumber, cross_layers, pass_layers, send, arguments_held, send_arguments, with_call, call_request, flagged, with_answer, give}
use Rattle.spec_model.specs.Requests.{made_by, answer_request, serve}
use Rattle.spec_model.proofs.Lists.{Prefix, prefix_refl, prefix_trans, prefix-add}
use Rattle.spec_model.proofs.Growth.{Grown, grown-refl, grown-trans}
use Rattle.spec_model.specs.Refusals.{unknown_subject, not_held, unknown_type, unrelated, not_owner, not_strict, places_full, cells_full, not_callable, wrong_values}
use Rattle.spec_model.specs.Refusals.{answered_already, calls_full}
use Rattle.law_model.proofs.Deriving.{derive-grown}
use Rattle.law_model.proofs.Steps.{IfOk, ok-try, ok-map, ok-need, whatever}
use Rattle.law_model.proofs.Trails.{Kept, ok-renumber}
use Rattle.law_model.proofs.Checked.{derived-of}

pub derived-grown : (t : Table) (d : Kind) (l r : ℕ) → IfOk (derived t d l r) (λ x. Grown t x.0)
derived-grown t d l r = derived-of _ t d l r (derive-grown max_types t d l r)

-- ---- a reference on its way from the table t and the places ps
pub record Carried (t : Table) (ps : List Place) (f : Reference) : Type 0 where
  pub table : Grown t f.table
  pub places : Kept ps f.places

carried_on : (t u : Table) (ps qs : List Place) → Grown t u → Kept ps qs → (f : Reference) → Carried u qs f → Carried t ps f
carried_on t u ps qs g k f w = record { table = grown-trans g w.table; places = prefix_trans no_place k w.places }

adapt-carries : (t : Table) (ps : List Place) (to r p : ℕ) → IfOk (adapt t ps to r p) (Carried t ps)
unfolding adapt
adapt-carries t ps to r p = go (related conforms t r (place_type (place_at ps p)))
  where
    go : (b : Bool) → IfOk (elim b [
      | true ↦ ok (record { table = t; places = ps; type = to; place = p })
      | false ↦ need (related strict t r (place_type (place_at ps p))) not_strict λ _. try (derived t closed r (place_type (place_at ps p))) λ x. need (ltb (length ps) max_places) places_full λ _.
          ok (record { table = x.0; places = ps ++ (adapter p x.1 ∷ []); type = to; place = length ps })
    ]) (Carried t ps)
    go true = record { table = grown-refl t; places = prefix_refl no_place ps }
    go false = ok-need _ (related strict t r (place_type (place_at ps p))) not_strict _ λ _.
        ok-try _ (Carried t ps) (derived t closed r (place_type (place_at ps p))) _ (derived-grown t closed r (place_type (place_at ps p))) λ x g.
        ok-need _ (ltb (length ps) max_places) places_full _ λ _. record { table = g; places = prefix-add no_place ps (adapter p x.1) }

cross-carries : (f : Reference) (to r : ℕ) → IfOk (cross f to r) (Carried f.table f.places)
unfolding cross
cross-carries f to r = go (type_at t to).own (related subtype t to f.type)
  where
    t : Table
    t = f.table

    ps : List Place
    ps = f.places

    go : (own st : Bool) → IfOk (elim own [
      | true ↦ need (related free t to f.type) unrelated λ _. need (eqb r (base_owner ps f.place)) not_owner λ _. adapt t ps to to (base_of ps f.place)
      | false ↦ need (related loose t to f.type) unrelated λ _. elim st [
        | true ↦ ok (record { table = t; places = ps; type = to; place = f.place })
        | false ↦ try (derived t sub to f.type) λ x. adapt x.0 ps to x.1 f.place
      ]
    ]) (Carried t ps)
    go true st = ok-need _ (related free t to f.type) unrelated _ λ _. ok-need _ (eqb r (base_owner ps f.place)) not_owner _ λ _. adapt-carries t ps to to (base_of ps f.place)
    go false true = ok-need _ (related loose t to f.type) unrelated _ λ _. record { table = grown-refl t; places = prefix_refl no_place ps }
    go false false = ok-need _ (related loose t to f.type) unrelated _ λ _. ok-try _ (Carried t ps) (derived t sub to f.type) _ (derived-grown t sub to f.type) λ x g.
        ok-map _ _ (carried_on t x.0 ps ps g (prefix_refl no_place ps)) (adapt x.0 ps to x.1 f.place) (adapt-carries x.0 ps to x.1 f.place)

layers-carry : (ts : List (Option ℕ)) (b : Bool) (f : Reference) (r : ℕ) → IfOk (cross_layers b f r ts) (Carried f.table f.places)
unfolding cross_layers
layers-carry [] b f r = record { table = grown-refl f.table; places = prefix_refl no_place f.places }
layers-carry (none ∷ ts) b f r = tt
layers-carry (some to ∷ ts) b f r = ok-try _ (Carried f.table f.places) (renumber b (cross f to r)) _ (ok-renumber _ b (cross f to r) (cross-carries f to r)) λ g w.
    ok-map _ _ (carried_on f.table g.table f.places g.places w.table w.places) (cross_layers false g r ts) (layers-carry ts false g r)

-- ---- states: calls may be answered in between
pub record CallsKept (cs ds : List Call) : Type 0 where
  pub more : length cs ≤ length ds
  pub same : (j : ℕ) → j < length cs → get_or ds j no_call ≡ flagged (get_or cs j no_call) (get_or ds j no_call).answered

pub record Onward (s s' : System) : Type 0 where
  pub table : Grown s.table s'.table
  pub cells : Prefix no_cell s.cells s'.cells
  pub places : Prefix no_place s.places s'.places
  pub calls : CallsKept s.calls s'.calls

calls-refl : (cs : List Call) → CallsKept cs cs
calls-refl cs = record { more = omega arith; same = λ j l. refl }

calls-trans : {as' bs cs : List Call} → CallsKept as' bs → CallsKept bs cs → CallsKept as' cs
calls-trans {as'} {bs} {cs} e f = record {
  more = omega (arith, e.more, f.more);
  same = λ j l. f.same j (omega (arith, e.more)) ∙ ap (λ c. flagged c (get_or cs j no_call).answered) (e.same j l);
}

pub onward-refl : (s : System) → Onward s s
onward-refl s = record { table = grown-refl s.table; cells = prefix_refl no_cell s.cells; places = prefix_refl no_place s.places; calls = calls-refl s.calls }

pub onward-trans : {s u v : System} → Onward s u → Onward u v → Onward s v
onward-trans e f = record {
  table = grown-trans e.table f.table;
  cells = prefix_trans no_cell e.cells f.cells;
  places = prefix_trans no_place e.places f.places;
  calls = calls-trans e.calls f.calls;
}

cell-onward : (s : System) (r : ℕ) (f : Reference) → Carried s.table s.places f → IfOk (add_cell s r f) (λ x. Onward s x.0)
unfolding add_cell
cell-onward s r f w = ok-need _ (ltb (length s.cells) max_cells) cells_full _ λ _. record
    { table = w.table; cells = prefix-add no_cell s.cells _; places = w.places; calls = calls-refl s.calls }

send-onward : (s : System) (r k : ℕ) (ts : List (Option ℕ)) → IfOk (send s r k ts) (λ x. Onward s x.0)
unfolding send
send-onward s r k ts = ok-try _ _ (cross_layers true (leaving s k) r ts) _ (layers-carry ts true (leaving s k) r) λ f w. cell-onward s r f w

arguments-onward : (r : ℕ) (ls : List ℕ) (m : ℕ) (xs : List ℕ) (vs : List ℤ) (i : ℕ) (s : System) → IfOk (send_arguments s r ls m i xs vs) (Onward s)
unfolding send_arguments
arguments-onward r ls m [] vs i s = onward-refl s
arguments-onward r ls m (a ∷ xs) [] i s = onward-refl s
arguments-onward r ls m (a ∷ xs) (v ∷ vs) i s = go (is_ref (type_at s.table a).rep) (arguments-onward r ls m xs vs (suc i))
  where
    ts : List (Option ℕ)
    ts = map (argument_at s.table m i) ls

    go : (b : Bool) → ((u : System) → IfOk (send_arguments u r ls m (suc i) xs vs) (Onward u)) → IfOk (elim b [
      | true ↦ try (send s r (named v) ts) λ x. send_arguments x.0 r ls m (suc i) xs vs
      | false ↦ try (pass_layers true s.table v ts) λ _. send_arguments s r ls m (suc i) xs vs
    ]) (Onward s)
    go true ih = ok-try _ _ (send s r (named v) ts) _ (send-onward s r (named v) ts) λ x w. ok-map _ _ (λ u d. onward-trans w d) (send_arguments x.0 r ls m (suc i) xs vs) (ih x.0)
    go false ih = ok-try _ _ (pass_layers true s.table v ts) _ (whatever (pass_layers true s.table v ts)) λ _ _. ih s

call-added : (s : System) (c : Call) → Onward s (with_call s c)
call-added s c = record {
  table = grown-refl s.table;
  cells = prefix_refl no_cell s.cells;
  places = prefix_refl no_place s.places;
  calls = let p = prefix-add no_call s.calls c in record { more = p.more; same = λ j l. p.same j l ∙ sym (ap (λ d. flagged (get_or s.calls j no_call) d.answered) (p.same j l)) };
}

call-answered : (s : System) (i : ℕ) → Onward s (with_answer s i)
call-answered s i = record {
  table = grown-refl s.table;
  cells = prefix_refl no_cell s.cells;
  places = prefix_refl no_place s.places;
  calls = record { more = omega (arith, length-set s.calls i c); same = λ j l. go j l (ℕ_discrete j i) };
}
  where
    c : Call
    c = flagged (call_at s i) true

    go : (j : ℕ) → j < length s.calls → Dec (j ≡ i) → get_or (set s.calls i c) j no_call ≡ flagged (get_or s.calls j no_call) (get_or (set s.calls i c) j no_call).answered
    go j l (yes e) = rw (e, get_or-set_same s.calls i c no_call (subst (λ k. k < length s.calls) e l))
    go j l (no e) = rw (get_or-set_other s.calls i j c no_call e)

give-onward : (s : System) (subject : ℤ) (i : ℕ) (due : Option ℕ) (v : Option ℤ) → IfOk (give s subject i due v) (λ x. Onward s x.0)
unfolding give
give-onward s subject i none none = call-answered s i
give-onward s subject i none (some v) = tt
give-onward s subject i (some a) none = tt
give-onward s subject i (some a) (some v) = go (is_ref (type_at s.table a).rep)
  where
    ts : List (Option ℕ)
    ts = reverse (map (answer_at s.table (call_at s i).method) (call_layers s (cell_at s (call_at s i).cell)))

    go : (b : Bool) → IfOk {A = System × Result} (elim b [
      | true ↦ need (held s subject v) wrong_values λ _. try (send s (call_at s i).caller (named v) ts) λ x. ok (with_answer x.0 i, x.1)
      | false ↦ try (pass_layers true s.table v ts) λ _. ok (with_answer s i, number v)
    ]) (λ x. Onward s x.0)
    go true = ok-need _ (held s subject v) wrong_values _ λ _.
        ok-try _ _ (send s (call_at s i).caller (named v) ts) _ (send-onward s (call_at s i).caller (named v) ts) λ x w. onward-trans w (call-answered x.0 i)
    go false = ok-try _ _ (pass_layers true s.table v ts) _ (whatever (pass_layers true s.table v ts)) λ _ _. call-answered s i

-- ---- the four requests
pub serve-onward : (s : System) (q : Request) → IfOk (serve s q) (λ x. Onward s x.0)
unfolding serve new_request move_request call_request answer_request
serve-onward s (new subject class to) =
    ok-need _ (names subject s.table.subjects) unknown_subject _ λ _.
    ok-need _ (names class s.table.sheet && is_class (type_at s.table (named class))) unknown_type _ λ _.
    ok-need _ (is_sheet_ref s.table to) unknown_type _ λ _.
    ok-need _ (ltb (length s.places) max_places) places_full _ λ _.
    let x = object (named class) (named subject) in
    let f : Reference = record { table = s.table; places = s.places ++ (x ∷ []); type = named class; place = length s.places } in
    ok-try _ _ (cross f (named to) (named subject)) _ (cross-carries f (named to) (named subject)) λ g w.
    cell-onward s (named subject) g (carried_on s.table s.table s.places (s.places ++ (x ∷ [])) (grown-refl s.table) (prefix-add no_place s.places x) g w)
serve-onward s (move subject k receiver to) =
    ok-need _ (names subject s.table.subjects && names receiver s.table.subjects) unknown_subject _ λ _.
    ok-need _ (held s subject k) not_held _ λ _.
    ok-need _ (is_sheet_ref s.table to) unknown_type _ λ _.
    ok-try _ _ (cross (leaving s (named k)) (named to) (named receiver)) _ (cross-carries (leaving s (named k)) (named to) (named receiver)) λ g w. cell-onward s (named receiver) g w
serve-onward s (call subject k m vs) =
    ok-need _ (names subject s.table.subjects) unknown_subject _ λ _.
    ok-need _ (held s subject k) not_held _ λ _.
    let c = cell_at s (named k) in
    ok-need _ (names m s.table.methods && is_avail (method_at s.table c.type (named m)).state) not_callable _ λ _.
    let xs = (method_at s.table c.type (named m)).args in
    ok-need _ (arguments_held s subject xs vs) wrong_values _ λ _.
    ok-need _ (ltb (made_by (named subject) s.calls) max_calls_each) calls_full _ λ _.
    ok-try _ _ (send_arguments s (base_owner s.places c.place) (call_layers s c) (named m) 0 xs vs) _
    (arguments-onward (base_owner s.places c.place) (call_layers s c) (named m) xs vs 0 s) λ x w.
    onward-trans w (call-added x _)
serve-onward s (answer subject j v) =
    ok-need _ (names subject s.table.subjects) unknown_subject _ λ _.
    let c = cell_at s (call_at s (named j)).cell in
    ok-need _ (names j (length s.calls) && eqb (named subject) (base_owner s.places c.place)) not_held _ λ _.
    ok-need _ (not (call_at s (named j)).answered) answered_already _ λ _.
    give-onward s subject (named j) (answer_at s.table (call_at s (named j)).method c.type) v
