-- Rules L28 to L31: the calls of a subject are counted by its accepted calls, and 18 says that they are 32, whatever the others asked (spec_model Callers).
use mathlib.Core.Path.{◌≡◌, refl, ap, sym, ◌∙◌}
use mathlib.Core.Logic.{◌↔◌}
use mathlib.Core.Bool.{Bool, true, false, not, ◌&&◌, ◌||◌, So, cond}
use mathlib.Core.List.{List, [], ◌∷◌, ◌++◌, map}
use mathlib.Core.Option.{Option, none, some}
use Prim.Native.Nat.{ℕ, suc, ◌+◌, ◌≤◌, ◌<◌}
use native.Mathlib.Omega.{arith}
use lib.Dec.{eqb, ltb}
use lib.IntN.{ℤ, pos}
use lib.ListN.{length}
use Rattle.spec_model.specs.Basics.{Res, refuse, ok, try, need, names, named}
use Rattle.spec_model.specs.Table.{Rep, ref, w32, w64, Kind, sub, closed, Table, max_types, type_at, method_at, argument_at, is_ref, is_avail, is_class, valid_sheet}
use Rattle.spec_model.specs.Relations.{subtype, conforms, strict, loose, free, related}
use Rattle.spec_model.specs.Restriction.{derive, derived}
use Rattle.spec_model.specs.Crossing.{Place, place_type, place_at, base_of, base_owner, Reference, adapt, cross, max_places}
use Rattle.spec_model.specs.Requests.{Call, System, loaded, Request, new, move, call, answer, Result, pair, Outcome, got, refused, outcome, cell_at, held, leaving, add_cell, max_cells}
use Rattle.spec_model.specs.Requests.{max_calls_each, made_by, adapter_count, call_layers, at_layer, renumber, cross_layers, within, pass_layers, send, arguments_held, send_arguments, with_call, call_request}
use Rattle.spec_model.specs.Requests.{number, call_at, is_sheet_ref, new_request, move_request, with_answer, due_for, answers_met, give, answer_request, serve, after, run}
use Rattle.spec_model.specs.Refusals.{unknown_subject, not_held, unknown_type, unrelated, not_owner, not_strict, types_full, places_full, cells_full, not_callable, wrong_values, too_wide}
use Rattle.spec_model.specs.Refusals.{answered_already, calls_full, later_layer}
use Rattle.spec_model.specs.Claim.{accepted, follow}
use Rattle.spec_model.specs.Callers.{Transcript, taken, seen, called_by, accepted_calls, passes_tests, refused_before, ran_to, saw_of, CallsCounted, CallsLimited, CallsApart, TestsSeen, FullMet}
use Rattle.spec_model.proofs.Tests.{eqb_no, ltb-so, ltb_no, leb-so, so-leb}
use Rattle.spec_model.proofs.Rules.{never, both, first, second}
use Rattle.law_model.proofs.Steps.{IfOk, whatever}
use Rattle.law_model.proofs.Callers.{bumped-plus, made-append, made-answered}
use Rattle.law_model.proofs.Checked.{Bounded, bounded-kept, fits-bounded}
use Rattle.law_model.proofs.Reached.{reached-fits}
use Rattle.law_rules.proofs.Layers.{IfRefused, refused-need, refused-try}
use Rattle.law_rules.proofs.Refusals.{entering}
use Rattle.law_rules.proofs.Made.{Makes, serve-makes}

-- ---- L28: one request, a list of them
-- a call counts where it was accepted
abbrev counted : Bool → ℕ
counted b = cond b 1 0

none-refused : (b : Bool) → counted (b && false) ≡ 0
none-refused true = refl
none-refused false = refl

one-accepted : (b : Bool) → counted b ≡ counted (b && true)
one-accepted true = refl
one-accepted false = refl

pub serve-made : (s : System) (q : Request) (k : ℕ) → made_by k (after s (serve s q)).calls ≡ made_by k s.calls + cond (called_by k q && accepted (serve s q)) 1 0
serve-made s q k = go q (serve s q) (serve-makes s q)
  where
    go : (q : Request) (m : Res (System × Result)) → IfOk m (Makes s q) → made_by k (after s m).calls ≡ made_by k s.calls + cond (called_by k q && accepted m) 1 0
    go q (refuse e) h = omega (arith, none-refused (called_by k q))
    go (new subject class to) (ok x) h = omega (arith, ap (made_by k) h.1)
    go (move subject cell receiver to) (ok x) h = omega (arith, ap (made_by k) h.1)
    go (call subject cell m vs) (ok x) h =
        let c : Call = record { caller = named subject; cell = named cell; method = named m; answered = false } in
        ap (made_by k) h.0 ∙ made-append k s.calls (c ∷ []) ∙ ap (λ n. made_by k s.calls + n) (one-accepted (eqb k (named subject)))
    go (answer subject j v) (ok x) h = omega (arith, ap (made_by k) h.1, made-answered k s.calls (named j) true)

pub taken_is : (m : Res (System × Result)) → taken (outcome m) ≡ accepted m
taken_is (refuse e) = refl
taken_is (ok x) = refl

-- an entry of the transcript, and those behind it
entry-plus : (b : Bool) (n m a : ℕ) → m ≡ n + cond b 1 0 → m + a ≡ n + cond b (suc a) a
entry-plus true n m a e = omega (arith, e)
entry-plus false n m a e = omega (arith, e)

pub run-made : (qs : List Request) (s : System) (k : ℕ) → made_by k (run s qs).1.calls ≡ made_by k s.calls + accepted_calls k (seen qs (run s qs).0)
unfolding run
run-made [] s k = omega arith
run-made (q ∷ qs) s k =
    let a = serve s q in
    let e : made_by k (after s a).calls ≡ made_by k s.calls + cond (called_by k q && taken (outcome a)) 1 0 = rw (taken_is a) (serve-made s q k) in
    run-made qs (after s a) k ∙ entry-plus (called_by k q && taken (outcome a)) (made_by k s.calls) (made_by k (after s a).calls) (accepted_calls k (seen qs (run (after s a) qs).0)) e

pub accepted-append : (k : ℕ) (l m : Transcript) → accepted_calls k (l ++ m) ≡ accepted_calls k l + accepted_calls k m
accepted-append k [] m = omega arith
accepted-append k (x ∷ l) m = bumped-plus (called_by k x.0 && x.1) (accepted_calls k l) (accepted_calls k m) (accepted_calls k (l ++ m)) (accepted-append k l m)

pub calls-counted : CallsCounted
calls-counted t h qs k = omega (arith, run-made qs (loaded t) k)

-- ---- L31: a value on its way is refused with none of the numbers of the tests before it, 18 among them
abbrev OnWay : ℕ → Type 0
OnWay e = (refused_before (refused e) ≡ false) × (eqb e calls_full ≡ false)

abbrev MetOnWay : {A : Type 0} → Res A → Type 0
MetOnWay m = IfRefused m OnWay

way-try : {A B : Type 0} (m : Res A) (k : A → Res B) → MetOnWay m → ((a : A) → MetOnWay (k a)) → MetOnWay (try m k)
way-try m k h f = refused-try OnWay (λ _. Unit {0}) m k h (whatever m) λ a _. f a

way-if : {A : Type 0} (b : Bool) (x y : Res A) → MetOnWay x → MetOnWay y → MetOnWay {A = A} (elim b [ true ↦ x | false ↦ y ])
way-if true x y h k = h
way-if false x y h k = k

derived-way : (t : Table) (d : Kind) (l r : ℕ) → MetOnWay (derived t d l r)
unfolding derived
derived-way t d l r = go (derive max_types t d l r)
  where
    go : (o : Option (Table × ℕ)) → MetOnWay {A = Table × ℕ} (elim o [ none ↦ refuse types_full | some p ↦ ok p ])
    go none = (refl, refl)
    go (some p) = tt

adapt-way : (t : Table) (ps : List Place) (to r p : ℕ) → MetOnWay (adapt t ps to r p)
unfolding adapt
adapt-way t ps to r p = let v = place_type (place_at ps p) in
    way-if (related conforms t r v) _ _ tt
    (refused-need OnWay (related strict t r v) not_strict _ (refl, refl)
    (way-try (derived t closed r v) _ (derived-way t closed r v) λ x. refused-need OnWay (ltb (length ps) max_places) places_full _ (refl, refl) tt))

cross-way : (f : Reference) (to r : ℕ) → MetOnWay (cross f to r)
unfolding cross
cross-way f to r = let t = f.table in
    way-if (type_at t to).own _ _
    (refused-need OnWay (related free t to f.type) unrelated _ (refl, refl)
    (refused-need OnWay (eqb r (base_owner f.places f.place)) not_owner _ (refl, refl) (adapt-way t f.places to to (base_of f.places f.place))))
    (refused-need OnWay (related loose t to f.type) unrelated _ (refl, refl)
    (way-if (related subtype t to f.type) _ _ tt
    (way-try (derived t sub to f.type) _ (derived-way t sub to f.type) λ x. adapt-way x.0 f.places to x.1 f.place)))

layer-way : (first : Bool) (e : ℕ) → OnWay e → OnWay (at_layer first e)
layer-way true e h = h
layer-way false e h = go (eqb e unrelated || eqb e not_strict)
  where
    go : (b : Bool) → OnWay (cond b later_layer e)
    go true = (refl, refl)
    go false = h

renumber-way : {A : Type 0} (first : Bool) (m : Res A) → MetOnWay m → MetOnWay (renumber first m)
renumber-way first (refuse e) h = layer-way first e h
renumber-way first (ok a) h = tt

layers-way : (first : Bool) (f : Reference) (r : ℕ) (ts : List (Option ℕ)) → MetOnWay (cross_layers first f r ts)
unfolding cross_layers
layers-way first f r [] = tt
layers-way first f r (none ∷ ts) = layer-way first unrelated (refl, refl)
layers-way first f r (some t ∷ ts) = way-try (renumber first (cross f t r)) _ (renumber-way first (cross f t r) (cross-way f t r)) λ g. layers-way false g r ts

pass-way : (first : Bool) (t : Table) (v : ℤ) (ts : List (Option ℕ)) → MetOnWay (pass_layers first t v ts)
unfolding pass_layers
pass-way first t v [] = tt
pass-way first t v (none ∷ ts) = layer-way first unrelated (refl, refl)
pass-way first t v (some a ∷ ts) = go (type_at t a).rep (pass-way false t v ts)
  where
    go : (r : Rep) → MetOnWay (pass_layers false t v ts) → MetOnWay {A = Unit {0}} (elim r [
      | ref ↦ refuse (at_layer first unrelated)
      | w32 ↦ need (within 2147483648 v) too_wide λ _. pass_layers false t v ts
      | w64 ↦ pass_layers false t v ts
    ])
    go ref h = layer-way first unrelated (refl, refl)
    go w32 h = refused-need OnWay (within 2147483648 v) too_wide _ (refl, refl) h
    go w64 h = h

send-way : (s : System) (r k : ℕ) (ts : List (Option ℕ)) → MetOnWay (send s r k ts)
unfolding send add_cell
send-way s r k ts = way-try (cross_layers true (leaving s k) r ts) _ (layers-way true (leaving s k) r ts) λ f.
    refused-need OnWay (ltb (length s.cells) max_cells) cells_full _ (refl, refl) tt

arguments-way : (s : System) (r : ℕ) (ls : List ℕ) (m i : ℕ) (xs : List ℕ) (vs : List ℤ) → MetOnWay (send_arguments s r ls m i xs vs)
unfolding send_arguments
arguments-way s r ls m i [] vs = tt
arguments-way s r ls m i (a ∷ xs) [] = tt
arguments-way s r ls m i (a ∷ xs) (v ∷ vs) = let ts = map (argument_at s.table m i) ls in
    way-if (is_ref (type_at s.table a).rep) _ _
    (way-try (send s r (named v) ts) _ (send-way s r (named v) ts) λ x. arguments-way x.0 r ls m (suc i) xs vs)
    (way-try (pass_layers true s.table v ts) _ (pass-way true s.table v ts) λ _. arguments-way s r ls m (suc i) xs vs)

-- ---- L29, L31: the tests of a call in their order, and what its outcome says of them
-- a, b, c and d are the tests before 18, e is the one of 18, m what becomes of the arguments
abbrev Tested : Bool → Bool → Bool → Bool → Bool → Res System → (System → System × Result) → Outcome
Tested a b c d e m f = outcome (need a unknown_subject λ _. need b not_held λ _. need c not_callable λ _. need d wrong_values λ _. need e calls_full λ _. try m λ x. ok (f x))

seen-tests : (a b c d e : Bool) (m : Res System) (f : System → System × Result) → MetOnWay m → (a && (b && (c && d))) ≡ not (refused_before (Tested a b c d e m f))
seen-tests false b c d e m f h = refl
seen-tests true false c d e m f h = refl
seen-tests true true false d e m f h = refl
seen-tests true true true false e m f h = refl
seen-tests true true true true false m f h = refl
seen-tests true true true true true (refuse n) f h = ap not (sym h.0)
seen-tests true true true true true (ok x) f h = refl

pub tests-seen : TestsSeen
unfolding serve call_request
tests-seen s subject k m vs = let c = cell_at s (named k) in let x = method_at s.table c.type (named m) in
    seen-tests (names subject s.table.subjects) (held s subject k) (names m s.table.methods && is_avail x.state) (arguments_held s subject x.args vs)
    (ltb (made_by (named subject) s.calls) max_calls_each) (send_arguments s (base_owner s.places c.place) (call_layers s c) (named m) 0 x.args vs) _
    (arguments-way s (base_owner s.places c.place) (call_layers s c) (named m) 0 x.args vs)

-- the number of a refusal; 0 is none
abbrev number_of : Outcome → ℕ
number_of (refused e) = e
number_of (got x) = 0

seen-limit : (a b c d e : Bool) (m : Res System) (f : System → System × Result) → MetOnWay m → So (a && (b && (c && d))) → (Tested a b c d e m f ≡ refused calls_full) ↔ (e ≡ false)
seen-limit false b c d e m f h p = never p
seen-limit true false c d e m f h p = never p
seen-limit true true false d e m f h p = never p
seen-limit true true true false e m f h p = never p
seen-limit true true true true false m f h p = (λ _. refl, λ _. refl)
seen-limit true true true true true (refuse n) f h p = (λ q. absurd (eqb_no h.1 (ap number_of q)), λ z. never (sym z))
seen-limit true true true true true (ok x) f h p = (λ q. let z : 0 ≡ calls_full = ap number_of q in absurd (omega (arith, z)), λ z. never (sym z))

full_is : (n : ℕ) → (ltb n max_calls_each ≡ false) ↔ (max_calls_each ≤ n)
full_is n = (ltb_no, λ l. go (ltb n max_calls_each) refl l)
  where
    go : (b : Bool) → ltb n max_calls_each ≡ b → max_calls_each ≤ n → b ≡ false
    go true e l = let u : n < max_calls_each = ltb-so e in absurd (omega (arith, u))
    go false e l = refl

-- A call that passes the tests before 18 meets 18 exactly if its caller has made 32, in any state.
pub limit-seen : (s : System) (subject k m : ℤ) (vs : List ℤ) → So (passes_tests s subject k m vs)
    → (outcome (serve s (call subject k m vs)) ≡ refused calls_full) ↔ (max_calls_each ≤ made_by (named subject) s.calls)
unfolding serve call_request
limit-seen s subject k m vs p = let c = cell_at s (named k) in let x = method_at s.table c.type (named m) in
    let w = seen-limit (names subject s.table.subjects) (held s subject k) (names m s.table.methods && is_avail x.state) (arguments_held s subject x.args vs)
    (ltb (made_by (named subject) s.calls) max_calls_each) (send_arguments s (base_owner s.places c.place) (call_layers s c) (named m) 0 x.args vs)
    (λ x. (with_call x (record { caller = named subject; cell = named k; method = named m; answered = false }), pair (length s.calls) (adapter_count s.places c.place)))
    (arguments-way s (base_owner s.places c.place) (call_layers s c) (named m) 0 x.args vs) p in
    let v = full_is (made_by (named subject) s.calls) in
    (λ q. v.0 (w.0 q), λ l. w.1 (v.1 l))

-- ---- L31: no other request meets 18, and a call only so
abbrev NotFull : {A : Type 0} → Res A → Type 0
NotFull m = IfRefused m (λ e. eqb e calls_full ≡ false)

way-not-full : {A : Type 0} (m : Res A) → MetOnWay m → NotFull m
way-not-full (refuse e) h = h.1
way-not-full (ok a) h = tt

full-need : {A : Type 0} (b : Bool) (e : ℕ) (k : Unit {0} → Res A) → eqb e calls_full ≡ false → NotFull (k tt) → NotFull (need b e k)
full-need b e k = refused-need (λ e. eqb e calls_full ≡ false) b e k

full-try : {A B : Type 0} (m : Res A) (k : A → Res B) → MetOnWay m → ((a : A) → NotFull (k a)) → NotFull (try m k)
full-try m k h f = refused-try (λ e. eqb e calls_full ≡ false) (λ _. Unit {0}) m k (way-not-full m h) (whatever m) λ a _. f a

arrived-not-full : (s : System) (r : ℕ) (f : Reference) (to : ℕ) → NotFull (try (cross f to r) λ g. add_cell s r g)
unfolding add_cell
arrived-not-full s r f to = full-try (cross f to r) _ (cross-way f to r) λ g. full-need (ltb (length s.cells) max_cells) cells_full _ refl tt

give-not-full : (s : System) (subject : ℤ) (j : ℕ) (due : Option ℕ) (v : Option ℤ) → NotFull (give s subject j due v)
unfolding give
give-not-full s subject j none none = tt
give-not-full s subject j none (some v) = refl
give-not-full s subject j (some a) none = refl
give-not-full s subject j (some a) (some v) = go (is_ref (type_at s.table a).rep)
  where
    go : (b : Bool) → NotFull {A = System × Result} (elim b [
      | true ↦ need (held s subject v) wrong_values λ _. try (send s (call_at s j).caller (named v) (answers_met s j)) λ x. ok (with_answer x.0 j, x.1)
      | false ↦ try (pass_layers true s.table v (answers_met s j)) λ _. ok (with_answer s j, number v)
    ])
    go true = full-need (held s subject v) wrong_values _ refl
        (full-try (send s (call_at s j).caller (named v) (answers_met s j)) _ (send-way s (call_at s j).caller (named v) (answers_met s j)) λ x. tt)
    go false = full-try (pass_layers true s.table v (answers_met s j)) _ (pass-way true s.table v (answers_met s j)) λ _. tt

not-met : (m : Res (System × Result)) → NotFull m → outcome m ≡ refused calls_full → ⊥
not-met (refuse e) h q = eqb_no h (ap number_of q)
not-met (ok x) h q = let z : 0 ≡ calls_full = ap number_of q in omega (arith, z)

pub full-met : FullMet
unfolding serve new_request move_request answer_request
full-met s (new subject class to) = (
  λ q. absurd (not-met (new_request s subject class to) (
      full-need (names subject s.table.subjects) unknown_subject _ refl
      (full-need (names class s.table.sheet && is_class (type_at s.table (named class))) unknown_type _ refl
      (full-need (is_sheet_ref s.table to) unknown_type _ refl
      (full-need (ltb (length s.places) max_places) places_full _ refl
      (arrived-not-full s (named subject) (entering s subject class) (named to)))))) q),
  λ z. never z,
)
full-met s (move subject k receiver to) = (
  λ q. absurd (not-met (move_request s subject k receiver to) (
      full-need (names subject s.table.subjects && names receiver s.table.subjects) unknown_subject _ refl
      (full-need (held s subject k) not_held _ refl
      (full-need (is_sheet_ref s.table to) unknown_type _ refl
      (arrived-not-full s (named receiver) (leaving s (named k)) (named to))))) q),
  λ z. never z,
)
full-met s (call subject k m vs) = (
  λ q. let p : So (passes_tests s subject k m vs) = tests-seen s subject k m vs ∙ ap (λ o. not (refused_before o)) q in both p (so-leb ((limit-seen s subject k m vs p).0 q)),
  λ z. let p = first (passes_tests s subject k m vs) _ z in (limit-seen s subject k m vs p).1 (leb-so (second (passes_tests s subject k m vs) _ z)),
)
full-met s (answer subject j v) = (
  λ q. absurd (not-met (answer_request s subject j v) (
      full-need (names subject s.table.subjects) unknown_subject _ refl
      (full-need (names j (length s.calls) && eqb (named subject) (base_owner s.places (cell_at s (call_at s (named j)).cell).place)) not_held _ refl
      (full-need (not (call_at s (named j)).answered) answered_already _ refl (give-not-full s subject (named j) (due_for s (named j)) v)))) q),
  λ z. never z,
)

-- ---- L29, L30: from a loaded sheet nobody has made more than 32
pub run-bounded : (qs : List Request) (s : System) → Bounded s → Bounded (run s qs).1
unfolding run
run-bounded [] s h = h
run-bounded (q ∷ qs) s h = run-bounded qs (after s (serve s q)) (bounded-kept s h q)

start-bounded : (t : Table) → So (valid_sheet t) → Bounded (loaded t)
unfolding follow
start-bounded t h = fits-bounded (loaded t) (reached-fits t h [])

pub accepted-few : (t : Table) → So (valid_sheet t) → (qs : List Request) (k : ℕ) → accepted_calls k (saw_of t qs) ≤ max_calls_each
accepted-few t h qs k = let w = (run-bounded qs (loaded t) (start-bounded t h)).calls.few k in omega (arith, w, calls-counted t h qs k)

pub calls-limited : CallsLimited
calls-limited t h qs subject k m vs p =
    let n = named subject in
    let w = limit-seen (ran_to t qs) subject k m vs p in
    let e = calls-counted t h qs n in
    let few = accepted-few t h qs n in
    (λ q. let l = w.0 q in omega (arith, l, e, few), λ a. w.1 (omega (arith, a, e)))

pub calls-apart : CallsApart
calls-apart t h ps qs n e k m vs p k' m' vs' p' =
    let v = calls-limited t h ps (pos n) k m vs p in
    let w = calls-limited t h qs (pos n) k' m' vs' p' in
    (λ q. w.1 (sym e ∙ v.0 q), λ q. v.1 (e ∙ w.0 q))
