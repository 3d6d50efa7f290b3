-- A call that is answered, a value on its way back, and the tests before that in their order.
use mathlib.Core.Path.{◌≡◌, refl, sym, ap, ◌∙◌, subst}
use mathlib.Core.Bool.{Bool, true, false, not}
use mathlib.Core.List.{List, ◌∷◌, map, reverse}
use mathlib.Core.Option.{Option, none, some}
use Prim.Native.Nat.{ℕ, ◌≤◌, ◌<◌}
use native.Mathlib.Omega.{arith}
use native.Mathlib.Decide.{ℕ_discrete}
use lib.Dec.{eqb}
use lib.IntN.{ℤ}
use lib.ListN.{length, get_or, set}
use lib.Seq.{get_or-set_same, get_or-set_other}
use Rattle.std.specs.Prelude.{Some, None, Ok, Err}
use Rattle.std.specs.Prelude.{Option as Maybe, Result as Either}
use borrow.Author.Tests.{eq-eqb, ne_eqb}
use Rattle.spec_model.specs.Basics.{Res, refuse, ok, try, need, names, named}
use Rattle.spec_model.specs.Table.{Table, type_at, answer_at, is_ref}
use Rattle.spec_model.specs.Crossing.{base_owner}
use Rattle.spec_model.specs.Crossing.{Place as Placeᵐ}
use Rattle.spec_model.specs.Requests.{System, Result, number, nothing, no_cell, no_call, cell_at, call_at, held, layers_of, pass_layers, send, with_calls, flagged, with_answer, max_calls_each, made_by}
use Rattle.spec_model.specs.Requests.{due_for, answers_met, give, answer_request}
use Rattle.spec_model.specs.Requests.{Cell as Cellᵐ, Call as Callᵐ}
use Rattle.spec_model.specs.Refusals.{unknown_subject, not_held, wrong_values, answered_already}
use Rattle.crossing_targets.specs.Targets.{option_of}
use Rattle.table_record.specs.Store.{table_in, ref_in}
use Rattle.table_record.proofs.Tables.{ref-table}
use Rattle.base_numbers.specs.declared.refusal.Refusal.{Refusal}
use Rattle.base_numbers.specs.declared.refusal.Refusal.TheVariants.{UnknownSubject, NotHeld, WrongValues, AnsweredAlready}
use Rattle.base_numbers.specs.Index.{index_of}
use Rattle.base_numbers.proofs.Laws.{index-unknown, index-known}
use Rattle.state_record.specs.declared.Call.{Call}
use Rattle.state_record.specs.Counted.{Calls}
use Rattle.state_record.specs.declared.Cell.{Cell}
use Rattle.state_record.specs.Whole.{Whole as State}
use Rattle.state_record.specs.View.{cell_of, call_of, cells_in, places_in, calls_in, call_answered, system_in}
use Rattle.state_record.specs.Sound.{CallIn, Sound}
use Rattle.state_record.proofs.Laws.{calls-length, means-counted}
use Rattle.state_record.proofs.Kept.{few-answered}
use Rattle.crossing_targets.specs.Targets.{passed_of}
use Rattle.request_common.specs.declared.Answer.{Answer}
use Rattle.request_common.specs.Served.{Done as Served, refusal_of as refusal}
use Rattle.request_common.specs.Served.{result_of, Step}
use Rattle.request_common.proofs.Laws.{refuses, step-as, table_is, cells_are, places-are, calls_are, subject-at}
use Rattle.request_value.proofs.Sending.{step_after, step-stops}
use Rattle.request_value.proofs.OtherCalls.{calls_left, calls-step}
use Rattle.request_answer.specs.Given.{Keeps}
use Rattle.request_answer.specs.Parts.{give_reference, give_value, answer_call, Called}

-- ---- The flag.
module _ (s : State) (h : Sound s) (j : ℕ) (low : j < s.calls.count) (calls : Calls) (e : calls ≡ call_answered s.calls j)
    (are : calls_in calls ≡ set (calls_in s.calls) j (flagged (get_or (calls_in s.calls) j no_call) true)) where
  counted : length (calls_in s.calls) ≡ s.calls.count
  counted = calls-length s.calls

  same : calls.count ≡ s.calls.count
  same = ap (λ (x : Calls). x.count) e

  each : (i : ℕ) → i < calls.count → CallIn s (get_or (calls_in calls) i no_call)
  each i l = subst (λ (x : List Callᵐ). CallIn s (get_or x i no_call)) (sym are) (go (ℕ_discrete i j))
    where
      new : Callᵐ
      new = flagged (get_or (calls_in s.calls) j no_call) true

      go : Dec (i ≡ j) → CallIn s (get_or (set (calls_in s.calls) j new) i no_call)
      go (yes q) =
          let y = h.calls.each j low in
          subst (λ (n : ℕ). CallIn s (get_or (set (calls_in s.calls) j new) n no_call)) (sym q)
          (subst (CallIn s) (sym (get_or-set_same (calls_in s.calls) j new no_call (omega (arith, low, counted)))) (record { caller = y.caller; cell = y.cell; method = y.method }))
      go (no q) = subst (CallIn s) (sym (get_or-set_other (calls_in s.calls) j i new no_call q)) (h.calls.each i (omega (arith, l, same)))

  few : (k : ℕ) → made_by k (calls_in calls) ≤ max_calls_each
  few k = subst (λ (x : List Callᵐ). made_by k x ≤ max_calls_each) (sym are) (few-answered s h j k)

  pub answered-step : (a : Answer) → Step s (ok (with_answer (system_in s) j, result_of a)) (record { outcome = Ok a; state = calls_left s calls })
  answered-step a = step-as
      (ap (λ (xs : List Callᵐ). ok (with_calls (system_in s) (set xs j (flagged (get_or xs j no_call) true)), result_of a)) (calls_are s)
      ∙ ap (λ (xs : List Callᵐ). ok (with_calls (system_in s) xs, result_of a)) (sym are))
      (calls-step s h calls each few a)

-- ---- The call and its cell, as they are read.
module _ (s : State) (h : Sound s) (j : ℕ) (low : j < s.calls.count) (x : Call) (is : call_of x ≡ get_or (calls_in s.calls) j no_call) (k : ℕ) (at : k ≡ x.cell) where
  pub cell-low : k < s.cells.count
  cell-low = subst (λ (n : ℕ). n < s.cells.count) (sym (at ∙ ap (λ (y : Callᵐ). y.cell) is)) (h.calls.each j low).cell

  pub called : (c : Cell) → cell_of c ≡ get_or (cells_in s.cells) k no_cell → Called s j x c
  called c e = record {
    number = low;
    call = here;
    cell = e ∙ ap (λ (n : ℕ). get_or (cells_in s.cells) n no_cell) (at ∙ ap (λ (y : Callᵐ). y.cell) here)
        ∙ ap (λ (xs : List Cellᵐ). get_or xs (call_at (system_in s) j).cell no_cell) (sym (cells_are s));
    method = subst (λ (y : Callᵐ). y.method < s.counts.methods) (sym is) (h.calls.each j low).method;
    ty = subst (λ (y : Cellᵐ). y.type < s.counts.types) (sym e) (h.cells k cell-low).type;
    place = subst (λ (y : Cellᵐ). y.place < s.places.count) (sym e) (h.cells k cell-low).place;
  }
    where
      here : call_of x ≡ call_at (system_in s) j
      here = is ∙ ap (λ (xs : List Callᵐ). get_or xs j no_call) (sym (calls_are s))

module _ (s : State) (j : ℕ) (x : Call) (c : Cell) (k : Called s j x c) where
  abbrev T : Table
  T = table_in s.types s.links s.counts

  -- the answer types of its layers, outward
  pub answers-are : (p m : ℕ) → p ≡ c.place → m ≡ x.method → (layers ls : List ℕ) → layers ≡ layers_of (places_in s.places) p → ls ≡ c.ty ∷ layers →
      (ts us : List (Option ℕ)) → ((l : List ℕ) → ts ≡ map (answer_at (table_in s.types l s.counts) m) ls) → us ≡ reverse ts → us ≡ answers_met (system_in s) j
  answers-are p m pe me layers ls le we ts us te ue =
      ue ∙ ap reverse (te s.links) ∙ ap (λ (n : ℕ). reverse (map (answer_at T n) ls)) (me ∙ ap (λ (y : Callᵐ). y.method) k.call)
      ∙ ap (λ (t : Table). reverse (map (answer_at t (call_at (system_in s) j).method) ls)) (sym (table_is s))
      ∙ ap (λ (w : List ℕ). reverse (map (answer_at (system_in s).table (call_at (system_in s) j).method) w)) call-layers-are
    where
      call-layers-are : ls ≡ (cell_at (system_in s) (call_at (system_in s) j).cell).type ∷ layers_of (system_in s).places (cell_at (system_in s) (call_at (system_in s) j).cell).place
      call-layers-are =
          we ∙ ap (λ (xs : List ℕ). c.ty ∷ xs) (le ∙ ap (layers_of (places_in s.places)) pe)
          ∙ ap (λ (y : Cellᵐ). y.type ∷ layers_of (places_in s.places) y.place) k.cell
          ∙ ap (λ (ps : List Placeᵐ). (cell_at (system_in s) (call_at (system_in s) j).cell).type ∷ layers_of ps (cell_at (system_in s) (call_at (system_in s) j).cell).place) (sym (places-are s))

  -- what is due
  pub due-is : (m t : ℕ) (n : Maybe ℕ) → m ≡ x.method → t ≡ c.ty → ((l : List ℕ) → option_of n ≡ answer_at (table_in s.types l s.counts) m t) → due_for (system_in s) j ≡ option_of n
  due-is m t n me te e = sym (
      e s.links ∙ ap (λ (y : ℕ). answer_at T y t) (me ∙ ap (λ (y : Callᵐ). y.method) k.call)
      ∙ ap (answer_at T (call_at (system_in s) j).method) (te ∙ ap (λ (y : Cellᵐ). y.type) k.cell)
      ∙ ap (λ (y : Table). answer_at y (call_at (system_in s) j).method (cell_at (system_in s) (call_at (system_in s) j).cell).type) (sym (table_is s)))

-- ---- A reference on its way back.
module _ (s : State) (j r : ℕ) (v : ℤ) (ts : List (Option ℕ)) where
  abbrev Ends : System × Result → Res (System × Result)
  Ends x = ok (with_answer x.0 j, x.1)

  pub reference-stops : (t : State) (e : Refusal) → Step s (send (system_in s) r (named v) ts) (refusal t e) → Step s (give_reference (system_in s) j r v ts) (refusal t e)
  reference-stops t e sent = step-stops Ends (refusal t e) sent refl

  pub reference-answers : (t : State) (a : Answer) → Step s (send (system_in s) r (named v) ts) (record { outcome = Ok a; state = t }) →
      (y : Served) → Step t (ok (with_answer (system_in t) j, result_of a)) y → Step s (give_reference (system_in s) j r v ts) y
  reference-answers t a sent y g = step-as (ap (λ (m : Res (System × Result)). try m Ends) (sym sent.is)) (step_after t sent.stored y g)

-- ---- A value where one is due.
module _ (s : State) (h : Sound s) (subject : ℤ) (j : ℕ) (x : Call) (c : Cell) (k : Called s j x c) (a : ℕ) (v : ℤ) (ts : List (Option ℕ)) (met : ts ≡ answers_met (system_in s) j)
    (q : Bool) (kind : q ≡ ref_in s.counts.types s.types a) where
  abbrev Ways : Bool → Bool → ℕ → List (Option ℕ) → Table → Res (System × Result)
  Ways y b r os t = elim y [
    | true ↦ need b wrong_values λ _. give_reference (system_in s) j r v os
    | false ↦ try (pass_layers true t v os) λ _. ok (with_answer (system_in s) j, number v)
  ]

  value-is : give_value (system_in s) subject j a v ≡ Ways q (held (system_in s) subject v) x.caller ts (table_in s.types s.links s.counts)
  value-is =
      ap (λ (t : Table). Ways (is_ref (type_at t a).rep) (held (system_in s) subject v) (call_at (system_in s) j).caller (answers_met (system_in s) j) t) (table_is s)
      ∙ ap (λ (y : Bool). Ways y (held (system_in s) subject v) (call_at (system_in s) j).caller (answers_met (system_in s) j) (table_in s.types s.links s.counts))
      (ref-table s.types s.links s.counts a ∙ sym kind)
      ∙ ap (λ (y : Callᵐ). Ways q (held (system_in s) subject v) y.caller (answers_met (system_in s) j) (table_in s.types s.links s.counts)) (sym k.call)
      ∙ ap (λ (os : List (Option ℕ)). Ways q (held (system_in s) subject v) x.caller os (table_in s.types s.links s.counts)) (sym met)

  abbrev Gives : Served → Type 0
  Gives y = Step s (give_value (system_in s) subject j a v) y

  module _ (z : q ≡ true) where
    asks : give_value (system_in s) subject j a v ≡ Ways true (held (system_in s) subject v) x.caller ts (table_in s.types s.links s.counts)
    asks = value-is ∙ ap (λ (y : Bool). Ways y (held (system_in s) subject v) x.caller ts (table_in s.types s.links s.counts)) z

    pub value-wrong-values : held (system_in s) subject v ≡ false → (y : Served) → y ≡ refusal s WrongValues → Gives y
    value-wrong-values w y e = refuses h (asks ∙ ap (λ (b : Bool). Ways true b x.caller ts (table_in s.types s.links s.counts)) w) e

    pub value-reference : held (system_in s) subject v ≡ true → (r : ℕ) → r ≡ x.caller → (y : Served) → Step s (give_reference (system_in s) j r v ts) y → Gives y
    value-reference w r e y g = step-as
        (asks ∙ ap (λ (b : Bool). Ways true b x.caller ts (table_in s.types s.links s.counts)) w ∙ ap (λ (n : ℕ). give_reference (system_in s) j n v ts) (sym e)) g

  module _ (z : q ≡ false) (p : Either (Unit {0}) Refusal) (passed : (l : List ℕ) → passed_of p ≡ pass_layers true (table_in s.types l s.counts) v ts) where
    abbrev Passed : Either (Unit {0}) Refusal → Res (System × Result)
    Passed y = try (passed_of y) λ _. ok (with_answer (system_in s) j, number v)

    number_is : give_value (system_in s) subject j a v ≡ Passed p
    number_is = value-is ∙ ap (λ (y : Bool). Ways y (held (system_in s) subject v) x.caller ts (table_in s.types s.links s.counts)) z
        ∙ ap (λ (y : Res (Unit {0})). try y (λ _. ok (with_answer (system_in s) j, number v))) (sym (passed s.links))

    pub number-refused : (e : Refusal) → p ≡ Err e → (y : Served) → y ≡ refusal s e → Gives y
    number-refused e w y u = refuses h (number_is ∙ ap Passed w) u

    pub number-answers : (o : Unit {0}) → p ≡ Ok o → (y : Served) → Step s (ok (with_answer (system_in s) j, number v)) y → Gives y
    number-answers o w y g = step-as (number_is ∙ ap Passed w) g

-- ---- What is left of the types.
pub keeps_same : (g : Maybe ℤ) (b : List ℕ) → Keeps g b b
keeps_same (Some v) b = tt
keeps_same None b = refl

pub keeps-any : (g : Maybe ℤ) (v : ℤ) → g ≡ Some v → (b t : List ℕ) → Keeps g b t
keeps-any g v e b t = subst (λ (x : Maybe ℤ). Keeps x b t) (sym e) tt

-- ---- What is due and what is given.
give-idle : (s : System) (subject : ℤ) (j : ℕ) (v : ℤ) → give s subject j none (some v) ≡ refuse wrong_values
unfolding give
give-idle s subject j v = refl

give-lacks : (s : System) (subject : ℤ) (j a : ℕ) → give s subject j (some a) none ≡ refuse wrong_values
unfolding give
give-lacks s subject j a = refl

give-nothing : (s : System) (subject : ℤ) (j : ℕ) → give s subject j none none ≡ ok (with_answer s j, nothing)
unfolding give
give-nothing s subject j = refl

give-value : (s : System) (subject : ℤ) (j a : ℕ) (v : ℤ) → give s subject j (some a) (some v) ≡ give_value s subject j a v
unfolding give
give-value s subject j a v = refl

module _ (s : State) (h : Sound s) (subject : ℤ) (j : ℕ) (n : Maybe ℕ) (due : due_for (system_in s) j ≡ option_of n) (g : Maybe ℤ) (y : Served) where
  abbrev Answers : Type 0
  Answers = Step s (give (system_in s) subject j (due_for (system_in s) j) (option_of g)) y

  give-is : (d : Maybe ℕ) (o : Maybe ℤ) → n ≡ d → g ≡ o → give (system_in s) subject j (due_for (system_in s) j) (option_of g) ≡ give (system_in s) subject j (option_of d) (option_of o)
  give-is d o e w = ap (λ (k : Option ℕ). give (system_in s) subject j k (option_of g)) (due ∙ ap option_of e)
      ∙ ap (λ (k : Maybe ℤ). give (system_in s) subject j (option_of d) (option_of k)) w

  pub given-idle : n ≡ None → (v : ℤ) → g ≡ Some v → y ≡ refusal s WrongValues → Answers
  given-idle z v w e = refuses h (give-is None (Some v) z w ∙ give-idle (system_in s) subject j v) e

  pub given_nothing : n ≡ None → g ≡ None → Step s (ok (with_answer (system_in s) j, nothing)) y → Answers
  given_nothing z w k = step-as (give-is None None z w ∙ give-nothing (system_in s) subject j) k

  pub given-lacks : (a : ℕ) → n ≡ Some a → g ≡ None → y ≡ refusal s WrongValues → Answers
  given-lacks a z w e = refuses h (give-is (Some a) None z w ∙ give-lacks (system_in s) subject j a) e

  pub given-value : (a : ℕ) → n ≡ Some a → (v : ℤ) → g ≡ Some v → Step s (give_value (system_in s) subject j a v) y → Answers
  given-value a z v w k = step-as (give-is (Some a) (Some v) z w ∙ give-value (system_in s) subject j a v) k

-- ---- A2, A3.
module _ (s : State) (h : Sound s) (subject : ℤ) (j : ℕ) (o : Option ℤ) (x : Call) (c : Cell) (k : Called s j x c)
    (p owner who : ℕ) (pe : p ≡ c.place) (oe : owner ≡ base_owner (places_in s.places) p) (we : named subject ≡ who) where
  abbrev Tests : Bool → Bool → Res (System × Result)
  Tests a b = need a not_held λ _. need (not b) answered_already λ _. give (system_in s) subject j (due_for (system_in s) j) o

  tests-are : answer_call (system_in s) subject j o ≡ Tests (eqb who owner) x.answered
  tests-are =
      ap (λ (n : ℕ). Tests (eqb n (base_owner (system_in s).places (cell_at (system_in s) (call_at (system_in s) j).cell).place)) (call_at (system_in s) j).answered) we
      ∙ ap (λ (n : ℕ). Tests (eqb who n) (call_at (system_in s) j).answered) owner-is ∙ ap (λ (y : Callᵐ). Tests (eqb who owner) y.answered) (sym k.call)
    where
      owner-is : base_owner (system_in s).places (cell_at (system_in s) (call_at (system_in s) j).cell).place ≡ owner
      owner-is =
          ap (λ (ps : List Placeᵐ). base_owner ps (cell_at (system_in s) (call_at (system_in s) j).cell).place) (places-are s)
          ∙ sym (oe ∙ ap (base_owner (places_in s.places)) (pe ∙ ap (λ (y : Cellᵐ). y.place) k.cell))

  abbrev Answered : Served → Type 0
  Answered y = Step s (answer_call (system_in s) subject j o) y

  pub owner-not-held : (owner ≡ who → ⊥) → (y : Served) → y ≡ refusal s NotHeld → Answered y
  owner-not-held z y e = refuses h (tests-are ∙ ap (λ (b : Bool). Tests b x.answered) (ne_eqb who owner (λ w. z (sym w)))) e

  module _ (z : owner ≡ who) where
    mine : answer_call (system_in s) subject j o ≡ Tests true x.answered
    mine = tests-are ∙ ap (λ (b : Bool). Tests b x.answered) (eq-eqb who owner (sym z))

    pub answered-already : x.answered ≡ true → (y : Served) → y ≡ refusal s AnsweredAlready → Answered y
    answered-already w y e = refuses h (mine ∙ ap (Tests true) w) e

    pub call-gives : x.answered ≡ false → (y : Served) → Step s (give (system_in s) subject j (due_for (system_in s) j) o) y → Answered y
    call-gives w y g = step-as (mine ∙ ap (Tests true) w) g

-- ---- The operands.
module _ (s : System) (subject j : ℤ) (o : Option ℤ) where
  answer-unknown-subject : names subject s.table.subjects ≡ false → answer_request s subject j o ≡ refuse unknown_subject
  unfolding answer_request
  answer-unknown-subject e = rw e

  module _ (known : names subject s.table.subjects ≡ true) where
    answer-not-held : names j (length s.calls) ≡ false → answer_request s subject j o ≡ refuse not_held
    unfolding answer_request
    answer-not-held e = rw (known, e)

    answer-goes : names j (length s.calls) ≡ true → answer_request s subject j o ≡ answer_call s subject (named j) o
    unfolding answer_request
    answer-goes e = rw (known, e)

module _ (s : State) (h : Sound s) (subject call : ℤ) (o : Option ℤ) where
  abbrev Replies : Served → Type 0
  Replies y = Step s (answer_request (system_in s) subject call o) y

  pub step-unknown-subject : names subject (system_in s).table.subjects ≡ false → (y : Served) → y ≡ refusal s UnknownSubject → Replies y
  step-unknown-subject z y e = refuses h (answer-unknown-subject (system_in s) subject call o z) e

  module _ (known : names subject (system_in s).table.subjects ≡ true) (j : ℕ) (j-is : j ≡ index_of call s.calls.count) where
    pub step-not-held : s.calls.count ≤ j → (y : Served) → y ≡ refusal s NotHeld → Replies y
    step-not-held l y e = refuses h (answer-not-held (system_in s) subject call o known (ap (names call) (means-counted s).calls ∙ index-unknown call s.calls.count j j-is l)) e

    pub step-goes : j < s.calls.count → (who : ℕ) → who ≡ index_of subject s.counts.subjects → (y : Served)
        → ((z : ℤ) → named z ≡ who → Step s (answer_call (system_in s) z j o) y) → Replies y
    step-goes l who w y g =
        let x = index-known call s.calls.count j j-is l in
        step-as (answer-goes (system_in s) subject call o known (ap (names call) (means-counted s).calls ∙ x.0) ∙ ap (λ (n : ℕ). answer_call (system_in s) subject n o) x.1)
        (g subject (sym (subject-at s subject who w known).0))
