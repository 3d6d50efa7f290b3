-- The call once its arguments are sent, and the tests before that in their order.
use mathlib.Core.Path.{◌≡◌, refl, sym, ap, ◌∙◌, subst}
use mathlib.Core.Logic.{◌⊎◌, inl, inr}
use mathlib.Core.Bool.{Bool, true, false, cond}
use mathlib.Core.List.{List, [], ◌∷◌, ◌++◌}
use mathlib.Core.Option.{none}
use Prim.Native.Nat.{ℕ, ◌+◌, ◌≤◌, ◌<◌}
use native.Mathlib.Omega.{arith}
use lib.Dec.{ltb}
use Rattle.std.specs.Prelude.{Ok, Err}
use Rattle.std.specs.Prelude.{Result as Either}
use lib.IntN.{ℤ}
use lib.ListN.{length, get_or, get_or-append}
use lib.Seq.{get_or_at}
use borrow.Author.Tests.{lt-ltb, le-ltb}
use Rattle.spec_model.specs.Basics.{Res, refuse, ok, try, need, names, named}
use Rattle.spec_model.specs.Table.{Table, method_at, is_avail, permit, signed}
use Rattle.spec_model.specs.Table.{Method as Methodᵐ}
use Rattle.spec_model.specs.Crossing.{base_owner}
use Rattle.spec_model.specs.Check.{state_of, answer_of, method_of, table_of}
use Rattle.spec_model.specs.Requests.{System, Result, pair, no_cell, no_call, cell_at, held, arguments_held, send_arguments, call_layers, layers_of, adapter_count, with_calls, with_call, call_request}
use Rattle.spec_model.specs.Requests.{max_calls_each, made_by}
use Rattle.spec_model.specs.Requests.{Cell as Cellᵐ, Call as Callᵐ}
use Rattle.spec_model.specs.Refusals.{unknown_subject, not_held, not_callable, wrong_values, calls_full}
use Rattle.table_record.specs.declared.Counts.{Counts}
use Rattle.table_record.specs.declared.Method.{Method}
use Rattle.table_record.specs.Store.{table_in, raw_method}
use Rattle.table_record.proofs.Lists.{lt-or-ge}
use Rattle.table_record.proofs.Codes.{not-avail}
use Rattle.base_numbers.specs.Index.{index_of}
use Rattle.base_numbers.proofs.Laws.{index-unknown, index-known}
use Rattle.state_record.specs.declared.Call.{Call}
use Rattle.state_record.specs.Counted.{Calls}
use Rattle.state_record.specs.declared.Cell.{Cell}
use Rattle.state_record.specs.Whole.{Whole as State}
use Rattle.state_record.specs.View.{cell_of, call_of, cells_in, places_in, calls_in, call_added, system_in, with_types}
use Rattle.state_record.specs.Sound.{CallIn, MayCall, Sound}
use Rattle.state_record.proofs.Laws.{calls-length, system-is, means-counted}
use Rattle.state_record.proofs.Kept.{few-added}
use Rattle.base_numbers.specs.declared.refusal.Refusal.{Refusal}
use Rattle.base_numbers.specs.Refusal.{number_of}
use Rattle.request_common.specs.declared.Answer.TheVariants.{Pair}
use Rattle.request_common.specs.Served.{Done as Served, refusal_of as refusal}
use Rattle.request_common.specs.declared.Answer.{Answer}
use Rattle.request_common.specs.Served.{outcome_of, served_with, served_as, Step}
use Rattle.request_common.proofs.Laws.{refuses-kept, step-as, table_is, cells_are, places-are, calls_are, subject-at, held_at}
use Rattle.request_value.specs.declared.Met.{Met}
use Rattle.request_value.specs.declared.Met.TheVariants.{Numbers}
use Rattle.request_value.specs.Sent.{arguments_of, all_sent, Sent, Passes}
use Rattle.request_value.proofs.Sending.{went-counted, step_after}
use Rattle.request_value.proofs.OtherCalls.{calls_left, calls-step}
use Rattle.request_call.specs.Called.{new_call, call_through, call_held, Planned}
use Rattle.request_call.specs.declared.Plan.{Plan}

module _ (s : State) (h : Sound s) (who : ℕ) (may : MayCall s who) (k m adapters : ℕ) (cell : k < s.cells.count) (method : m < s.counts.methods) where
  pub call-byte : (k < 256) × (m < 256)
  call-byte = (omega (arith, cell, h.cell_count), omega (arith, method, h.checked.limits.methods))

  pub call-added : (c : Call) → call_of c ≡ new_call who k m → (calls : Calls) → calls ≡ call_added s.calls c → calls_in calls ≡ calls_in s.calls ++ (call_of c ∷ []) →
      Step s (ok (with_call (system_in s) (new_call who k m), pair s.calls.count adapters)) (record { outcome = Ok (Pair s.calls.count adapters); state = calls_left s calls })
  call-added c is calls e are =
      step-as (ap (λ (x : List Callᵐ). ok (with_calls (system_in s) x, pair s.calls.count adapters)) (sym now-are))
      (calls-step s h calls each few (Pair s.calls.count adapters))
    where
      one : calls.count ≡ s.calls.count + 1
      one = ap (λ (x : Calls). x.count) e

      added : calls_in calls ≡ calls_in s.calls ++ (new_call who k m ∷ [])
      added = are ∙ ap (λ (x : Callᵐ). calls_in s.calls ++ (x ∷ [])) is

      now-are : calls_in calls ≡ (system_in s).calls ++ (new_call who k m ∷ [])
      now-are = added ∙ ap (λ (x : List Callᵐ). x ++ (new_call who k m ∷ [])) (sym (calls_are s))

      few : (n : ℕ) → made_by n (calls_in calls) ≤ max_calls_each
      few n = subst (λ (x : List Callᵐ). made_by n x ≤ max_calls_each) (sym added) (few-added s h (new_call who k m) may n)

      each : (j : ℕ) → j < calls.count → CallIn s (get_or (calls_in calls) j no_call)
      each j l = subst (λ (x : List Callᵐ). CallIn s (get_or x j no_call)) (sym are) (go (lt-or-ge j s.calls.count))
        where
          n : length (calls_in s.calls) ≡ s.calls.count
          n = calls-length s.calls

          go : (j < s.calls.count) ⊎ (s.calls.count ≤ j) → CallIn s (get_or (calls_in s.calls ++ (call_of c ∷ [])) j no_call)
          go (inl u) = subst (CallIn s) (sym (get_or-append (calls_in s.calls) (call_of c ∷ []) no_call j (omega (arith, u, n)))) (h.calls.each j u)
          go (inr u) = subst (CallIn s) (sym (get_or_at (calls_in s.calls) (call_of c) [] no_call j (omega (arith, u, n, l, one)) ∙ is)) (record { caller = may.0; cell = cell; method = method })

-- ---- The called cell, read as c.
module _ (s : State) (h : Sound s) (k : ℕ) (low : k < s.cells.count) (c : Cell) (is : cell_of c ≡ get_or (cells_in s.cells) k no_cell) where
  cell-read : cell_of c ≡ cell_at (system_in s) k
  cell-read = is ∙ ap (λ (xs : List Cellᵐ). get_or xs k no_cell) (sym (cells_are s))

  module _ (p : ℕ) (e : p ≡ c.place) where
    pub place_here : p ≡ (cell_at (system_in s) k).place
    place_here = e ∙ ap (λ (x : Cellᵐ). x.place) cell-read

    pub place-low : p < s.places.count
    place-low = subst (λ (n : ℕ). n < s.places.count) (sym (e ∙ ap (λ (x : Cellᵐ). x.place) is)) (h.cells k low).place

    pub call-layers-met : (layers ls : List ℕ) → layers ≡ layers_of (places_in s.places) p → ls ≡ c.ty ∷ layers → ls ≡ (cell_at (system_in s) k).type ∷ layers_of (places_in s.places) p
    call-layers-met layers ls y z = z ∙ ap (λ (xs : List ℕ). c.ty ∷ xs) y ∙ ap (λ (x : Cellᵐ). x.type ∷ layers_of (places_in s.places) p) cell-read

  module _ (t : ℕ) (e : t ≡ c.ty) where
    pub type-here : t ≡ (cell_at (system_in s) k).type
    type-here = e ∙ ap (λ (x : Cellᵐ). x.type) cell-read

    pub type-low : t < s.counts.types
    type-low = subst (λ (n : ℕ). n < s.counts.types) (sym (e ∙ ap (λ (x : Cellᵐ). x.type) is)) (h.cells k low).type

-- ---- The call that is left, whose place is p.
module _ (s : State) (who k m p : ℕ) (here : p ≡ (cell_at (system_in s) k).place) where
  abbrev Ends : System → Res (System × Result)
  Ends x = ok (with_call x (new_call who k m), pair (length (system_in s).calls) (adapter_count (system_in s).places (cell_at (system_in s) k).place))

  call-layers-are : (ls : List ℕ) → ls ≡ (cell_at (system_in s) k).type ∷ layers_of (places_in s.places) p → call_layers (system_in s) (cell_at (system_in s) k) ≡ ls
  call-layers-are ls met = sym (met ∙ ap (λ (n : ℕ). (cell_at (system_in s) k).type ∷ layers_of (places_in s.places) n) here
      ∙ ap (λ ps. (cell_at (system_in s) k).type ∷ layers_of ps (cell_at (system_in s) k).place) (sym (places-are s)))

  -- its answer, by the counted calls and the adapters of p
  ends_is : (x : System) (n : ℕ) → n ≡ s.calls.count → (adapters : ℕ) → adapters ≡ adapter_count (places_in s.places) p → Ends x ≡ ok (with_call x (new_call who k m), pair n adapters)
  ends_is x n calls adapters count = sym (ap (λ (y : ℕ). ok (with_call x (new_call who k m), pair y adapters)) calls_same
      ∙ ap (λ (y : ℕ). ok (with_call x (new_call who k m), pair (length (system_in s).calls) y)) adapters-same)
    where
      calls_same : n ≡ length (system_in s).calls
      calls_same = calls ∙ sym (means-counted s).calls

      adapters-same : adapters ≡ adapter_count (system_in s).places (cell_at (system_in s) k).place
      adapters-same = count ∙ ap (adapter_count (places_in s.places)) here ∙ ap (λ ps. adapter_count ps (cell_at (system_in s) k).place) (sym (places-are s))

-- ---- What is planned.
module _ (s : State) (vs : List ℤ) where
  pub planned-as : {m m' : Res (System × Result)} → m ≡ m' → (p : Either Plan Refusal) → Planned s vs m' p → Planned s vs m p
  planned-as e (Ok p) h = record { fits = h.fits; goes = e ∙ h.goes; adds = λ z. e ∙ h.adds z }
  planned-as e (Err d) h = e ∙ h

  pub planned-goes : (who k m adapters : ℕ) (x : Method) (met : Met) → MayCall s who × (who < 256) × (k < s.cells.count) × (m < s.counts.methods) →
      (met ≡ Numbers → call_through (system_in s) who k m (arguments_of x) vs ≡ ok (with_call (system_in s) (new_call who k m), pair s.calls.count adapters)) →
      Planned s vs (call_through (system_in s) who k m (arguments_of x) vs)
      (Ok (record { who = who; cell = k; method = m; adapters = adapters; signature = x; met = met }))
  planned-goes who k m adapters x met low e = record { fits = low; goes = refl; adds = e }

-- ---- Before the arguments: what their numbers come to.
abbrev pub owner_at : State → ℕ → ℕ
owner_at s k = base_owner (system_in s).places (cell_at (system_in s) k).place

module _ (s : State) (who k m : ℕ) (xs : List ℕ) (vs : List ℤ) (p : ℕ) (here : p ≡ (cell_at (system_in s) k).place)
    (ls : List ℕ) (met : ls ≡ (cell_at (system_in s) k).type ∷ layers_of (places_in s.places) p)
    (q : Either Met Refusal) (passes : Passes (system_in s) (send_arguments (system_in s) (owner_at s k) ls m 0 xs vs) q) where
  before-is : (y : Res System) → send_arguments (system_in s) (owner_at s k) ls m 0 xs vs ≡ y → call_through (system_in s) who k m xs vs ≡ try y (Ends s who k m p here)
  before-is y w = ap (λ (u : List ℕ). try (send_arguments (system_in s) (owner_at s k) u m 0 xs vs) (Ends s who k m p here)) (call-layers-are s who k m p here ls met)
      ∙ ap (λ (u : Res System). try u (Ends s who k m p here)) w

  pub numbers-refuse : (e : Refusal) → q ≡ Err e → call_through (system_in s) who k m xs vs ≡ refuse (number_of e)
  numbers-refuse e z = before-is (refuse (number_of e)) (subst (Passes (system_in s) (send_arguments (system_in s) (owner_at s k) ls m 0 xs vs)) z passes)

  pub numbers-add : q ≡ Ok Numbers → (adapters : ℕ) → adapters ≡ adapter_count (places_in s.places) p →
      call_through (system_in s) who k m xs vs ≡ ok (with_call (system_in s) (new_call who k m), pair s.calls.count adapters)
  numbers-add z adapters count = before-is (ok (system_in s)) (subst (Passes (system_in s) (send_arguments (system_in s) (owner_at s k) ls m 0 xs vs)) z passes)
      ∙ ends_is s who k m p here (system_in s) s.calls.count refl adapters count

-- ---- After the arguments.
module _ (s : State) (h : Sound s) (who k m : ℕ) (xs : List ℕ) (vs : List ℤ) (p : ℕ) (here : p ≡ (cell_at (system_in s) k).place)
    (owner : ℕ) (owns : owner ≡ base_owner (places_in s.places) p) (ls : List ℕ) (met : ls ≡ (cell_at (system_in s) k).type ∷ layers_of (places_in s.places) p)
    (q : Served) (sent : Sent s (all_sent (send_arguments (system_in s) owner ls m 0 xs vs)) q) where
  abbrev Then : System → Res (System × Result)
  Then = Ends s who k m p here

  through-is : call_through (system_in s) who k m xs vs ≡ try (served_as q) (λ x. Then x.0)
  through-is =
      ap (λ (o : ℕ). try (send_arguments (system_in s) o (call_layers (system_in s) (cell_at (system_in s) k)) m 0 xs vs) Then) owner-is
      ∙ ap (λ (w : List ℕ). try (send_arguments (system_in s) owner w m 0 xs vs) Then) (call-layers-are s who k m p here ls met)
      ∙ through (send_arguments (system_in s) owner ls m 0 xs vs) ∙ ap (λ (y : Res (System × Result)). try y (λ x. Then x.0)) (sym sent.is)
    where
      owner-is : base_owner (system_in s).places (cell_at (system_in s) k).place ≡ owner
      owner-is = sym (owns ∙ ap (base_owner (places_in s.places)) here ∙ ap (λ ps. base_owner ps (cell_at (system_in s) k).place) (sym (places-are s)))

      through : (y : Res System) → try y Then ≡ try (all_sent y) (λ x. Then x.0)
      through (refuse e) = refl
      through (ok x) = refl

  through-by : (a : Either Answer Refusal) → q.outcome ≡ a → call_through (system_in s) who k m xs vs ≡ try (served_with (system_in q.state) (outcome_of a)) (λ x. Then x.0)
  through-by a z = through-is ∙ ap (λ (y : Either Answer Refusal). try (served_with (system_in q.state) (outcome_of y)) (λ x. Then x.0)) z

  pub through-stops : (e : Refusal) → q.outcome ≡ Err e → Step s (call_through (system_in s) who k m xs vs) (refusal (with_types s q.state.types) e)
  through-stops e z = refuses-kept h sent.sound.long sent.stored.kept (through-by (Err e) z) refl

  pub through-room : MayCall s who → who < 256 → k < s.cells.count → m < s.counts.methods →
      Sound q.state × MayCall q.state who × (who < 256) × (k < q.state.cells.count) × (m < q.state.counts.methods)
  through-room may byte cell method = (
    sent.sound,
    (subst (λ (c : Counts). who < c.subjects) (sym sent.stored.counts) may.0, subst (λ (xs : List Callᵐ). made_by who xs < max_calls_each) (sym sent.went.calls) may.1),
    byte,
    omega (arith, cell, sent.went.cells),
    subst (λ (c : Counts). m < c.methods) (sym sent.stored.counts) method,
  )

  pub through-adds : (a : Answer) → q.outcome ≡ Ok a → (adapters : ℕ) → adapters ≡ adapter_count (places_in s.places) p → (r : Served) →
      Step q.state (ok (with_call (system_in q.state) (new_call who k m), pair q.state.calls.count adapters)) r → Step s (call_through (system_in s) who k m xs vs) r
  through-adds a z adapters count r g = step-as
      (through-by (Ok a) z ∙ ends_is s who k m p here (system_in q.state) q.state.calls.count (went-counted sent.went) adapters count)
      (step_after q.state sent.stored r g)

-- ---- The tests that are left once the subject, its cell and the method are known.

module _ (s : State) (subject : ℤ) (k m : ℕ) (vs : List ℤ) (t : ℕ) (ty : t ≡ (cell_at (system_in s) k).type)
    (x : Method) (read : (l : List ℕ) → method_of (raw_method x) ≡ method_at (table_in s.types l s.counts) t m) where
  abbrev By : Methodᵐ → Res (System × Result)
  By y =
      need (is_avail y.state) not_callable λ _. need (arguments_held (system_in s) subject y.args vs) wrong_values λ _.
      need (ltb (made_by (named subject) (system_in s).calls) max_calls_each) calls_full λ _. call_through (system_in s) (named subject) k m y.args vs

  held-is : call_held (system_in s) subject k m vs ≡ By (method_of (raw_method x))
  held-is = ap By (sym (read s.links ∙ ap (λ (n : ℕ). method_at (table_in s.types s.links s.counts) n m) ty
      ∙ ap (λ (y : Table). method_at y (cell_at (system_in s) k).type m) (sym (table_is s))))

  pub held-not-callable : (x.state ≡ 2 → ⊥) → call_held (system_in s) subject k m vs ≡ refuse not_callable
  held-not-callable z = held-is ∙ rw (not-avail x.state z)

  module _ (avail : x.state ≡ 2) where
    abbrev Next : Bool → Bool → Res (System × Result)
    Next a b = need a wrong_values λ _. need b calls_full λ _. call_through (system_in s) (named subject) k m (arguments_of x) vs

    avail-is : call_held (system_in s) subject k m vs ≡ Next (arguments_held (system_in s) subject (arguments_of x) vs) (ltb (made_by (named subject) (system_in s).calls) max_calls_each)
    avail-is = held-is ∙ ap (λ (n : ℕ). By (signed (state_of n) (cond (permit (state_of n)) (arguments_of x) []) (cond (permit (state_of n)) (answer_of x.answer) none))) avail

    pub held-wrong-values : arguments_held (system_in s) subject (arguments_of x) vs ≡ false → call_held (system_in s) subject k m vs ≡ refuse wrong_values
    held-wrong-values z = avail-is ∙ rw z

    module _ (fit : arguments_held (system_in s) subject (arguments_of x) vs ≡ true) where
      module _ (who : ℕ) (w : named subject ≡ who) (made : ℕ) (is : made ≡ made_by who (calls_in s.calls)) where
        fit_is : call_held (system_in s) subject k m vs ≡ Next true (ltb made max_calls_each)
        fit_is = avail-is ∙ ap (λ (y : Bool). Next y (ltb (made_by (named subject) (system_in s).calls) max_calls_each)) fit
            ∙ ap (λ (n : ℕ). Next true (ltb n max_calls_each)) (ap (λ (n : ℕ). made_by n (system_in s).calls) w ∙ ap (made_by who) (calls_are s) ∙ sym is)

        pub held-calls-full : max_calls_each ≤ made → call_held (system_in s) subject k m vs ≡ refuse calls_full
        held-calls-full l = fit_is ∙ ap (Next true) (le-ltb made max_calls_each l)

        pub held-goes : made < max_calls_each → call_held (system_in s) subject k m vs ≡ call_through (system_in s) who k m (arguments_of x) vs
        held-goes l = fit_is ∙ ap (Next true) (lt-ltb made max_calls_each l) ∙ ap (λ (n : ℕ). call_through (system_in s) n k m (arguments_of x) vs) w

-- ---- The operands.
module _ (s : System) (subject k m : ℤ) (vs : List ℤ) where
  call-unknown-subject : names subject s.table.subjects ≡ false → call_request s subject k m vs ≡ refuse unknown_subject
  unfolding call_request
  call-unknown-subject e = rw e

  module _ (known : names subject s.table.subjects ≡ true) where
    call-not-held : held s subject k ≡ false → call_request s subject k m vs ≡ refuse not_held
    unfolding call_request
    call-not-held e = rw (known, e)

    module _ (has : held s subject k ≡ true) where
      call-not-callable : names m s.table.methods ≡ false → call_request s subject k m vs ≡ refuse not_callable
      unfolding call_request
      call-not-callable e = rw (known, has, e)

      call-is : names m s.table.methods ≡ true → call_request s subject k m vs ≡ call_held s subject (named k) (named m) vs
      unfolding call_request
      call-is e = rw (known, has, e)

module _ (s : State) (h : Sound s) (subject cell method : ℤ) (vs : List ℤ) where
  abbrev Asked : Res (System × Result)
  Asked = call_request (system_in s) subject cell method vs

  methods-are : (system_in s).table.methods ≡ s.counts.methods
  unfolding table_in table_of
  methods-are = ap (λ (x : System). x.table.methods) (system-is s)

  pub asked-unknown-subject : names subject (system_in s).table.subjects ≡ false → Asked ≡ refuse unknown_subject
  asked-unknown-subject z = call-unknown-subject (system_in s) subject cell method vs z

  module _ (known : names subject (system_in s).table.subjects ≡ true) (who : ℕ) (who-is : who ≡ index_of subject s.counts.subjects) where
    pub who-named : (named subject ≡ who) × (who < s.counts.subjects)
    who-named = let x = subject-at s subject who who-is known in (sym x.0, x.1)

    pub asked-not-held : held (system_in s) subject cell ≡ false → Asked ≡ refuse not_held
    asked-not-held z = call-not-held (system_in s) subject cell method vs known z

    module _ (has : held (system_in s) subject cell ≡ true) (k : ℕ) (k-is : k ≡ index_of cell s.cells.count) (m : ℕ) (m-is : m ≡ index_of method s.counts.methods) where
      pub cell-here : (k ≡ named cell) × (k < s.cells.count)
      cell-here = held_at s cell k k-is subject has

      pub asked-not-callable : s.counts.methods ≤ m → Asked ≡ refuse not_callable
      asked-not-callable l = call-not-callable (system_in s) subject cell method vs known has (ap (names method) methods-are ∙ index-unknown method s.counts.methods m m-is l)

      pub asked-goes : m < s.counts.methods → Asked ≡ call_held (system_in s) subject k m vs
      asked-goes l =
          let x = index-known method s.counts.methods m m-is l in
          call-is (system_in s) subject cell method vs known has (ap (names method) methods-are ∙ x.0)
          ∙ sym (ap (λ (n : ℕ). call_held (system_in s) subject n m vs) cell-here.0 ∙ ap (λ (n : ℕ). call_held (system_in s) subject (named cell) n vs) (sym x.1))
