-- What an accepted call was tested for, that this stays so for every call a state records, and that the page then permits the method.
use mathlib.Core.Path.{◌≡◌, refl, ap, sym, subst}
use mathlib.Core.Bool.{Bool, true, false, ◌&&◌, not, So}
use mathlib.Core.List.{List, [], ◌∷◌, ◌++◌, map, reverse, append_assoc, append-nil}
use mathlib.Core.Option.{Option, none, some}
use Prim.Native.Nat.{ℕ, suc, ◌≤◌, ◌<◌}
use native.Mathlib.Omega.{arith}
use native.Mathlib.Decide.{dec_lt}
use lib.Dec.{eqb, ltb}
use lib.IntN.{ℤ, pos, negsuc}
use lib.ListN.{length, get_or, length-append, get_or-append}
use lib.Seq.{get_or_at}
use Rattle.spec_model.specs.Basics.{Res, refuse, ok, names, named, ◌⇒◌}
use Rattle.spec_model.specs.Table.{Table, size, type_at, method_at, argument_at, answer_at, is_ref, permit, is_avail, valid_sheet}
use Rattle.spec_model.specs.Relations.{conforms, state_le, same_rep, outer_rule, related}
use Rattle.spec_model.specs.Crossing.{base_owner}
use Rattle.spec_model.specs.Requests.{System, loaded, Request, new, move, call, answer, Result, max_calls_each, made_by, cell_at, call_at, held, call_layers, arguments_held, send_arguments, call_request, give}
use Rattle.spec_model.specs.Requests.{answer_request, serve, after}
use Rattle.spec_model.specs.Chains.{Permits}
use Rattle.spec_model.specs.Book.{Note, Book, opened, note_at, page_at, page_layers, last_type, copy_page, copy_arguments, copy_answer, enter}
use Rattle.spec_model.specs.Claim.{accepted, feed, follow, reached}
use Rattle.spec_model.proofs.Tests.{ltb-so, so-ltb}
use Rattle.spec_model.proofs.Rules.{never, both, first, second, applied}
use Rattle.spec_model.proofs.States.{each, each₂}
use Rattle.spec_model.proofs.Largest.{keeps-related, related-inside}
use Rattle.spec_model.proofs.Order.{same-sort}
use Rattle.spec_model.proofs.Tests.{beq-so}
use Rattle.spec_model.proofs.ChainLaws.{steps}
use Rattle.spec_model.proofs.Growth.{method-same}
use Rattle.spec_model.specs.Refusals.{unknown_subject, not_held, not_callable, wrong_values, answered_already, calls_full}
use Rattle.law_model.proofs.Steps.{IfOk, ok-need, ok-try, whatever}
use Rattle.law_model.proofs.Demand3.{reached-together, names-below}
use Rattle.law_model.proofs.Sheets.{sheet-fitting, sheet-good}
use Rattle.law_model.proofs.Checked.{fits-bounded}
use Rattle.law_model.proofs.Reached.{reached-fits}
use Rattle.law_model.proofs.Onward.{Onward, serve-onward}
use Rattle.theorem.specs.Shown.{Permitted, NotePermitted}
use Rattle.theorem.proofs.Runs.{follow-both}

abbrev no_note : Note
no_note = record { page = 0; method = 0 }

pub if-accepted : {P : Type 0} (m : Res (System × Result)) → IfOk m (λ _. P) → So (accepted m) → P
if-accepted (refuse e) p h = never h
if-accepted (ok x) p h = p

-- ---- Where T is a subtype of V, own not compared, what is avail in T is permitted by both.
module _ (t : Table) (a b : ℕ) (h : So (related conforms t a b)) where
  avail-below : (m : ℕ) → So (is_avail (method_at t a m).state) → So (permit (method_at t b m).state)
  avail-below m = applied (applied (each₂ (λ x y. state_le x y ⇒ is_avail x ⇒ permit y) refl (method_at t a m).state (method_at t b m).state) ((keeps-related conforms t a b h).at m).state)

  ref-below : So (is_ref (type_at t a).rep) → So (is_ref (type_at t b).rep)
  unfolding outer_rule
  ref-below r = let x = (type_at t a).rep in let y = (type_at t b).rep in subst So (beq-so (is_ref x) (is_ref y) (same-sort x y (first (same_rep x y) _ (keeps-related conforms t a b h).outer))) r

  avail-permits : (m : ℕ) → So (is_ref (type_at t a).rep) → So (is_avail (method_at t a m).state) → Permits t a (m ∷ []) × Permits t b (m ∷ [])
  avail-permits m r e = (
    steps t a m [] (record { sort = r; here = applied (each (λ x. is_avail x ⇒ permit x) refl (method_at t a m).state) e; next = tt }),
    steps t b m [] (record { sort = ref-below r; here = avail-below m e; next = tt }),
  )

-- ---- What the tests 6 and 14 of a call say: the cell is there, and the method is avail in its type.
pub record Tested (s : System) (k m : ℤ) : Type 0 where
  pub cell : So (names k (length s.cells))
  pub method : So (names m s.table.methods)
  pub avail : So (is_avail (method_at s.table (cell_at s (named k)).type (named m)).state)

pub call-tested : (s : System) (subject k m : ℤ) (vs : List ℤ) → IfOk (serve s (call subject k m vs)) (λ _. Tested s k m)
unfolding serve call_request
call-tested s subject k m vs =
    let ty = (cell_at s (named k)).type in let f = method_at s.table ty (named m) in
    ok-need _ (names subject s.table.subjects) unknown_subject _ λ _.
    ok-need _ (held s subject k) not_held _ λ h.
    ok-need _ (names m s.table.methods && is_avail f.state) not_callable _ λ a.
    ok-need _ (arguments_held s subject f.args vs) wrong_values _ λ _.
    ok-need _ (ltb (made_by (named subject) s.calls) max_calls_each) calls_full _ λ _.
    let sent = send_arguments s (base_owner s.places (cell_at s (named k)).place) (call_layers s (cell_at s (named k))) (named m) 0 f.args vs in
    let z : Tested s k m = record { cell = first (names k (length s.cells)) _ h; method = first (names m s.table.methods) _ a; avail = second (names m s.table.methods) _ a } in
    ok-try (λ _. Unit {0}) _ sent _ (whatever sent) λ _ _. z

-- what an accepted request was asked for, if it is a call
abbrev Asked : System → Request → Type 0
Asked s (new subject class to) = Unit
Asked s (move subject k receiver to) = Unit
Asked s (call subject k m vs) = Tested s k m
Asked s (answer subject j v) = Unit

asked : (s : System) (q : Request) → IfOk (serve s q) (λ _. Asked s q)
asked s (new subject class to) = whatever (serve s (new subject class to))
asked s (move subject k receiver to) = whatever (serve s (move subject k receiver to))
asked s (call subject k m vs) = call-tested s subject k m vs
asked s (answer subject j v) = whatever (serve s (answer subject j v))

-- test 6 of an answer: the call is there
pub answer-tested : (s : System) (subject j : ℤ) (v : Option ℤ) → IfOk (serve s (answer subject j v)) (λ _. So (names j (length s.calls)))
unfolding serve answer_request
answer-tested s subject j v =
    let c = call_at s (named j) in let y = cell_at s c.cell in
    ok-need _ (names subject s.table.subjects) unknown_subject _ λ _.
    ok-need _ (names j (length s.calls) && eqb (named subject) (base_owner s.places y.place)) not_held _ λ h.
    ok-need _ (not c.answered) answered_already _ λ _.
    go (first (names j (length s.calls)) _ h) (give s subject (named j) (answer_at s.table c.method y.type) v)
  where
    go : {P : Type 0} → P → (m : Res (System × Result)) → IfOk m (λ _. P)
    go p (refuse n) = tt
    go p (ok x) = p

-- what a call is tested for is permitted: by the cell's type and the place's, so by the page's class and trail (L21)
pub tested-permitted : (t : Table) → So (valid_sheet t) → (qs : List Request) (k m : ℤ) → Tested (reached t qs).0 k m → Permitted (reached t qs).1 k (m ∷ [])
tested-permitted t v qs k m h =
    let s = (reached t qs).0 in let n = named k in
    let j = reached-together t (sheet-good t v) (sheet-fitting t v).0.sheet qs in
    let l : n < length s.cells = names-below k _ h.cell in
    let tr = j.2.track n l in
    let isr : So (is_ref (type_at s.table (cell_at s n).type).rep) = ((fits-bounded s (reached-fits t v qs)).cells n l).isref in
    let p = (tr.chains (named m ∷ [])).0 (avail-permits s.table _ _ tr.below (named m) isr h.avail) in
    subst (λ b. Permitted b k (m ∷ [])) (sym j.1) (record { page = subst (λ i. So (names k i)) (sym j.2.long) h.cell; methods = both h.method refl; class = p.0; trail = p.1 })

-- ---- What a call was tested for stays so: no cell, no type and no method changes.
names_more : (a : ℤ) (n n' : ℕ) → n ≤ n' → So (names a n) → So (names a n')
names_more (pos k) n n' l h = let q : k < n = ltb-so h in let q' : k < n' = omega arith in so-ltb q'
names_more (negsuc k) n n' l h = h

named_again : (a : ℤ) (n : ℕ) → So (names a n) → So (names (pos (named a)) n)
named_again (pos k) n h = h
named_again (negsuc k) n h = never h

abbrev Typed : System → Type 0
Typed s = (k : ℕ) → k < length s.cells → (cell_at s k).type < size s.table

tested-again : (s : System) (k m : ℤ) → Tested s k m → Tested s (pos (named k)) (pos (named m))
tested-again s k m h = record { cell = named_again k _ h.cell; method = named_again m _ h.method; avail = h.avail }

module _ (s s' : System) (o : Onward s s') (typed : Typed s) where
  tested-kept : (k m : ℤ) → Tested s k m → Tested s' k m
  tested-kept k m h = let n = named k in let l : n < length s.cells = names-below k _ h.cell in record {
    cell = names_more k _ _ o.cells.more h.cell;
    method = subst (λ i. So (names m i)) (sym o.table.methods) h.method;
    avail = rw (o.cells.same n l, method-same s.table s'.table o.table (cell_at s n).type (named m) (typed n l)) h.avail;
  }

-- every call that the book notes was tested so
abbrev pub Called : System → List Note → Type 0
Called s ns = (j : ℕ) → j < length ns → Tested s (pos (get_or ns j no_note).page) (pos (get_or ns j no_note).method)

-- what the book notes: a call, and no other request
either : (ns : List Note) (r : Bool) (x y : Book) → x.calls ≡ ns → y.calls ≡ ns → (elim r as (λ _. Book) [ true ↦ x | false ↦ y ]).calls ≡ ns
either ns true x y p q = p
either ns false x y p q = q

arguments-note : (b : Book) (ls : List ℕ) (m i : ℕ) (xs : List ℕ) (vs : List ℤ) → (copy_arguments b ls m i xs vs).calls ≡ b.calls
unfolding copy_arguments copy_page
arguments-note b ls m i [] vs = refl
arguments-note b ls m i (a ∷ xs) [] = refl
arguments-note b ls m i (a ∷ xs) (v ∷ vs) = let c = copy_page b (named v) (map (argument_at b.table m i) ls) in
    either b.calls (is_ref (type_at b.table a).rep) (copy_arguments c ls m (suc i) xs vs) (copy_arguments b ls m (suc i) xs vs) (arguments-note c ls m (suc i) xs vs)
    (arguments-note b ls m (suc i) xs vs)

answer-note : (b : Book) (n : Note) (due : Option ℕ) (v : Option ℤ) → (copy_answer b n due v).calls ≡ b.calls
unfolding copy_answer copy_page
answer-note b n none v = refl
answer-note b n (some a) none = refl
answer-note b n (some a) (some v) =
    either b.calls (is_ref (type_at b.table a).rep) (copy_page b (named v) (reverse (map (answer_at b.table n.method) (page_layers (page_at b n.page))))) b refl refl

module _ (s : System) (b : Book) (typed : Typed s) (h : Called s b.calls) where
  -- nothing is noted
  same-notes : (s' : System) (ns : List Note) → Onward s s' → ns ≡ b.calls → Called s' ns
  same-notes s' ns o e = subst (Called s') (sym e) λ j l. tested-kept s s' o typed _ _ (h j l)

  -- a call is
  one-note : (s' : System) (ns : List Note) (k m : ℤ) → Onward s s' → Tested s k m → ns ≡ b.calls ++ (record { page = named k; method = named m } ∷ []) → Called s' ns
  one-note s' ns k m o w e = subst (Called s') (sym e) λ j l. go j (dec_lt j (length b.calls)) (omega (arith, length-append b.calls (n ∷ [])))
    where
      n : Note
      n = record { page = named k; method = named m }

      go : (j : ℕ) → Dec (j < length b.calls) → j < suc (length b.calls)
          → Tested s' (pos (get_or (b.calls ++ (n ∷ [])) j no_note).page) (pos (get_or (b.calls ++ (n ∷ [])) j no_note).method)
      go j (yes l) u = rw (get_or-append b.calls (n ∷ []) no_note j l) (tested-kept s s' o typed _ _ (h j l))
      go j (no l) u = rw (get_or_at b.calls n [] no_note j (omega arith)) (tested-kept s s' o typed _ _ (tested-again s k m w))

  entered : (q : Request) → Asked s q → (s' : System) → Onward s s' → Called s' (enter b q).calls
  unfolding enter copy_page
  entered (new subject class to) a s' o = same-notes s' _ o refl
  entered (move subject k receiver to) a s' o = same-notes s' _ o refl
  entered (call subject k m vs) a s' o = let g = page_at b (named k) in
      one-note s' _ k m o a (ap (λ ns. ns ++ (record { page = named k; method = named m } ∷ [])) (arguments-note b (page_layers g) (named m) 0 (method_at b.table (last_type g) (named m)).args vs))
  entered (answer subject j v) a s' o = let n = note_at b (named j) in same-notes s' _ o (answer-note b n (answer_at b.table n.method (last_type (page_at b n.page))) v)

  called_on : (q : Request) → Called (after s (serve s q)) (feed b q (accepted (serve s q))).calls
  called_on q = go (serve s q) (serve-onward s q) (asked s q)
    where
      go : (x : Res (System × Result)) → IfOk x (λ y. Onward s y.0) → IfOk x (λ _. Asked s q) → Called (after s x) (feed b q (accepted x)).calls
      go (refuse e) o a = h
      go (ok y) o a = entered q a y.0 o

-- ---- One request more, for state and book
pub follow-on : (q : Request) (qs : List Request) (s : System) (b : Book) → let r = follow s b qs in
    follow s b (qs ++ (q ∷ [])) ≡ (after r.0 (serve r.0 q), feed r.1 q (accepted (serve r.0 q)))
unfolding follow
follow-on q qs s b = follow-both qs (q ∷ []) s b

module _ (t : Table) (v : So (valid_sheet t)) where
  reached-typed : (qs : List Request) → Typed (reached t qs).0
  reached-typed qs k l = let j = reached-together t (sheet-good t v) (sheet-fitting t v).0.sheet qs in (related-inside conforms _ _ _ (j.2.track k l).below).0

  called-next : (qs : List Request) (q : Request) → Called (reached t qs).0 (reached t qs).1.calls → Called (reached t (qs ++ (q ∷ []))).0 (reached t (qs ++ (q ∷ []))).1.calls
  called-next qs q h = subst (λ r. Called r.0 r.1.calls) (sym (follow-on q qs (loaded t) (opened t))) (called_on (reached t qs).0 (reached t qs).1 (reached-typed qs) h q)

  called-all : (qs done : List Request) → Called (reached t done).0 (reached t done).1.calls → Called (reached t (done ++ qs)).0 (reached t (done ++ qs)).1.calls
  called-all [] done h = subst (λ z. Called (reached t z).0 (reached t z).1.calls) (sym (append-nil done)) h
  called-all (q ∷ qs) done h = subst (λ z. Called (reached t z).0 (reached t z).1.calls) (append_assoc done (q ∷ []) qs) (called-all qs (done ++ (q ∷ [])) (called-next done q h))

  -- every call that is noted is of a method that its page permits
  pub noted-permitted : (qs : List Request) (j : ℕ) → j < length (reached t qs).1.calls → NotePermitted (reached t qs).1 j
  unfolding follow
  noted-permitted qs j l = tested-permitted t v qs _ _ (called-all qs [] (λ i k. absurd (omega arith)) j l)
