-- Demand 3: after any list of requests, what a cell offers is what all of its page permits.
-- Each request keeps state and book joined: the same table, the same calls, and for each cell the page that tracks its reference.
use mathlib.Core.Path.{◌≡◌, refl, ap, sym, subst, ◌∙◌}
use mathlib.Core.Bool.{Bool, true, false, not, ◌&&◌, ◌||◌, So}
use mathlib.Core.List.{List, [], ◌∷◌, ◌++◌, map, reverse, map-append}
use mathlib.Core.Option.{Option, none, some}
use Prim.Native.Nat.{ℕ, zero, suc, ◌≤◌, ◌<◌}
use native.Mathlib.Omega.{arith}
use native.Mathlib.Decide.{dec_lt}
use lib.Dec.{eqb, ltb}
use lib.IntN.{ℤ, pos, negsuc}
use lib.ListN.{length, get_or, length-append, length-set, get_or-append, get_or-map}
use lib.Seq.{get_or-append_seam, get_or_at, map-set_same}
use Rattle.spec_model.specs.Basics.{Res, refuse, ok, try, need, ◌⇒◌, all, names, named, AllBelow}
use Rattle.spec_model.specs.Table.{Method, Table, no_method, size, type_at, method_at, argument_at, answer_at, is_ref, permit, is_avail, is_settled, is_class}
use Rattle.spec_model.specs.Relations.{conforms}
use Rattle.spec_model.specs.Crossing.{Place, object, no_place, max_places, base_of, base_owner, Reference, cross}
use Rattle.spec_model.specs.Requests.{Cell, Call, System, max_cells, max_calls_each, loaded, Request, new, move, call, answer, Result, pair, number, no_cell, no_call, cell_at, call_at, is_sheet_ref, held}
use Rattle.spec_model.specs.Requests.{leaving, with_cell, add_cell, new_request, move_request, adapter_count, call_layers, cross_layers, pass_layers, send, arguments_held, send_arguments, with_call}
use Rattle.spec_model.specs.Requests.{made_by, call_request, flagged, with_answer, give, answer_request, serve, after}
use Rattle.spec_model.specs.Chains.{permits, offered}
use Rattle.spec_model.specs.Book.{Page, Note, Book, last_type, empty_page, page_cross, page_cross_all, add_page, page_layers, copy_page, copy_arguments, add_note, copy_answer, enter}
use Rattle.spec_model.specs.Claim.{accepted, feed, follow, reached, note_of, Claim}
use Rattle.spec_model.proofs.Tests.{ltb-so}
use Rattle.spec_model.proofs.Rules.{never, both, first, second, applied}
use Rattle.spec_model.proofs.States.{each}
use Rattle.spec_model.proofs.Lists.{prefix_refl, prefix_trans, prefix-add}
use Rattle.spec_model.proofs.Order.{related-refl}
use Rattle.spec_model.proofs.Growth.{Grown, grown-refl, grown-trans}
use Rattle.spec_model.specs.Refusals.{unknown_subject, not_held, unknown_type, places_full, cells_full, not_callable, wrong_values, answered_already, calls_full}
use Rattle.law_model.proofs.Completes.{all-below-more}
use Rattle.law_model.proofs.Good.{Good}
use Rattle.law_model.proofs.Steps.{IfOk, ok-try, ok-map, ok-need, Settled, whatever}
use Rattle.law_model.proofs.Trails.{Kept, unwinds-in, unwinds-type, layers-are, base-is, Track, Trailed, track-grow, Flown, cross-ok, cross_layers-ok}

-- the book of a state whose cells have the pages gs
abbrev book_of : System → List Page → Book
book_of s gs = record { table = s.table; pages = gs; calls = map note_of s.calls }

abbrev no_page : Page
no_page = empty_page 0

pub record Joined (s : System) (gs : List Page) : Type 0 where
  pub good : Good s.table
  pub sheet : s.table.sheet ≤ size s.table
  pub long : length gs ≡ length s.cells
  pub track : (k : ℕ) → k < length s.cells → Track (leaving s k) (get_or gs k no_page)
  pub trailed : (k : ℕ) → k < length s.cells → Trailed (leaving s k) (get_or gs k no_page)
  pub calls_in : (j : ℕ) → j < length s.calls → (call_at s j).cell < length s.cells

-- the book goes on as the state does, from s to s'
record Sent (s : System) (b : Book) (s' : System) : Type 0 where
  pages : List Page
  book : b ≡ book_of s' pages
  joined : Joined s' pages
  more : length s.cells ≤ length s'.cells
  calls : s'.calls ≡ s.calls
  grow : Grown s.table s'.table

-- a reference that started among s's places and arrived becomes a cell
module _ (s : System) (gs : List Page) (j : Joined s gs) (r : ℕ) (f : Reference) (b : Table × Page)
    (good : Good f.table) (grow : Grown s.table f.table) (kept : Kept s.places f.places) (book : b.0 ≡ f.table) (track : Track f b.1) (trailed : Trailed f b.1) where
  cell : Cell
  cell = record { holder = r; type = f.type; place = f.place }

  cells-long : length (s.cells ++ (cell ∷ [])) ≡ suc (length s.cells)
  cells-long = length-append s.cells (cell ∷ []) ∙ omega arith

  at-cell : (P : Reference → Page → Type 0)
      → ((k : ℕ) → k < length s.cells → P (record { table = f.table; places = f.places; type = (cell_at s k).type; place = (cell_at s k).place }) (get_or gs k no_page)) → P f b.1
      → (k : ℕ) → k < length (s.cells ++ (cell ∷ []))
      → P (record { table = f.table; places = f.places; type = (get_or (s.cells ++ (cell ∷ [])) k no_cell).type; place = (get_or (s.cells ++ (cell ∷ [])) k no_cell).place })
      (get_or (gs ++ (b.1 ∷ [])) k no_page)
  unfolding cell
  at-cell P old this k l = go (dec_lt k (length s.cells)) (omega (arith, cells-long))
    where
      go : Dec (k < length s.cells) → k < suc (length s.cells)
          → P (record { table = f.table; places = f.places; type = (get_or (s.cells ++ (cell ∷ [])) k no_cell).type; place = (get_or (s.cells ++ (cell ∷ [])) k no_cell).place })
          (get_or (gs ++ (b.1 ∷ [])) k no_page)
      go (yes l) u = rw (get_or-append s.cells (cell ∷ []) no_cell k l, get_or-append gs (b.1 ∷ []) no_page k (omega (arith, j.long))) (old k l)
      go (no l) u = let e : length s.cells ≡ k = omega arith in
          rw (get_or_at s.cells cell [] no_cell k e, get_or_at gs b.1 [] no_page k (omega (arith, j.long))) this

  added : Sent s (add_page (book_of s gs) b) (with_cell s r f)
  unfolding cell
  added = record {
    pages = gs ++ (b.1 ∷ []);
    book = ap (λ t. record { table = t; pages = gs ++ (b.1 ∷ []); calls = map note_of s.calls }) book;
    more = omega (arith, cells-long);
    calls = refl;
    grow = grow;
    joined = record {
      good = good;
      sheet = subst (λ x. x ≤ size f.table) (sym grow.sheet) (omega (arith, j.sheet, grow.more));
      long = length-append gs (b.1 ∷ []) ∙ omega (arith, j.long, cells-long);
      calls_in = λ i l. omega (arith, j.calls_in i l, cells-long);
      track = at-cell Track (λ k l. track-grow (leaving s k) f.table grow j.good f.places kept (get_or gs k no_page) (j.track k l)) track;
      trailed = at-cell Trailed j.trailed trailed;
    };
  }

module _ (s : System) (gs : List Page) (j : Joined s gs) where
  -- from a reference whose table is the state's, and whose places are at least the state's
  add_cell-ok : (r : ℕ) (b : Table × Page) (f₀ : Reference) → f₀.table ≡ s.table → Kept s.places f₀.places → (f : Reference) → Flown f₀ b f
      → IfOk (add_cell s r f) (λ x. Sent s (add_page (book_of s gs) b) x.0)
  unfolding add_cell cell
  add_cell-ok r b f₀ e k f h = ok-need _ (ltb (length s.cells) max_cells) cells_full _ λ _.
      added s gs j r f b h.good (subst (λ t. Grown t f.table) e h.grow) (prefix_trans no_place k h.kept) h.book h.track h.trailed

  kept_self : Kept s.places s.places
  kept_self = prefix_refl no_place s.places

  send-ok : (r k : ℕ) (ts : List (Option ℕ)) → k < length s.cells → IfOk (send s r k ts) (λ x. Sent s (copy_page (book_of s gs) k ts) x.0)
  unfolding send copy_page
  send-ok r k ts l = ok-try (Flown (leaving s k) (page_cross_all s.table (get_or gs k no_page) ts)) (λ x. Sent s (copy_page (book_of s gs) k ts) x.0)
      (cross_layers true (leaving s k) r ts) (λ f. add_cell s r f)
      (cross_layers-ok ts true (leaving s k) j.good r (get_or gs k no_page) (j.track k l) (j.trailed k l)) λ f h. add_cell-ok r _ (leaving s k) refl kept_self f h

-- a class has no optional method
class-settled : (ms : List Method) → So (all (λ m. is_settled m.state) ms) → (m : ℕ) → So (permit (get_or ms m no_method).state ⇒ is_avail (get_or ms m no_method).state)
class-settled [] h m = refl
class-settled (x ∷ ms) h zero = applied (each (λ a. is_settled a ⇒ permit a ⇒ is_avail a) refl x.state) (first (is_settled x.state) _ h)
class-settled (x ∷ ms) h (suc m) = class-settled ms (second (is_settled x.state) (all (λ m. is_settled m.state) ms) h) m

pub names-below : (a : ℤ) (n : ℕ) → So (names a n) → named a < n
names-below (pos k) n h = ltb-so h
names-below (negsuc k) n h = never h

pub held-in : (s : System) (subject k : ℤ) → So (held s subject k) → named k < length s.cells
held-in s subject k h = names-below k _ (first (names k (length s.cells)) _ h)

-- the references among the arguments are cells
abbrev pub Held : System → List ℕ → List ℤ → Type 0
Held s [] vs = Unit
Held s (a ∷ xs) [] = Unit
Held s (a ∷ xs) (v ∷ vs) = (So (is_ref (type_at s.table a).rep) → named v < length s.cells) × Held s xs vs

pub arguments-in : (s : System) (subject : ℤ) (xs : List ℕ) (vs : List ℤ) → So (arguments_held s subject xs vs) → Held s xs vs
arguments-in s subject [] vs h = tt
arguments-in s subject (a ∷ xs) [] h = tt
arguments-in s subject (a ∷ xs) (v ∷ vs) h = (
  go (is_ref (type_at s.table a).rep) (held s subject v) (first (not (is_ref (type_at s.table a).rep) || held s subject v) _ h) (held-in s subject v),
  arguments-in s subject xs vs (second (not (is_ref (type_at s.table a).rep) || held s subject v) _ h),
)
  where
    go : (p q : Bool) → So (not p || q) → (So q → named v < length s.cells) → So p → named v < length s.cells
    go true q h f e = f h
    go false q h f e = never e

pub held_more : (s s' : System) → Grown s.table s'.table → length s.cells ≤ length s'.cells → (xs : List ℕ) (vs : List ℤ) → AllBelow (size s.table) xs
    → Held s xs vs → Held s' xs vs
held_more s s' e l [] vs i h = tt
held_more s s' e l (a ∷ xs) [] i h = tt
held_more s s' e l (a ∷ xs) (v ∷ vs) i h = ((λ x. omega (arith, h.0 (rw (e.same a i.0) at x))), held_more s s' e l xs vs i.1 h.1)

module _ (r : ℕ) (ls : List ℕ) (m : ℕ) where
  send_arguments-ok : (xs : List ℕ) (vs : List ℤ) (i : ℕ) (s : System) (gs : List Page) → Joined s gs → AllBelow (size s.table) xs → Held s xs vs
      → IfOk (send_arguments s r ls m i xs vs) (Sent s (copy_arguments (book_of s gs) ls m i xs vs))
  unfolding send_arguments copy_arguments
  send_arguments-ok [] vs i s gs j n h = record { pages = gs; book = refl; joined = j; more = omega arith; calls = refl; grow = grown-refl s.table }
  send_arguments-ok (a ∷ xs) [] i s gs j n h = record { pages = gs; book = refl; joined = j; more = omega arith; calls = refl; grow = grown-refl s.table }
  send_arguments-ok (a ∷ xs) (v ∷ vs) i s gs j n h = go (is_ref (type_at s.table a).rep) h.0
      (λ s' gs' j' n' h'. send_arguments-ok xs vs (suc i) s' gs' j' n' h')
    where
      ts : List (Option ℕ)
      ts = map (argument_at s.table m i) ls

      go : (b : Bool) → (So b → named v < length s.cells)
          →
          ((s' : System) (gs' : List Page) → Joined s' gs' → AllBelow (size s'.table) xs → Held s' xs vs
          → IfOk (send_arguments s' r ls m (suc i) xs vs) (Sent s' (copy_arguments (book_of s' gs') ls m (suc i) xs vs)))
          → IfOk (elim b [
            | true ↦ try (send s r (named v) ts) λ x. send_arguments x.0 r ls m (suc i) xs vs
            | false ↦ try (pass_layers true s.table v ts) λ _. send_arguments s r ls m (suc i) xs vs
          ])
          (Sent s (elim b [ true ↦ copy_arguments (copy_page (book_of s gs) (named v) ts) ls m (suc i) xs vs | false ↦ copy_arguments (book_of s gs) ls m (suc i) xs vs ]))
      go true l ih = ok-try (λ x. Sent s (copy_page (book_of s gs) (named v) ts) x.0) (Sent s (copy_arguments (copy_page (book_of s gs) (named v) ts) ls m (suc i) xs vs))
          (send s r (named v) ts) (λ x. send_arguments x.0 r ls m (suc i) xs vs) (send-ok s gs j r (named v) ts (l refl)) λ x e.
          ok-map (Sent x.0 (copy_arguments (book_of x.0 e.pages) ls m (suc i) xs vs)) (Sent s (copy_arguments (copy_page (book_of s gs) (named v) ts) ls m (suc i) xs vs))
          (λ y d. subst (λ b. Sent s (copy_arguments b ls m (suc i) xs vs) y) (sym e.book)
          (record { pages = d.pages; book = d.book; joined = d.joined; more = omega (arith, e.more, d.more); calls = d.calls ∙ e.calls; grow = grown-trans e.grow d.grow }))
          (send_arguments x.0 r ls m (suc i) xs vs) (ih x.0 e.pages e.joined (all-below-more e.grow.more xs n.1) (held_more s x.0 e.grow e.more xs vs n.1 h.1))
      go false l ih = ok-try (λ _. Unit) (Sent s (copy_arguments (book_of s gs) ls m (suc i) xs vs)) (pass_layers true s.table v ts) (λ _. send_arguments s r ls m (suc i) xs vs)
          (whatever (pass_layers true s.table v ts))
          λ _ _. ih s gs j n.1 h.1

-- after a request: the book, and that it is joined to the state
record Entered (b : Book) (s' : System) : Type 0 where
  pages : List Page
  book : b ≡ book_of s' pages
  joined : Joined s' pages

entered : {s s' : System} {b : Book} → Sent s b s' → Entered b s'
entered d = record { pages = d.pages; book = d.book; joined = d.joined }

module _ (s : System) (gs : List Page) (j : Joined s gs) where
  new_ok : (subject class to : ℤ) → IfOk (new_request s subject class to) (λ x. Entered (enter (book_of s gs) (new subject class to)) x.0)
  unfolding new_request enter
  new_ok subject class to =
      ok-need _ (names subject s.table.subjects) unknown_subject _ λ _.
      ok-need _ (names class s.table.sheet && is_class (type_at s.table (named class))) unknown_type _ λ c.
      ok-need _ (is_sheet_ref s.table to) unknown_type _ λ _.
      ok-need _ (ltb (length s.places) max_places) places_full _ λ _. go c
    where
      t : Table
      t = s.table

      c : ℕ
      c = named class

      x : Place
      x = object (named class) (named subject)

      f : Reference
      f = record { table = s.table; places = s.places ++ (object (named class) (named subject) ∷ []); type = named class; place = length s.places }

      go : So (names class t.sheet && is_class (type_at t c))
          → IfOk (try (cross f (named to) (named subject)) λ y. add_cell s (named subject) y) (λ x. Entered (add_page (book_of s gs) (page_cross t (empty_page c) (named to))) x.0)
      go h =
          let l : c < size t = let p : c < t.sheet = names-below class _ (first (names class t.sheet) _ h) in omega (arith, j.sheet) in
          let st : Settled t c = class-settled (type_at t c).methods (second (not (type_at t c).own) _ (second (is_ref (type_at t c).rep) _ (second (names class t.sheet) _ h))) in
          let k : Track f (empty_page c) = record {
            last = refl;
            unwinds = (named subject, omega (arith, length-append s.places (x ∷ [])), get_or-append_seam s.places x [] no_place);
            class_in = l;
            class_settled = st;
            below = related-refl t j.good.cats j.good.sigs conforms c l;
            settled = st;
            trail_in = tt;
            chains = λ w. (λ x. (x.0, tt), λ x. (x.0, x.0));
          } in
          ok-try (Flown f (page_cross t (empty_page c) (named to))) _ (cross f (named to) (named subject)) _
          (cross-ok f j.good (empty_page c) k (named to) (named subject)) λ g h.
          ok-map (λ x. Sent s (add_page (book_of s gs) (page_cross t (empty_page c) (named to))) x.0) (λ x. Entered (add_page (book_of s gs) (page_cross t (empty_page c) (named to))) x.0)
          (λ x. entered) (add_cell s (named subject) g)
          (add_cell-ok s gs j (named subject) (page_cross t (empty_page c) (named to)) f refl (prefix-add no_place s.places x) g h)

  move-ok : (subject k receiver to : ℤ) → IfOk (move_request s subject k receiver to) (λ x. Entered (enter (book_of s gs) (move subject k receiver to)) x.0)
  unfolding move_request enter copy_page page_cross_all
  move-ok subject k receiver to =
      ok-need _ (names subject s.table.subjects && names receiver s.table.subjects) unknown_subject _ λ _.
      ok-need _ (held s subject k) not_held _ λ c.
      ok-need _ (is_sheet_ref s.table to) unknown_type _ λ _.
      let l = held-in s subject k c in let g = get_or gs (named k) no_page in let y = page_cross s.table g (named to) in
      ok-try (Flown (leaving s (named k)) y) _ (cross (leaving s (named k)) (named to) (named receiver)) _
      (cross-ok (leaving s (named k)) j.good g (j.track (named k) l) (named to) (named receiver)) λ f h.
      ok-map (λ x. Sent s (add_page (book_of s gs) y) x.0) (λ x. Entered (add_page (book_of s gs) y) x.0) (λ x. entered) (add_cell s (named receiver) f)
      (add_cell-ok s gs j (named receiver) y (leaving s (named k)) refl (kept_self s gs j) f h)

module _ (x : System) (gs : List Page) (j : Joined x gs) (c : Call) (l : c.cell < length x.cells) where
  call-joined : Joined (with_call x c) gs
  call-joined = record {
    good = j.good;
    sheet = j.sheet;
    long = j.long;
    track = j.track;
    trailed = j.trailed;
    calls_in = λ i u. go i (dec_lt i (length x.calls)) (omega (arith, length-append x.calls (c ∷ [])));
  }
    where
      go : (i : ℕ) → Dec (i < length x.calls) → i < suc (length x.calls) → (get_or (x.calls ++ (c ∷ [])) i no_call).cell < length x.cells
      go i (yes u) w = rw (get_or-append x.calls (c ∷ []) no_call i u) (j.calls_in i u)
      go i (no u) w = rw (get_or_at x.calls c [] no_call i (omega arith)) l

  call-book : add_note (book_of x gs) (note_of c) ≡ book_of (with_call x c) gs
  call-book = ap (λ cs. record { table = x.table; pages = gs; calls = cs }) (sym (map-append note_of x.calls (c ∷ [])))

module _ (s : System) (gs : List Page) (j : Joined s gs) where
  -- a page's layers are its cell's
  call-layers-same : (k : ℕ) → k < length s.cells → page_layers (get_or gs k no_page) ≡ call_layers s (cell_at s k)
  call-layers-same k l = let g = get_or gs k no_page in let tr = j.track k l in let u = tr.unwinds in
      rw (tr.last, layers-are (length s.places) s.places (cell_at s k).place g.class g.closed (unwinds-in s.places (cell_at s k).place g.class g.closed u) u)

  call_ok : (subject k m : ℤ) (vs : List ℤ) → IfOk (call_request s subject k m vs) (λ x. Entered (enter (book_of s gs) (call subject k m vs)) x.0)
  unfolding call_request enter
  call_ok subject k m vs =
      ok-need _ (names subject s.table.subjects) unknown_subject _ λ _.
      ok-need _ (held s subject k) not_held _ λ h.
      ok-need _ (names m s.table.methods && is_avail (method_at s.table (cell_at s (named k)).type (named m)).state) not_callable _ λ _.
      ok-need _ (arguments_held s subject (method_at s.table (cell_at s (named k)).type (named m)).args vs) wrong_values _ λ a.
      ok-need _ (ltb (made_by (named subject) s.calls) max_calls_each) calls_full _ λ _. go (held-in s subject k h) a
    where
      t : Table
      t = s.table

      n : ℕ
      n = named k

      ty : ℕ
      ty = (cell_at s (named k)).type

      ls : List ℕ
      ls = call_layers s (cell_at s (named k))

      r : ℕ
      r = base_owner s.places (cell_at s (named k)).place

      g : Page
      g = get_or gs (named k) no_page

      c : Call
      c = record { caller = named subject; cell = named k; method = named m; answered = false }

      copied : ℕ → List ℕ → Book
      copied y w = copy_arguments (book_of s gs) w (named m) 0 (method_at t y (named m)).args vs

      go : n < length s.cells → So (arguments_held s subject (method_at t ty (named m)).args vs)
          → IfOk {A = System × Result}
          (try (send_arguments s r ls (named m) 0 (method_at t ty (named m)).args vs) λ x. ok (with_call x c, pair (length s.calls) (adapter_count s.places (cell_at s (named k)).place)))
          (λ x. Entered (add_note (copied (last_type g) (page_layers g)) (record { page = n; method = named m })) x.0)
      go l a = ok-try (Sent s (copied ty ls)) _ (send_arguments s r ls (named m) 0 (method_at t ty (named m)).args vs) _
          (send_arguments-ok r ls (named m) (method_at t ty (named m)).args vs 0 s gs j (j.good.sigs ty (named m)).0 (arguments-in s subject (method_at t ty (named m)).args vs a)) λ x d.
          let i : n < length x.cells = omega (arith, d.more) in
          record {
            pages = d.pages;
            joined = call-joined x d.pages d.joined c i;
            book = ap (λ b. add_note b (record { page = n; method = named m }))
                (subst (λ y. copied y (page_layers g) ≡ book_of x d.pages) (sym (j.track n l).last) (subst (λ w. copied ty w ≡ book_of x d.pages) (sym (call-layers-same n l)) d.book))
                ∙ call-book x d.pages d.joined c i;
          }

  -- a call that is answered keeps its note
  module _ (x : System) (gs' : List Page) (jx : Joined x gs') (i : ℕ) where
    notes-same : map note_of (with_answer x i).calls ≡ map note_of x.calls
    notes-same = map-set_same note_of x.calls i _ no_call refl

    answered-joined : Joined (with_answer x i) gs'
    answered-joined = record {
      good = jx.good;
      sheet = jx.sheet;
      long = jx.long;
      track = jx.track;
      trailed = jx.trailed;
      calls_in = λ a u. subst (λ z. z.page < length x.cells)
          (sym (get_or-map note_of x.calls a no_call) ∙ ap (λ ks. get_or ks a (note_of no_call)) (sym notes-same) ∙ get_or-map note_of (with_answer x i).calls a no_call)
          (jx.calls_in a (omega (arith, length-set x.calls i (flagged (call_at x i) true))));
    }

    answered-book : book_of x gs' ≡ book_of (with_answer x i) gs'
    answered-book = ap (λ cs. record { table = x.table; pages = gs'; calls = cs }) (sym notes-same)

  answer-entered : {b : Book} (x : System) (i : ℕ) → Entered b x → Entered b (with_answer x i)
  answer-entered x i d = record { pages = d.pages; joined = answered-joined x d.pages d.joined i; book = d.book ∙ answered-book x d.pages d.joined i }

  give-ok : (subject : ℤ) (i : ℕ) (due : Option ℕ) (v : Option ℤ) → i < length s.calls
      → IfOk (give s subject i due v) (λ x. Entered (copy_answer (book_of s gs) (note_of (call_at s i)) due v) x.0)
  unfolding give copy_answer
  give-ok subject i none none l = answer-entered s i (record { pages = gs; book = refl; joined = j })
  give-ok subject i none (some v) l = tt
  give-ok subject i (some a) none l = tt
  give-ok subject i (some a) (some v) l = go (is_ref (type_at s.table a).rep)
    where
      k : ℕ
      k = (call_at s i).cell

      answers : List ℕ → List (Option ℕ)
      answers ls = reverse (map (answer_at s.table (call_at s i).method) ls)

      ts : List (Option ℕ)
      ts = answers (call_layers s (cell_at s k))

      us : List (Option ℕ)
      us = answers (page_layers (get_or gs k no_page))

      same : us ≡ ts
      same = ap answers (call-layers-same k (j.calls_in i l))

      go : (b : Bool) → IfOk {A = System × Result} (elim b [
        | true ↦ need (held s subject v) wrong_values λ _. try (send s (call_at s i).caller (named v) ts) λ x. ok (with_answer x.0 i, x.1)
        | false ↦ try (pass_layers true s.table v ts) λ _. ok (with_answer s i, number v)
      ]) (λ x. Entered (elim b [ true ↦ copy_page (book_of s gs) (named v) us | false ↦ book_of s gs ]) x.0)
      go true = ok-need _ (held s subject v) wrong_values _ λ h.
          ok-try (λ x. Sent s (copy_page (book_of s gs) (named v) ts) x.0) _ (send s (call_at s i).caller (named v) ts) _
          (send-ok s gs j (call_at s i).caller (named v) ts (held-in s subject v h)) λ x d.
          subst (λ y. Entered (copy_page (book_of s gs) (named v) y) (with_answer x.0 i)) (sym same) (answer-entered x.0 i (entered d))
      go false = ok-try (λ _. Unit) _ (pass_layers true s.table v ts) _ (whatever (pass_layers true s.table v ts)) λ _ _. answer-entered s i (record { pages = gs; book = refl; joined = j })

  answer_ok : (subject i : ℤ) (v : Option ℤ) → IfOk (answer_request s subject i v) (λ x. Entered (enter (book_of s gs) (answer subject i v)) x.0)
  unfolding answer_request enter
  answer_ok subject i v =
      ok-need _ (names subject s.table.subjects) unknown_subject _ λ _.
      ok-need _ (names i (length s.calls) && eqb (named subject) (base_owner s.places (cell_at s (call_at s (named i)).cell).place)) not_held _ λ h.
      ok-need _ (not (call_at s (named i)).answered) answered_already _ λ _. go (names-below i _ (first (names i (length s.calls)) _ h))
    where
      n : ℕ
      n = named i

      due : ℕ → Option ℕ
      due y = answer_at s.table (call_at s (named i)).method y

      due_of : Note → Option ℕ
      due_of c = answer_at s.table c.method (last_type (get_or gs c.page no_page))

      go : n < length s.calls → IfOk (give s subject n (due (cell_at s (call_at s n).cell).type) v)
          (λ x.
          Entered (copy_answer (book_of s gs) (get_or (map note_of s.calls) n (record { page = 0; method = 0 })) (due_of (get_or (map note_of s.calls) n (record { page = 0; method = 0 }))) v) x.0)
      go l = subst (λ c. IfOk (give s subject n (due (cell_at s (call_at s n).cell).type) v) (λ x. Entered (copy_answer (book_of s gs) c (due_of c) v) x.0))
          (sym (get_or-map note_of s.calls n no_call))
          (subst (λ y. IfOk (give s subject n (due (cell_at s (call_at s n).cell).type) v) (λ x. Entered (copy_answer (book_of s gs) (note_of (call_at s n)) (due y) v) x.0))
          (sym (j.track (call_at s n).cell (j.calls_in n l)).last) (give-ok subject n (due (cell_at s (call_at s n).cell).type) v l))

  -- one request
  serve-ok : (q : Request) → IfOk (serve s q) (λ x. Entered (enter (book_of s gs) q) x.0)
  unfolding serve
  serve-ok (new a b c) = new_ok s gs j a b c
  serve-ok (move a b c d) = move-ok s gs j a b c d
  serve-ok (call a b c vs) = call_ok a b c vs
  serve-ok (answer a b v) = answer_ok a b v

-- the state and the book are joined
abbrev pub Together : System × Book → Type 0
Together r = (gs : List Page) × (r.1 ≡ book_of r.0 gs) × Joined r.0 gs

follow-ok : (qs : List Request) (s : System) (gs : List Page) → Joined s gs → Together (follow s (book_of s gs) qs)
unfolding follow
follow-ok [] s gs j = (gs, refl, j)
follow-ok (q ∷ qs) s gs j = go (serve s q) (serve-ok s gs j q) (λ s' gs' j'. follow-ok qs s' gs' j')
  where
    go : (a : Res (System × Result)) → IfOk a (λ x. Entered (enter (book_of s gs) q) x.0)
        → ((s' : System) (gs' : List Page) → Joined s' gs' → Together (follow s' (book_of s' gs') qs))
        → Together (follow (after s a) (feed (book_of s gs) q (accepted a)) qs)
    go (refuse e) h ih = ih s gs j
    go (ok x) h ih = subst (λ b. Together (follow x.0 b qs)) (sym h.book) (ih x.0 h.pages h.joined)

-- from a good table, with no cells, places or calls
pub reached-together : (t : Table) → Good t → t.sheet ≤ size t → (qs : List Request) → Together (reached t qs)
reached-together t g l qs =
    follow-ok qs (loaded t) [] (record { good = g; sheet = l; long = refl; track = λ k l. absurd (omega arith); trailed = λ k l. absurd (omega arith); calls_in = λ k l. absurd (omega arith) })

claim-of : (s : System) (gs : List Page) → Joined s gs → Claim s (book_of s gs)
unfolding offered
claim-of s gs j = record {
  table = refl;
  calls = refl;
  pages = j.long;
  page = λ k i. let tr = j.track k i in let g = get_or gs k no_page in let ps = s.places in let q = (cell_at s k).place in let u = tr.unwinds in let d = unwinds-in ps q g.class g.closed u in
      record {
        class = sym (unwinds-type ps (base_of ps q) g.class [] (base-is (length ps) ps q g.class g.closed d u));
        closed = layers-are (length ps) ps q g.class g.closed d u;
        before = (j.trailed k i).0;
        trail = (j.trailed k i).1;
      };
  chains = λ k i w. let tr = j.track k i in let g = get_or gs k no_page in let c = tr.chains w in
      rw (unwinds-type s.places (cell_at s k).place g.class g.closed tr.unwinds)
      ((λ h. c.0 (first (permits s.table (cell_at s k).type w) _ h, second (permits s.table (cell_at s k).type w) _ h)), λ h. let r = c.1 h in both r.0 r.1);
}

pub good-claim : (t : Table) → Good t → t.sheet ≤ size t → (qs : List Request) → Claim (reached t qs).0 (reached t qs).1
good-claim t g l qs = let e = reached-together t g l qs in subst (λ b. Claim (reached t qs).0 b) (sym e.1) (claim-of (reached t qs).0 e.0 e.2)
