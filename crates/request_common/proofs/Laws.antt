-- What is left of a state from step to step, refusals, the operands of a request, and a reference that becomes a cell.
use mathlib.Core.Path.{◌≡◌, refl, sym, ap, ◌∙◌, subst}
use mathlib.Core.Logic.{◌⊎◌, inl, inr}
use mathlib.Core.Bool.{Bool, true, false, ◌&&◌}
use mathlib.Core.List.{List, [], ◌∷◌, ◌++◌}
use Prim.Native.Nat.{ℕ, ◌+◌, ◌≤◌, ◌<◌}
use native.Mathlib.Omega.{arith}
use lib.Dec.{eqb, ltb}
use lib.IntN.{ℤ, pos, negsuc}
use lib.ListN.{length, get_or, get_or-append}
use lib.Seq.{get_or_at}
use borrow.Author.Tests.{ltb-true, lt-ltb, le-ltb}
use Rattle.std.specs.Prelude.{Ok, Err}
use Rattle.spec_model.specs.Basics.{Res, refuse, ok, need, names, named}
use Rattle.spec_model.specs.Table.{Table, type_at, is_ref, is_class, max_types}
use Rattle.spec_model.specs.Crossing.{Reference}
use Rattle.spec_model.specs.Requests.{System, Result, pair, add_cell, with_cell, max_cells, held, is_sheet_ref, no_cell}
use Rattle.spec_model.specs.Requests.{Cell as Cellᵐ}
use Rattle.spec_model.specs.Check.{no_raw_type, table_of}
use Rattle.spec_model.proofs.Rules.{first}
use Rattle.spec_model.specs.Refusals.{cells_full}
use Rattle.table_record.specs.declared.Counts.{Counts}
use Rattle.table_record.specs.Store.{types_in, types_to, table_in, with_count}
use Rattle.table_record.specs.Limits.{Limits}
use Rattle.table_record.proofs.Lists.{lt-or-ge}
use Rattle.table_record.proofs.Tables.{types_same}
use Rattle.table_record.specs.Layout.{types_size}
use Rattle.derive_sub_sup.proofs.Bytes.{record_same}
use Rattle.base_numbers.specs.Index.{index_of}
use Rattle.base_numbers.proofs.Laws.{index-unknown, index-known}
use Rattle.state_record.specs.declared.Cell.{Cell}
use Rattle.state_record.specs.Counted.{Cells}
use Rattle.state_record.specs.Counted.{Places}
use Rattle.state_record.specs.declared.State.{State as Rest}
use Rattle.state_record.specs.Whole.{Whole as State}
use Rattle.state_record.specs.Whole.{whole}
use Rattle.state_record.proofs.Kept.{sound-types}
use Rattle.state_record.specs.View.{cell_of, cells_in, places_in, calls_in, cell_added, system_in, with_types}
use Rattle.state_record.specs.Sound.{CellIn, Sound}
use Rattle.state_record.proofs.Laws.{cells-length, system-is, means-counted}
use Rattle.state_check_records.specs.Parts.{ref_as, class_as}
use Rattle.state_check_records.proofs.Laws.{ref-is, class-is}
use Rattle.derive_sub_sup.specs.Link.{Kept}
use Rattle.crossing_meet.specs.Crossed.{Grew}
use Rattle.crossing_meet.proofs.Laws.{grown-checked, grew-on}
use Rattle.base_numbers.specs.declared.refusal.Refusal.{Refusal}
use Rattle.base_numbers.specs.Refusal.{number_of}
use Rattle.request_common.specs.declared.Answer.TheVariants.{Pair}
use Rattle.request_common.specs.Outcome.{Outcome}
use Rattle.request_common.specs.Served.{refusal_of, Done, done, Stored, Step, Arrives, arrived, is_sheet_class}

-- ---- What is left of a state.
pub stored-self : (s : State) → Sound s → Stored s s
stored-self s h = record {
  links = refl;
  counts = refl;
  grew = record { more = omega arith; room = h.checked.limits.types; exact = λ i p q. absurd (omega arith) };
  kept = λ i l. refl;
}

pub stored_on : (s s₁ s₂ : State) → Stored s s₁ → Stored s₁ s₂ → Stored s s₂
stored_on s s₁ s₂ h k = record {
  links = k.links ∙ h.links;
  counts = k.counts ∙ ap (λ (c : Counts). with_count c s₂.counts.types) h.counts;
  grew = grew-on s.counts s₁.counts.types s₂.counts.types s₁.types s₂.types h.grew k.kept
      (subst (λ (c : Counts). Grew c s₂.counts.types s₂.types) h.counts k.grew);
  kept = λ i l. k.kept i (let u = h.grew.more in omega arith) ∙ h.kept i l;
}

-- the same beside bytes that keep the counted types
stored-kept : (s : State) (t : List ℕ) → Sound s → Kept s.counts.types s.types t → Stored s (with_types s t)
stored-kept s t h k = record {
  links = refl;
  counts = refl;
  grew = record { more = omega arith; room = h.checked.limits.types; exact = λ i p q. absurd (omega arith) };
  kept = k;
}

-- A refusal of a whole state, before its types were worked on and after.
pub refuses : {s : State} {m : Res (System × Result)} {e : Refusal} {q : Done} → Sound s → m ≡ refuse (number_of e) → q ≡ refusal_of s e → Step s m q
refuses {s} {m} h z y = subst (Step s m) (sym y) (record { is = sym z; stays = λ d w. refl; stored = stored-self s h; sound = h })

pub refuses-kept : {s : State} {t : List ℕ} {m : Res (System × Result)} {e : Refusal} {q : Done} → Sound s → length t ≡ types_size → Kept s.counts.types s.types t
    → m ≡ refuse (number_of e) → q ≡ refusal_of (with_types s t) e → Step s m q
refuses-kept {s} {t} {m} h long k z y = subst (Step s m) (sym y) (record { is = sym z; stays = λ d w. refl; stored = stored-kept s t h k; sound = sound-types s t long h })

-- The same with a refusal as a request returns it.
pub step-refuses-kept : {b t : List ℕ} {s : Rest} {m : Res (System × Result)} {e : Refusal} {r : Outcome} → Sound (whole b s) → length t ≡ types_size
    → Kept s.counts.types b t → m ≡ refuse (number_of e) → r ≡ Err e → Step (whole b s) m (done t s r)
step-refuses-kept {b} {t} {s} h long k z y = refuses-kept {s = whole b s} h long k z (ap (done t s) y)

pub step-refuses : {b : List ℕ} {s : Rest} {m : Res (System × Result)} {e : Refusal} {r : Outcome} → Sound (whole b s) → m ≡ refuse (number_of e)
    → r ≡ Err e → Step (whole b s) m (done b s r)
step-refuses {b} {s} h z y = refuses {s = whole b s} h z (ap (done b s) y)

-- a step of what comes to the same
pub step-as : {s : State} {m n : Res (System × Result)} {r : Done} → m ≡ n → Step s n r → Step s m r
step-as {s} {r = r} e h = subst (λ (x : Res (System × Result)). Step s x r) (sym e) h

-- ---- What a state means, where the operands ask.
module _ (s : State) where
  pub subjects-are : (system_in s).table.subjects ≡ s.counts.subjects
  unfolding table_in table_of
  subjects-are = ap (λ (x : System). x.table.subjects) (system-is s)

  pub sheet-are : (system_in s).table.sheet ≡ s.counts.sheet
  unfolding table_in table_of
  sheet-are = ap (λ (x : System). x.table.sheet) (system-is s)

  pub table_is : (system_in s).table ≡ table_in s.types s.links s.counts
  table_is = ap (λ (x : System). x.table) (system-is s)

  pub cells_are : (system_in s).cells ≡ cells_in s.cells
  cells_are = ap (λ (x : System). x.cells) (system-is s)

  pub places-are : (system_in s).places ≡ places_in s.places
  places-are = ap (λ (x : System). x.places) (system-is s)

  pub calls_are : (system_in s).calls ≡ calls_in s.calls
  calls_are = ap (λ (x : System). x.calls) (system-is s)

-- what is not counted of the types means nothing
table_kept : (b t l : List ℕ) (c : Counts) → c.types ≤ max_types → Kept c.types b t → table_in t l c ≡ table_in b l c
unfolding table_in table_of types_to
table_kept b t l c low k = rw (types_same c.methods c.sheet (types_in b) c.types (types_in t) (λ i h. record_same b t i (omega arith) (k i h)))

pub system-kept : (s : State) (t : List ℕ) → s.counts.types ≤ max_types → Kept s.counts.types s.types t → system_in (with_types s t) ≡ system_in s
system-kept s t low k = system-is (with_types s t)
    ∙ ap (λ (x : Table). record { table = x; cells = cells_in s.cells; places = places_in s.places; calls = calls_in s.calls }) (table_kept s.types t s.links s.counts low k)
    ∙ sym (system-is s)

-- so a refusal leaves what the state meant
pub refused-means : {s : State} {m : Res (System × Result)} {r : Done} → Step s m r → (e : Refusal) → r.outcome ≡ Err e → system_in r.state ≡ system_in s
refused-means {s} {r = r} h e z = ap system_in (h.stays e z) ∙ system-kept s r.state.types (omega (arith, h.stored.grew.more, h.stored.grew.room)) h.stored.kept

-- a number that names one of n things is the index that `index_of` gives
pub index-named : (z : ℤ) (n i : ℕ) → i ≡ index_of z n → names z n ≡ true → (i ≡ named z) × (i < n)
index-named (pos k) n i e h = let q : i ≡ k = e ∙ rw h in (q, let l : k < n = ltb-true k n h in omega arith)
index-named (negsuc k) n i e h = absurd (let f : ◌≡◌ {A = Bool} false true = h in let e : ◌≡◌ {A = ℕ} 0 1 = cc in omega arith)

-- An operand that passed its test, as the index that `index_of` gives.
module _ (s : State) (z : ℤ) (i : ℕ) where
  pub subject-at : i ≡ index_of z s.counts.subjects → names z (system_in s).table.subjects ≡ true → (i ≡ named z) × (i < s.counts.subjects)
  subject-at e h = index-named z s.counts.subjects i e (ap (names z) (sym (subjects-are s)) ∙ h)

  pub sheet-at : i ≡ index_of z s.counts.sheet → (b : Bool) → names z (system_in s).table.sheet && b ≡ true → (i ≡ named z) × (i < s.counts.sheet)
  sheet-at e b h = index-named z s.counts.sheet i e (ap (names z) (sym (sheet-are s)) ∙ first (names z (system_in s).table.sheet) b h)

  pub held_at : i ≡ index_of z s.cells.count → (subject : ℤ) → held (system_in s) subject z ≡ true → (i ≡ named z) × (i < s.cells.count)
  held_at e subject h = index-named z s.cells.count i e
      (ap (names z) (sym (means-counted s).cells) ∙ first (names z (length (system_in s).cells)) _ h)

-- ---- The operands.
pub subject-is : (c : Counts) (z : ℤ) (i : ℕ) → i ≡ index_of z c.subjects → (s : State) → s.counts ≡ c → ltb i c.subjects ≡ names z (system_in s).table.subjects
subject-is c z i e s h = go (lt-or-ge i c.subjects) ∙ ap (names z) (ap (λ (d : Counts). d.subjects) (sym h) ∙ sym (subjects-are s)) where
  go : (i < c.subjects) ⊎ (c.subjects ≤ i) → ltb i c.subjects ≡ names z c.subjects
  go (inl l) = lt-ltb i c.subjects l ∙ sym (index-known z c.subjects i e l).0
  go (inr l) = le-ltb i c.subjects l ∙ sym (index-unknown z c.subjects i e l)

module _ (cs : Cells) (k : ℤ) (i : ℕ) (e : i ≡ index_of k cs.count) (s : State) (subject : ℤ) (h : s.cells ≡ cs) where
  abbrev held_in : Bool
  held_in = names k cs.count && eqb (named subject) (get_or (cells_in cs) (named k) no_cell).holder

  held-is : held (system_in s) subject k ≡ held_in
  held-is = ap (λ (x : List Cellᵐ). names k (length x) && eqb (named subject) (get_or x (named k) no_cell).holder) (cells_are s ∙ ap cells_in h)
      ∙ ap (λ (n : ℕ). names k n && eqb (named subject) (get_or (cells_in cs) (named k) no_cell).holder) (cells-length cs)

  pub held-not : cs.count ≤ i → false ≡ held (system_in s) subject k
  held-not l = sym (held-is ∙ ap (λ (b : Bool). b && eqb (named subject) (get_or (cells_in cs) (named k) no_cell).holder) (index-unknown k cs.count i e l))

  pub held_by : i < cs.count → (who o : ℕ) (c : Cell) → named subject ≡ who → o ≡ c.holder → cell_of c ≡ get_or (cells_in cs) i no_cell → eqb who o ≡ held (system_in s) subject k
  held_by l who o c w p q = let z = index-known k cs.count i e l in sym (
      held-is ∙ ap (λ (b : Bool). b && eqb (named subject) (get_or (cells_in cs) (named k) no_cell).holder) z.0
      ∙ ap (λ (n : ℕ). eqb (named subject) (get_or (cells_in cs) n no_cell).holder) z.1
      ∙ ap (λ (n : ℕ). eqb n (get_or (cells_in cs) i no_cell).holder) w
      ∙ ap (λ (x : Cellᵐ). eqb who x.holder) (sym q) ∙ ap (eqb who) (sym p))

-- a number among the sheet types, and what is asked of its type
module _ (b : List ℕ) (c : Counts) (limits : Limits c) (z : ℤ) (i : ℕ) (e : i ≡ index_of z c.sheet) (s : State) (types : s.types ≡ b) (counts : s.counts ≡ c) where
  abbrev T : Table
  T = table_in b s.links c

  table-of : (system_in s).table ≡ T
  table-of = table_is s ∙ ap (λ (x : List ℕ). table_in x s.links s.counts) types ∙ ap (table_in b s.links) counts

  -- `test` of the type named, of which the code has read r
  sheet-not : (test : Table → ℕ → Bool) → c.sheet ≤ i → false ≡ names z T.sheet && test T (named z)
  unfolding table_in table_of
  sheet-not test l = sym (ap (λ (y : Bool). y && test T (named z)) (index-unknown z c.sheet i e l))

  sheet-so : (test : Table → ℕ → Bool) → i < c.sheet → (r : Bool) → r ≡ test T i → r ≡ names z T.sheet && test T (named z)
  unfolding table_in table_of
  sheet-so test l r y = let w = index-known z c.sheet i e l in y ∙ ap (test T) (sym w.1) ∙ sym (ap (λ (x : Bool). x && test T (named z)) w.0)

  pub sheet-ref-not : c.sheet ≤ i → false ≡ is_sheet_ref (system_in s).table z
  sheet-ref-not l = sheet-not (λ t n. is_ref (type_at t n).rep) l ∙ ap (λ (t : Table). is_sheet_ref t z) (sym table-of)

  pub sheet-class-not : c.sheet ≤ i → false ≡ is_sheet_class (system_in s).table z
  sheet-class-not l = sheet-not (λ t n. is_class (type_at t n)) l ∙ ap (λ (t : Table). is_sheet_class t z) (sym table-of)

  module _ (l : i < c.sheet) (r : Bool) where
    counted : i < c.types
    counted = let u = limits.counted in omega arith

    pub sheet-ref-is : r ≡ ref_as (get_or (types_in b) i no_raw_type) → r ≡ is_sheet_ref (system_in s).table z
    sheet-ref-is y = sheet-so (λ t n. is_ref (type_at t n).rep) l r (y ∙ sym (ref-is b s.links c i counted)) ∙ ap (λ (t : Table). is_sheet_ref t z) (sym table-of)

    pub sheet-class-is : r ≡ class_as c.methods (get_or (types_in b) i no_raw_type) → r ≡ is_sheet_class (system_in s).table z
    sheet-class-is y = sheet-so (λ t n. is_class (type_at t n)) l r (y ∙ sym (class-is b s.links c i counted)) ∙ ap (λ (t : Table). is_sheet_class t z) (sym table-of)

-- ---- A reference that becomes a cell.
abbrev cell_by : ℕ → ℕ → ℕ → Cellᵐ
cell_by holder ty place = record { holder = holder; type = ty; place = place }

module _ (s : State) (types : List ℕ) (n : ℕ) (ps : Places) (holder ty place : ℕ) (h : Arrives s types n ps ty place) where
  abbrev f : Reference
  f = arrived s types n ps ty place

  -- the state by its parts
  abbrev S : System
  S = record { table = table_in s.types s.links s.counts; cells = cells_in s.cells; places = places_in s.places; calls = calls_in s.calls }

  abbrev Adds : Bool → Res (System × Result)
  Adds room = elim room [ true ↦ ok (with_cell S holder f, pair s.cells.count place) | false ↦ refuse cells_full ]

  adds-is : add_cell (system_in s) holder f ≡ Adds (ltb s.cells.count max_cells)
  unfolding add_cell
  adds-is = ap (λ (x : System). add_cell x holder f) (system-is s) ∙ rw (cells-length s.cells) (both (ltb s.cells.count max_cells))
    where
      both : (b : Bool) → need b cells_full (λ _. ok (with_cell S holder f, pair s.cells.count place)) ≡ Adds b
      both true = refl
      both false = refl

  pub cell-refused : max_cells ≤ s.cells.count → add_cell (system_in s) holder f ≡ refuse cells_full
  cell-refused l = adds-is ∙ ap Adds (le-ltb s.cells.count max_cells l)

  pub ty-byte : ty < 256
  ty-byte = let u = h.ty in let w = h.grew.room in omega arith

  pub place_byte : place < 256
  place_byte = let u = h.place in let w = h.descending.count in omega arith

  module _ (room : s.cells.count < max_cells) (c : Cell) (is : cell_of c ≡ cell_by holder ty place)
      (cells : Cells) (e : cells ≡ cell_added s.cells c) (are : cells_in cells ≡ cells_in s.cells ++ (cell_of c ∷ [])) where
    abbrev s' : State
    s' = record { types = types; links = s.links; counts = with_count s.counts n; cells = cells; places = ps; calls = s.calls }

    count-is : cells.count ≡ s.cells.count + 1
    count-is = ap (λ (x : Cells). x.count) e

    means : system_in s' ≡ with_cell S holder f
    means = system-is s' ∙ ap (λ (x : List Cellᵐ). record { table = f.table; cells = x; places = f.places; calls = S.calls })
        (are ∙ ap (λ (x : Cellᵐ). cells_in s.cells ++ (x ∷ [])) is)

    new-cell : CellIn s' (cell_of c)
    new-cell = subst (CellIn s') (sym is) (record { type = h.ty; place = h.place })

    old-cell : (k : ℕ) → k < s.cells.count → CellIn s' (get_or (cells_in s.cells) k no_cell)
    old-cell k l = let x = h.sound.cells k l in record { type = let u = x.type in let w = h.grew.more in omega arith; place = let u = x.place in let w = h.more in omega arith }

    each-cell : (k : ℕ) → k < cells.count → CellIn s' (get_or (cells_in cells) k no_cell)
    each-cell k l = subst (λ (x : List Cellᵐ). CellIn s' (get_or x k no_cell)) (sym are) (go (lt-or-ge k s.cells.count))
      where
        go : (k < s.cells.count) ⊎ (s.cells.count ≤ k) → CellIn s' (get_or (cells_in s.cells ++ (cell_of c ∷ [])) k no_cell)
        go (inl u) = let z : length (cells_in s.cells) ≡ s.cells.count = cells-length s.cells in
            subst (CellIn s') (sym (get_or-append (cells_in s.cells) (cell_of c ∷ []) no_cell k (omega arith))) (old-cell k u)
        go (inr u) =
            let z : length (cells_in s.cells) ≡ k = cells-length s.cells ∙ (let w = count-is in omega arith) in
            subst (CellIn s') (sym (get_or_at (cells_in s.cells) (cell_of c) [] no_cell k z)) new-cell

    pub cell-added : Step s (add_cell (system_in s) holder f) (record { outcome = Ok (Pair s.cells.count place); state = s' })
    cell-added = record {
      is = ap (λ (x : System). ok (x, pair s.cells.count place)) means ∙ sym (adds-is ∙ ap Adds (lt-ltb s.cells.count max_cells room));
      stays = λ d y. cc;
      stored = record { links = refl; counts = refl; grew = h.grew; kept = h.kept };
      sound = record {
        long = h.long;
        checked = grown-checked s.links s.counts n h.sound.checked h.grew.more h.grew.room;
        descending = h.descending;
        typed = h.typed;
        cell_count = let w = count-is in omega arith;
        cells = each-cell;
        calls = record {
          each = λ j l. let x = h.sound.calls.each j l in record { caller = x.caller; cell = let u = x.cell in let w = count-is in omega arith; method = x.method };
          few = h.sound.calls.few;
        };
      };
    }
