-- What is read out of the bytes and written back, as records of numbers: the same state, but for what lies past a count.
use mathlib.Core.Path.{◌≡◌, refl, ap, sym, ◌∙◌, subst}
use mathlib.Core.Bool.{Bool, true, false, ◌&&◌, So, cond}
use mathlib.Core.List.{List, map}
use mathlib.Core.Logic.{⊎_elim}
use Prim.Native.Nat.{ℕ, zero, suc, ◌+◌, ◌*◌, ◌≤◌, ◌<◌, min}
use native.Mathlib.Omega.{arith}
use lib.Dec.{ltb}
use lib.ListN.{length, get_or, length-map, get_or-map, get_or-eq_default}
use borrow.Author.Tests.{ltb-true, lt-ltb}
use Rattle.spec_model.specs.Basics.{from, all}
use Rattle.spec_model.specs.Requests.{no_cell, max_cells, max_calls}
use Rattle.spec_model.specs.Check.{RawPlace, RawCall, no_raw_place, no_raw_call, first_of, state_codes_fit, system_fits, system_of, codes_fit, system_accepted}
use Rattle.spec_model.specs.Check.{place_of as place_meant, call_of as call_meant}
use Rattle.spec_model.specs.Handed.{place_record, call_record, counted}
use Rattle.spec_model.proofs.Rules.{first, second}
use Rattle.spec_model.proofs.Lists.{from-same, from_first, length_from, map-from}
use Rattle.spec_model.specs.Crossing.{max_places}
use Rattle.law_model.proofs.Fitting.{all-at}
use Rattle.table_record.proofs.Lists.{lt-or-ge}
use Rattle.state_record.specs.declared.Place.{Place}
use Rattle.state_record.specs.declared.Place.TheVariants.{Object, Adapter}
use Rattle.state_record.specs.declared.PlaceRec.{PlaceRec}
use Rattle.state_record.specs.declared.Call.{Call}
use Rattle.state_record.specs.Counted.{Cells}
use Rattle.state_record.specs.Counted.{Places}
use Rattle.state_record.specs.Counted.{Calls}
use Rattle.state_record.specs.Whole.{Whole as State}
use Rattle.state_record.specs.View.{cell_of, place_of, call_of, blank_cell, blank_place, blank_call, raw_state}
use Rattle.state_bytes.specs.Flat.{Flat, counts_in, cell_count, place_count, call_count, raw_cell_at, raw_place_at, raw_call_at, raw_cells, raw_places, raw_calls, raw_flat}
use Rattle.state_bytes.specs.Records.{place_codes, call_codes, cell_from, place_by, place_from, call_from, up_to, cells_from, places_from, calls_from, state_from, cell_bytes, place_bytes, call_bytes}
use Rattle.state_bytes.specs.Records.{cell_records, place_records, call_records, CellsTo, PlacesTo, CallsTo}
use Rattle.state_bytes.proofs.Filling.{below-least}
use Rattle.state_bytes.proofs.Rows.{Rows, rows_behind, row_first}
use Rattle.state_bytes.specs.Flat.{cell_size, place_size, call_size}

-- ---- Written: each record's row is its bytes.
abbrev pub rec_of : PlaceRec → RawPlace
rec_of p = place_record (place_of p.place)

abbrev pub call_rec : Call → RawCall
call_rec c = call_record (call_of c)

abbrev pub cell_row : Cells → ℕ → List ℕ
cell_row cs k = cell_bytes (get_or cs.list k blank_cell)

abbrev pub place_row : Places → ℕ → List ℕ
place_row ps p = place_bytes (get_or ps.list p blank_place).place

abbrev pub call_row : Calls → ℕ → List ℕ
call_row js j = call_bytes (get_or js.list j blank_call)

pub place-wide : (x : Place) → length (place_bytes x) ≡ 3
place-wide (Object c o) = refl
place-wide (Adapter b t) = refl

pub below-3 : (i k j : ℕ) → i < k → j < 3 → i * 3 + j < k * 3
below-3 i k j p q = omega arith

pub next-3 : (k : ℕ) → (k + 1) * 3 ≡ k * 3 + 3
next-3 k = omega arith

pub next-4 : (k : ℕ) → (k + 1) * 4 ≡ k * 4 + 4
next-4 k = omega arith

pub below-4 : (i k j : ℕ) → i < k → j < 4 → i * 4 + j < k * 4
below-4 i k j p q = omega arith

place_read : (x : Place) → ◌≡◌ {A = RawPlace} (record { code = get_or (place_bytes x) 0 0; first = get_or (place_bytes x) 1 0; second = get_or (place_bytes x) 2 0 }) (place_record (place_of x))
place_read (Object c o) = refl
place_read (Adapter b t) = refl

-- counted records of two arrays of one size are the same where those are that lie in the array
counted-alike : {A : Type 0} (d : A) (size n : ℕ) (xs ys : List A) → length xs ≡ size → length ys ≡ size → ((k : ℕ) → k < n → k < size → get_or xs k d ≡ get_or ys k d)
    → first_of n d xs ≡ first_of n d ys
counted-alike d size n xs ys lx ly h = from-same _ _ n 0 (λ k p q. ⊎_elim
    (λ (l : k < size). h k (omega arith) l)
    (λ (l : size ≤ k). get_or-eq_default xs d (omega (arith, lx, l)) ∙ sym (get_or-eq_default ys d (omega (arith, ly, l))))
    (lt-or-ge k size))

-- k rows were written: as many as are counted, or all that the array has. Where each is that of its record, seen through h, the counted records are those written.
written : {A B : Type 0} (h : A → B) (d : A) (at : ℕ → B) (size n k : ℕ) (xs : List A) → length xs ≡ size → k ≡ min n size → ((i : ℕ) → i < k → at i ≡ h (get_or xs i d))
    → first_of n (h d) (from size 0 at) ≡ first_of n (h d) (map h xs)
written h d at size n k xs e m are = counted-alike (h d) size n (from size 0 at) (map h xs) (length_from at size 0) (length-map xs h ∙ e) (λ i p q.
    from_first at size i (h d) q ∙ are i (below-least n size k i m p q) ∙ sym (get_or-map h xs i d))

module _ (old b : List ℕ) (k : ℕ) where
  pub cells-written : (cs : Cells) → length cs.list ≡ max_cells → k ≡ min cs.count max_cells → k ≤ cs.count → Rows cell_size (cell_row cs) old k b → CellsTo cs old b
  unfolding raw_cells
  cells-written cs e m few rows = record {
    counted = written cell_of blank_cell (λ i. raw_cell_at b (i * cell_size)) max_cells cs.count k cs.list e m (λ i l.
        rw (row_first 3 (cell_row cs) old k b rows i l (omega arith), rows.are i l 1 (omega arith), rows.are i l 2 (omega arith)));
    behind = rows_behind cell_size (cell_row cs) old (cs.count * cell_size) k b (omega (arith, few)) rows;
  }

  pub places-written : (ps : Places) → length ps.list ≡ max_places → k ≡ min ps.count max_places → k ≤ ps.count → Rows place_size (place_row ps) old k b → PlacesTo ps old b
  unfolding raw_places
  places-written ps e m few rows = record {
    counted = written rec_of blank_place (λ i. raw_place_at b (i * place_size)) max_places ps.count k ps.list e m (λ i l.
        rw (row_first 3 (place_row ps) old k b rows i l (omega arith), rows.are i l 1 (omega arith), rows.are i l 2 (omega arith)) (place_read (get_or ps.list i blank_place).place));
    behind = rows_behind place_size (place_row ps) old (ps.count * place_size) k b (omega (arith, few)) rows;
  }

  pub calls-written : (js : Calls) → length js.list ≡ max_calls → k ≡ min js.count max_calls → k ≤ js.count → Rows call_size (call_row js) old k b → CallsTo js old b
  unfolding raw_calls
  calls-written js e m few rows = record {
    counted = written call_rec blank_call (λ i. raw_call_at b (i * call_size)) max_calls js.count k js.list e m (λ i l.
        rw (row_first 4 (call_row js) old k b rows i l (omega arith), rows.are i l 1 (omega arith), rows.are i l 2 (omega arith), rows.are i l 3 (omega arith)));
    behind = rows_behind call_size (call_row js) old (js.count * call_size) k b (omega (arith, few)) rows;
  }

-- ---- Read: counted cells are the records of the bytes; a place or call is so where its code names something.
-- a counted record of an array that was read up to its count
read_at : {A : Type 0} (d : A) (f : ℕ → A) (size n k : ℕ) → k < n → k < size → get_or (up_to size n d f) k d ≡ f k
read_at d f size n k p q = from_first (λ k. cond (ltb k n) (f k) d) size k d q ∙ ap (λ (b : Bool). cond b (f k) d) (lt-ltb k n p)

module _ (b : List ℕ) (n k : ℕ) (p : k < n) where
  pub cell-found : k < max_cells → get_or (cells_from b n).list k blank_cell ≡ cell_from b k
  unfolding cells_from
  cell-found q = read_at blank_cell (cell_from b) max_cells n k p q

  pub place_found : k < max_places → get_or (places_from b n).list k blank_place ≡ place_from b k
  unfolding places_from
  place_found q = read_at blank_place (place_from b) max_places n k p q

  pub call-found : k < max_calls → get_or (calls_from b n).list k blank_call ≡ call_from b k
  unfolding calls_from
  call-found q = read_at blank_call (call_from b) max_calls n k p q

-- the counted records of an array that was read up to its count, seen through h
read_first : {A B : Type 0} (h : A → B) (d : A) (f : ℕ → A) (g : ℕ → B) → ((k : ℕ) → h (f k) ≡ g k) → (size n : ℕ) → first_of n (h d) (map h (up_to size n d f)) ≡ first_of n (h d) (from size 0 g)
read_first h d f g e size n = counted-alike (h d) size n (map h (up_to size n d f)) (from size 0 g) (length-map (up_to size n d f) h ∙ length_from (λ k. cond (ltb k n) (f k) d) size 0)
    (length_from g size 0) (λ k p q.
    get_or-map h (up_to size n d f) k d ∙ ap h (read_at d f size n k p q) ∙ e k ∙ sym (from_first g size k (h d) q))

cells-read : (b : List ℕ) (n : ℕ) → first_of n no_cell (cell_records (cells_from b n)) ≡ first_of n no_cell (raw_cells b)
unfolding cells_from raw_cells
cells-read b n = read_first cell_of blank_cell (cell_from b) (λ k. raw_cell_at b (k * cell_size)) (λ k. refl) max_cells n

-- what a code is read as
abbrev place_again : RawPlace → RawPlace
place_again x = place_record (place_meant x)

abbrev call_again : RawCall → RawCall
call_again x = call_record (call_meant x)

-- a code other than 0
pub is-adapter : (c x y : ℕ) → (c ≡ 0 → ⊥) → Adapter x y ≡ place_by c x y
is-adapter zero x y h = absurd (h refl)
is-adapter (suc c) x y h = refl

place-by : (c x y : ℕ) → place_record (place_of (place_by c x y)) ≡ place_again (record { code = c; first = x; second = y })
place-by zero x y = refl
place-by (suc c) x y = refl

places-read : (b : List ℕ) (n : ℕ) → first_of n no_raw_place (place_records (places_from b n)) ≡ first_of n no_raw_place (map place_again (raw_places b))
unfolding places_from raw_places
places-read b n =
    read_first rec_of blank_place (place_from b) (λ p. place_again (raw_place_at b (p * place_size)))
    (λ p. place-by (get_or b (p * place_size) 0) (get_or b (p * place_size + 1) 0) (get_or b (p * place_size + 2) 0)) max_places n
    ∙ ap (first_of n no_raw_place) (sym (map-from place_again (λ p. raw_place_at b (p * place_size)) max_places 0))

calls-read : (b : List ℕ) (n : ℕ) → first_of n no_raw_call (call_records (calls_from b n)) ≡ first_of n no_raw_call (map call_again (raw_calls b))
unfolding calls_from raw_calls
calls-read b n = read_first call_rec blank_call (call_from b) (λ j. call_again (raw_call_at b (j * call_size))) (λ j. refl) max_calls n
    ∙ ap (first_of n no_raw_call) (sym (map-from call_again (λ j. raw_call_at b (j * call_size)) max_calls 0))

place_same : (x : RawPlace) → So (ltb x.code 2) → place_again x ≡ x
place_same x h = go x.code x.first x.second (ltb-true x.code 2 h)
  where
    go : (c y z : ℕ) → c < 2 → ◌≡◌ {A = RawPlace} (place_again (record { code = c; first = y; second = z })) (record { code = c; first = y; second = z })
    go zero y z l = refl
    go (suc c) y z l = let e : c ≡ 0 = omega arith in rw e

call_same : (x : RawCall) → So (ltb x.answered 2) → call_again x ≡ x
call_same x h = go x.answered (ltb-true x.answered 2 h)
  where
    go : (a : ℕ) → a < 2 → ◌≡◌ {A = RawCall} (call_again (record { caller = x.caller; cell = x.cell; method = x.method; answered = a }))
        (record { caller = x.caller; cell = x.cell; method = x.method; answered = a })
    go zero l = refl
    go (suc a) l = let e : a ≡ 0 = omega arith in rw e

-- the counted records of a list that are read as themselves
again : {A : Type 0} (d : A) (h : A → A) (p : A → Bool) → h d ≡ d → ((x : A) → So (p x) → h x ≡ x) → (xs : List A) (n : ℕ) → So (all p (first_of n d xs))
    → first_of n d (map h xs) ≡ first_of n d xs
again d h p e same xs n fits = from-same (λ k. get_or (map h xs) k d) (λ k. get_or xs k d) n 0 (λ k l m.
    let q : k < n = omega arith in
    ap (λ (z : _). get_or (map h xs) k z) (sym e) ∙ get_or-map h xs k d ∙ same (get_or xs k d)
    (subst (λ x. So (p x)) (from_first (λ i. get_or xs i d) n k d q) (all-at p d (first_of n d xs) fits k (rw (length_from (λ i. get_or xs i d) n 0) q))))

-- every counted code of the state names something
abbrev pub codes_in : Flat → Bool
codes_in f = place_codes f.places (place_count f.counts) && call_codes f.calls (call_count f.counts)

module _ (f : Flat) where
  codes-are : state_codes_fit (raw_flat f) ≡ codes_in f
  unfolding state_codes_fit place_codes call_codes
  codes-are = refl

  -- Where the codes fit, the state that is read is the one handed in.
  pub read-counted : codes_in f ≡ true → counted (raw_state (state_from f)) ≡ counted (raw_flat f)
  unfolding counted place_codes call_codes cells_from places_from calls_from
  read-counted h =
      let ps = again no_raw_place place_again (λ p. ltb p.code 2) refl place_same (raw_places f.places) (place_count f.counts) (first (place_codes f.places (place_count f.counts)) _ h) in
      let js = again no_raw_call call_again (λ c. ltb c.answered 2) refl call_same (raw_calls f.calls) (call_count f.counts) (second (place_codes f.places (place_count f.counts)) _ h) in
      rw (cells-read f.cells (cell_count f.counts), places-read f.places (place_count f.counts), calls-read f.calls (call_count f.counts), ps, js)

  -- Where one does not, the check says so.
  pub codes-refused : codes_in f ≡ false → system_accepted (raw_flat f) ≡ false
  unfolding system_accepted
  codes-refused h = go (codes_fit (raw_flat f).table) (state_codes_fit (raw_flat f)) (system_fits (system_of (raw_flat f))) (codes-are ∙ h)
    where
      go : (a b c : Bool) → b ≡ false → (a && (b && c)) ≡ false
      go true b c e = rw e
      go false b c e = refl

-- A state that is written back is the one written: its counted records.
pub written-counted : (s : State) (f : Flat) → f.types ≡ s.types → f.links ≡ s.links → counts_in f.counts ≡ s.counts
    → (cell_count f.counts ≡ s.cells.count) × (place_count f.counts ≡ s.places.count) × (call_count f.counts ≡ s.calls.count)
    → first_of s.cells.count no_cell (raw_cells f.cells) ≡ first_of s.cells.count no_cell (cell_records s.cells)
    → first_of s.places.count no_raw_place (raw_places f.places) ≡ first_of s.places.count no_raw_place (place_records s.places)
    → first_of s.calls.count no_raw_call (raw_calls f.calls) ≡ first_of s.calls.count no_raw_call (call_records s.calls)
    → counted (raw_flat f) ≡ counted (raw_state s)
unfolding counted
written-counted s f t l n m cs ps js = rw (t, l, ← n, m.0, m.1, m.2, cs, ps, js)
