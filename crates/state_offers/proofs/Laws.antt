-- One method of a chain by the stored type, the chain method by method, and the two types of a cell.
use mathlib.Core.Path.{◌≡◌, refl, sym, ap, ◌∙◌, subst}
use mathlib.Core.Bool.{Bool, true, false, ◌&&◌, ◌||◌, cond, and-false}
use mathlib.Core.List.{List, [], ◌∷◌, map}
use mathlib.Core.Option.{Option as Optionᵐ, none, some}
use Rattle.std.specs.Prelude.{Option, Some, None, SomeIff}
use Prim.Native.Nat.{ℕ, zero, suc, ◌+◌, ◌-◌, ◌≤◌, ◌<◌}
use native.Mathlib.Numerals.{add-one}
use native.Mathlib.Omega.{arith}
use lib.IntN.{ℤ, pos}
use lib.ListN.{length, get_or, drop, drop_of_length-le, replicate, length-replicate}
use lib.Seq.{drop-cons}
use Rattle.spec_model.specs.Basics.{Res, over, names, named, need, refuse, ok}
use Rattle.spec_model.specs.Table.{Table, type_at, method_at, is_ref, is_nil, permit}
use Rattle.spec_model.specs.Records.{answer_code}
use Rattle.spec_model.specs.Crossing.{max_places, place_at, place_type}
use Rattle.spec_model.specs.Requests.{System, Cell, no_cell, max_cells}
use Rattle.spec_model.specs.Chains.{permits, offered}
use Rattle.spec_model.specs.Check.{no_raw_type, no_raw_method, state_of, method_of, system_accepted, system_of}
use Rattle.law_handed.proofs.Counted.{means-same}
use Rattle.table_record.specs.declared.Counts.{Counts}
use Rattle.table_record.specs.declared.Method.{Method}
use Rattle.table_record.specs.Store.{types_in, table_in, ref_in, raw_method}
use Rattle.table_record.specs.Layout.{types_size}
use Rattle.spec_model.specs.Check.{table_of}
use Rattle.spec_model.proofs.Codes.{code-back}
use Rattle.spec_model.specs.Refusals.{out_of_range}
use Rattle.table_record.proofs.Tables.{ref-table}
use Rattle.state_record.specs.Whole.{Whole as State}
use Rattle.state_record.specs.declared.Cell.{Cell as CellRec}
use Rattle.state_record.specs.declared.PlaceRec.{PlaceRec}
use Rattle.state_record.specs.View.{cell_of, place_of, cells_in, places_in, raw_state, system_in}
use Rattle.state_record.proofs.Laws.{cells-length, cell-is, place_is, system-is}
use Rattle.state_check.proofs.Sound.{accepted-beside}
use Rattle.state_bytes.specs.Flat.{Flat, counts_in, cell_count, place_count, raw_flat}
use Rattle.state_bytes.specs.Records.{cell_from, place_from, cells_from, places_from, state_from}
use Rattle.state_bytes.proofs.Laws.{cell-found, place_found, read-counted}
use Rattle.state_bytes_check.proofs.Laws.{read-accepted, accepted-codes}
use Rattle.base_numbers.specs.Index.{index_of}
use Rattle.base_numbers.proofs.Laws.{index-unknown, index-known}
use Rattle.law_table.proofs.Methods.{method-is}
use Rattle.state_offers.specs.Chained.{methods_named, offers_named, offers_handed}
use Rattle.state_offers.specs.Steps.{code_of, permits_named, step_of, step_code, Within}

-- ---- One method, as it is stored.
module _ (b l : List ℕ) (c : Counts) where
  methods-are : (table_in b l c).methods ≡ c.methods
  unfolding table_in table_of
  methods-are = refl

  module _ (t : ℕ) (z : ℤ) (m : ℕ) (e : m ≡ index_of z c.methods) where
    pub step-unknown : c.methods ≤ m → 0 ≡ step_code (table_in b l c) t z
    step-unknown h = ap (λ (q : Bool). step_of q (is_ref (type_at (table_in b l c) t).rep) (method_at (table_in b l c) t (named z)))
        (sym (ap (names z) methods-are ∙ index-unknown z c.methods m e h))

    module _ (low : m < c.methods) where
      known : names z (table_in b l c).methods ≡ true
      known = ap (names z) methods-are ∙ (index-known z c.methods m e low).0

      as-known : (q : Bool) → is_ref (type_at (table_in b l c) t).rep ≡ q → step_code (table_in b l c) t z ≡ step_of true q (method_at (table_in b l c) t (named z))
      as-known q w = ap (λ (k : Bool). step_of k (is_ref (type_at (table_in b l c) t).rep) (method_at (table_in b l c) t (named z))) known
          ∙ ap (λ (k : Bool). step_of true k (method_at (table_in b l c) t (named z))) w

      pub step-number : ref_in c.types b t ≡ false → 0 ≡ step_code (table_in b l c) t z
      step-number w = sym (as-known false (ref-table b l c t ∙ w))

      module _ (w : ref_in c.types b t ≡ true) (x : Method) (y : raw_method x ≡ get_or (get_or (types_in b) t no_raw_type).methods m no_raw_method) where
        step_is : step_code (table_in b l c) t z ≡ step_of true true (method_of (raw_method x))
        step_is = let r = ref-table b l c t ∙ w in as-known true r ∙ ap (step_of true true)
            (ap (method_at (table_in b l c) t) (index-known z c.methods m e low).1 ∙ method-is b l c t m r low ∙ sym (ap method_of y))

        pub step-off : permit (state_of x.state) ≡ false → 0 ≡ step_code (table_in b l c) t z
        step-off q = sym (step_is ∙ rw q)

        pub step-on : permit (state_of x.state) ≡ true → suc x.answer ≡ step_code (table_in b l c) t z
        step-on q = ap suc (sym (code-back x.answer)) ∙ sym (step_is ∙ rw q)

-- an answer's code, less one where there is an answer
pub code-less : (r : Option ℕ) (n : ℕ) → SomeIff r (1 ≤ n) (n - 1) → code_of (Some r) ≡ suc n
code-less None zero h = refl
code-less None (suc n) h = absurd (h (omega arith))
code-less (Some x) n h = omega (arith, h.0, h.1)

pub found : (o : Option ℕ) → code_of (Some o) ≡ 0 → ⊥
found None h = omega (arith, h)
found (Some k) h = omega (arith, h)

-- ---- A chain: what is left of it behind a method whose code is known.
abbrev onward : Table → ℕ → List ℤ → Bool
onward t zero w = false
onward t (suc zero) w = is_nil w
onward t (suc (suc k)) w = is_nil w || permits_named t k w

step-says : (t : Table) (n : ℕ) (z : ℤ) (w : List ℤ) → permits_named t n (z ∷ w) ≡ onward t (step_code t n z) w
unfolding permits_named permits
step-says t n z w = go (names z t.methods) (is_ref (type_at t n).rep) (permit (method_at t n (named z)).state) (method_at t n (named z)).answer w
  where
    go : (k r p : Bool) (o : Optionᵐ ℕ) (w : List ℤ) → ((k && methods_named t w) && (r && (p && (is_nil (map named w) || over o (λ a. permits t a (map named w))))))
        ≡ onward t (cond (k && (r && p)) (suc (answer_code o)) 0) w
    go false r p o w = refl
    go true false p o w = and-false (methods_named t w)
    go true true false o w = and-false (methods_named t w)
    go true true true none [] = refl
    go true true true none (x ∷ xs) = and-false (methods_named t (x ∷ xs))
    go true true true (some a) [] = refl
    go true true true (some a) (x ∷ xs) = refl

-- the whole chain is permitted by t as what is left from i on is by `at`
abbrev pub Rest : Table → List ℤ → ℕ → ℕ → ℕ → Type 0
Rest T w t at i = permits_named T at (drop i w) ≡ permits_named T t w

pub rest-ends : (T : Table) (w : List ℤ) (t at i : ℕ) → Rest T w t at i → length w ≤ i → is_ref (type_at T at).rep ≡ permits_named T t w
unfolding permits_named permits
rest-ends T w t at i h k = ap (permits_named T at) (sym (drop_of_length-le w {i = i} k)) ∙ h

module _ (T : Table) (w : List ℤ) (t at i : ℕ) (h : Rest T w t at i) (k : i < length w) (z : ℤ) (is : z ≡ get_or w i (pos 0)) (a : ℕ) (e : a ≡ step_code T at z) where
  rest-on : onward T a (drop (i + 1) w) ≡ permits_named T t w
  rest-on = ap (λ (n : ℕ). onward T a (drop n w)) (add-one i) ∙ ap (λ (n : ℕ). onward T n (drop (suc i) w)) e ∙ sym (step-says T at z (drop (suc i) w))
      ∙ ap (λ (y : ℤ). permits_named T at (y ∷ drop (suc i) w)) is ∙ ap (permits_named T at) (sym (drop-cons w i (pos 0) k)) ∙ h

  pub rest-refused : a ≡ 0 → false ≡ permits_named T t w
  rest-refused y = ap (λ (n : ℕ). onward T n (drop (i + 1) w)) (sym y) ∙ rest-on

  module _ (on : a ≡ 0 → ⊥) where
    pub rest-last : i + 1 ≡ length w → true ≡ permits_named T t w
    rest-last y = sym (go a on) ∙ ap (onward T a) (sym (drop_of_length-le w {i = i + 1} (omega arith))) ∙ rest-on where
      go : (n : ℕ) → (n ≡ 0 → ⊥) → onward T n [] ≡ true
      go zero d = absurd (d refl)
      go (suc zero) d = refl
      go (suc (suc n)) d = refl

    module _ (more : i + 1 ≡ length w → ⊥) where
      not-nil : is_nil (drop (i + 1) w) ≡ false
      not-nil = ap is_nil (drop-cons w (i + 1) (pos 0) (omega arith))

      pub rest-silent : a ≡ 1 → false ≡ permits_named T t w
      rest-silent y = sym not-nil ∙ ap (λ (n : ℕ). onward T n (drop (i + 1) w)) (sym y) ∙ rest-on

      pub rest-next : (k : ℕ) → a ≡ suc (suc k) → Rest T w t k (i + 1)
      rest-next k y = ap (λ (q : Bool). q || permits_named T k (drop (i + 1) w)) (sym not-nil) ∙ ap (λ (n : ℕ). onward T n (drop (i + 1) w)) (sym y) ∙ rest-on

-- ---- A cell.
both-types : (a p q : Bool) → (a && (p && q)) ≡ ((a && p) && (a && q))
both-types true p q = refl
both-types false p q = refl

module _ (s : State) (z : ℤ) (w : List ℤ) (k : ℕ) (e : k ≡ index_of z s.cells.count) where
  abbrev T : Table
  T = table_in s.types s.links s.counts

  abbrev types-permit : Cell → Bool
  types-permit x = permits_named T x.type w && permits_named T (place_type (place_at (places_in s.places) x.place)) w

  offers-is : offers_named (system_in s) z w ≡ (names z s.cells.count && types-permit (get_or (cells_in s.cells) (named z) no_cell))
  unfolding offers_named offered permits_named permits
  offers-is =
      let x : Cell = get_or (cells_in s.cells) (named z) no_cell in
      let p : Bool = permits T x.type (map named w) in
      let q : Bool = permits T (place_type (place_at (places_in s.places) x.place)) (map named w) in
      ap (λ (m : System). offers_named m z w) (system-is s) ∙ ap (λ (n : ℕ). names z n && (methods_named T w && (p && q))) (cells-length s.cells)
      ∙ ap (λ (o : Bool). names z s.cells.count && o) (both-types (methods_named T w) p q)

  offers-unknown : s.cells.count ≤ k → false ≡ offers_named (system_in s) z w
  offers-unknown h = sym (offers-is ∙ rw (index-unknown z s.cells.count k e h))

  module _ (low : k < s.cells.count) (x : Cell) (is : x ≡ get_or (cells_in s.cells) k no_cell) where
    offers-both : offers_named (system_in s) z w ≡ types-permit x
    offers-both = let d = index-known z s.cells.count k e low in
        offers-is ∙ ap (λ (q : Bool). q && types-permit (get_or (cells_in s.cells) (named z) no_cell)) d.0 ∙ ap (λ (n : ℕ). types-permit (get_or (cells_in s.cells) n no_cell)) d.1
        ∙ ap types-permit (sym is)

    offers-not : false ≡ permits_named T x.type w → false ≡ offers_named (system_in s) z w
    offers-not h = sym (offers-both ∙ rw (← h))

    offers-by-place : true ≡ permits_named T x.type w → (r : Bool) → r ≡ permits_named T (place_type (place_at (places_in s.places) x.place)) w → r ≡ offers_named (system_in s) z w
    offers-by-place h r y = y ∙ sym (offers-both ∙ rw (← h))

-- any bytes of the types' length: what is known of the rest of a state asks for no others
unfoldable blank : List ℕ
blank = replicate types_size 0

blank-long : length blank ≡ types_size
unfolding blank
blank-long = length-replicate {A = ℕ} types_size 0

-- ---- The bytes of a state: what is read at a number is the counted record.
module _ (f : Flat) where
  pub cell_in : (k : ℕ) → k < cell_count f.counts → cell_count f.counts ≤ max_cells
      → cell_of (cell_from f.cells k) ≡ get_or (cells_in (cells_from f.cells (cell_count f.counts))) k no_cell
  unfolding cells_from
  cell_in k low few =
      let cs = cells_from f.cells (cell_count f.counts) in
      sym (cell-is cs k low ∙ ap cell_of (cell-found f.cells (cell_count f.counts) k low (omega arith)))

  pub place_in : (p : ℕ) → p < place_count f.counts → place_count f.counts ≤ max_places
      → place_of (place_from f.places p).place ≡ place_at (places_in (places_from f.places (place_count f.counts))) p
  unfolding places_from
  place_in p low few =
      let ps = places_from f.places (place_count f.counts) in
      sym (place_is ps p low ∙ ap (λ (x : PlaceRec). place_of x.place) (place_found f.places (place_count f.counts) p low (omega arith)))

  -- of a state that passes the check
  pub within : system_accepted (raw_flat f) ≡ true → Within f.cells f.counts
  unfolding cells_from places_from
  within h = let s = accepted-beside (state_from f) (read-accepted f (accepted-codes f h) ∙ h) blank blank-long in record {
    limits = s.checked.limits;
    cells_few = s.cell_count;
    places_few = s.descending.count;
    placed = λ k low. subst (λ (x : Cell). x.place < place_count f.counts) (sym (cell_in k low s.cell_count)) (s.cells k low).place;
  }

-- What is offered by what was read: x the record of cell k, p the number of its place and y that place's record, c the counts.
module _ (f : Flat) (z : ℤ) (w : List ℤ) (k : ℕ) (e : k ≡ index_of z (cell_count f.counts)) where
  pub bytes-unknown : cell_count f.counts ≤ k → false ≡ offers_named (system_in (state_from f)) z w
  unfolding cells_from
  bytes-unknown h = offers-unknown (state_from f) z w k e h

  module _ (h : Within f.cells f.counts) (low : k < cell_count f.counts) (x : CellRec) (is : x ≡ cell_from f.cells k) where
    pub bytes-placed : (p : ℕ) → p ≡ x.place → p < place_count f.counts
    bytes-placed p q = subst (λ (n : ℕ). n < place_count f.counts) (sym (q ∙ ap (λ (y : CellRec). y.place) is)) (h.placed k low)

    module _ (c : Counts) (same : c ≡ counts_in f.counts) where
      abbrev by : Counts → ℕ → Bool
      by n t = permits_named (table_in f.types f.links n) t w

      -- the counts and the number of a type, as they were read
      as_read : (t u : ℕ) → t ≡ u → by c t ≡ by (counts_in f.counts) u
      as_read t u q = ap (λ (n : Counts). by n t) same ∙ ap (by (counts_in f.counts)) q

      pub bytes-not : (t : ℕ) → t ≡ x.ty → false ≡ by c t → false ≡ offers_named (system_in (state_from f)) z w
      unfolding cells_from
      bytes-not t q r = offers-not (state_from f) z w k e low (cell_of x) (ap cell_of is ∙ cell_in f k low h.cells_few) (r ∙ as_read t x.ty q)

      pub bytes-by-place : (t : ℕ) → t ≡ x.ty → true ≡ by c t → (p : ℕ) → p ≡ x.place → (y : PlaceRec) → y ≡ place_from f.places p
          → (u : ℕ) → u ≡ place_type (place_of y.place) → (r : Bool) → r ≡ by c u → r ≡ offers_named (system_in (state_from f)) z w
      unfolding cells_from
      bytes-by-place t q on p at y found u type r says =
          let ps = places_in (places_from f.places (place_count f.counts)) in
          offers-by-place (state_from f) z w k e low (cell_of x) (ap cell_of is ∙ cell_in f k low h.cells_few) (on ∙ as_read t x.ty q) r
          (says ∙ as_read u (place_type (place_at ps x.place))
          (type ∙ ap (λ (v : PlaceRec). place_type (place_of v.place)) found ∙ ap place_type (place_in f p (bytes-placed p at) h.places_few) ∙ ap (λ (n : ℕ). place_type (place_at ps n)) at))

-- ---- A state handed in.
module _ (f : Flat) (z : ℤ) (w : List ℤ) where
  abbrev asked : Bool → System → Res Bool
  asked b s = need b out_of_range λ _. ok (offers_named s z w)

  pub handed-unfit : system_accepted (raw_flat f) ≡ false → refuse out_of_range ≡ offers_handed (raw_flat f) z w
  unfolding offers_handed
  handed-unfit h = sym (ap (λ (b : Bool). asked b (system_of (raw_flat f))) h)

  pub handed-fit : system_accepted (raw_flat f) ≡ true → (q : Bool) → q ≡ offers_named (system_in (state_from f)) z w → ok q ≡ offers_handed (raw_flat f) z w
  unfolding offers_handed system_in
  handed-fit h q y = let e = means-same (raw_state (state_from f)) (raw_flat f) (read-counted f (accepted-codes f h)) in
      sym (ap (λ (b : Bool). asked b (system_of (raw_flat f))) h ∙ ap (asked true) (sym e) ∙ ap (λ (b : Bool). ok b) (sym y))
