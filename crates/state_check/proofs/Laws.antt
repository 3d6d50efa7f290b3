-- The parts of the check come to the model's `system_accepted`.
use mathlib.Core.Path.{◌≡◌, refl, ap, sym, ◌∙◌}
use mathlib.Core.Bool.{Bool, true, false, ◌&&◌, and-false}
use mathlib.Core.List.{List, map}
use Prim.Native.Nat.{ℕ, ◌≤◌, ◌<◌}
use native.Mathlib.Omega.{arith}
use lib.Dec.{ltb, leb}
use lib.ListN.{get_or, get_or-map}
use borrow.Author.Tests.{ltb-true, leb-true}
use Rattle.spec_model.specs.Basics.{all, every}
use Rattle.spec_model.specs.Table.{table_fits}
use Rattle.spec_model.specs.Crossing.{Place as Placeᵐ, object, adapter, max_places}
use Rattle.spec_model.specs.Requests.{Cell as Cellᵐ, Call as Callᵐ, System, no_call, max_cells, max_calls}
use Rattle.spec_model.specs.Check.{RawType, RawTable, cell_fits, place_fits, call_fits, callers_fit, system_fits, table_of, codes_fit, state_codes_fit, table_accepted}
use Rattle.spec_model.specs.Check.{system_accepted, no_raw_place, no_raw_call}
use Rattle.spec_model.specs.Handed.{place_record, call_record}
use Rattle.spec_model.proofs.Rules.{both, first, second}
use Rattle.law_model.proofs.Records.{place-code, call-code}
use Rattle.law_model.proofs.Fitting.{all-at}
use Rattle.spec_model.proofs.Lists.{all_from}
use Rattle.table_record.specs.declared.Counts.{Counts}
use Rattle.table_record.specs.Limits.{Limits}
use Rattle.table_record.specs.Store.{types_in, table_in, raw_table}
use Rattle.table_record.proofs.Tables.{size_is}
use Rattle.table_check_links.proofs.Each.{under-and, all-each, every-each, each_same}
use Rattle.table_check.proofs.Accepted.{accepted-limits}
use Rattle.state_record.specs.declared.PlaceRec.{PlaceRec}
use Rattle.state_record.specs.declared.Call.{Call}
use Rattle.state_record.specs.Counted.{Calls}
use Rattle.state_record.specs.Whole.{Whole as State}
use Rattle.state_record.specs.View.{seen, cell_of, place_of, call_of, blank_cell, blank_place, blank_call, cells_in, places_in, calls_in, raw_state, system_in}
use Rattle.state_record.proofs.Laws.{cells-length, places-length, calls-length, system-is}
use Rattle.state_check_records.specs.Parts.{cell_accepted, place_accepted, call_accepted, sizes_accepted}
use Rattle.state_check_records.proofs.Laws.{class-is, ref-is}
use Rattle.state_check.specs.Parts.{cells_accepted, places_accepted, calls_accepted, CallersBelow, records_accepted}

-- A state of the model, by the parts of the code's.
module _ (s : State) (limits : Limits s.counts) where
  abbrev m : System
  m = record { table = table_in s.types s.links s.counts; cells = cells_in s.cells; places = places_in s.places; calls = calls_in s.calls }

  abbrev rs : List RawType
  rs = types_in s.types

  cell-is : (x : Cellᵐ) → cell_fits m x ≡ cell_accepted rs s.counts s.places.count x
  unfolding table_in table_of
  cell-is x =
      rw (places-length s.places)
      (ap (λ (z : Bool). ltb x.holder s.counts.subjects && (ltb x.place s.places.count && z))
      (under-and (ltb x.type s.counts.sheet) _ _
      (λ e. let h : x.type < s.counts.sheet = ltb-true x.type s.counts.sheet e in ref-is s.types s.links s.counts x.type (omega (arith, limits.counted)))))

  place_is : (p : ℕ) (x : Placeᵐ) → place_fits m p x ≡ place_accepted rs s.counts p x
  unfolding table_in table_of
  place_is p (object k o) =
      ap (λ (z : Bool). ltb o s.counts.subjects && z)
      (under-and (ltb k s.counts.sheet) _ _ (λ e. let h : k < s.counts.sheet = ltb-true k s.counts.sheet e in class-is s.types s.links s.counts k (omega (arith, limits.counted))))
  place_is p (adapter b k) =
      rw (size_is s.types s.links s.counts)
      (ap (λ (z : Bool). ltb b p && z) (under-and (ltb k s.counts.types) _ _ (λ e. ref-is s.types s.links s.counts k (ltb-true k s.counts.types e))))

  call-is : (x : Callᵐ) → call_fits m x ≡ call_accepted s.counts s.cells.count x
  unfolding table_in table_of
  call-is x = rw (cells-length s.cells)

  records-are : (all (cell_fits m) m.cells && (every (place_fits m) 0 m.places && (all (call_fits m) m.calls && callers_fit m.table.subjects m.calls)))
      ≡ records_accepted rs s.counts s.cells s.places s.calls
  unfolding seen cells_accepted places_accepted calls_accepted table_in table_of
  records-are =
      let f : ℕ → Cellᵐ = λ k. cell_of (get_or s.cells.list k blank_cell) in
      let g : ℕ → Placeᵐ = λ p. place_of (get_or s.places.list p blank_place).place in
      let h : ℕ → Callᵐ = λ j. call_of (get_or s.calls.list j blank_call) in
      let cs : all (cell_fits m) m.cells ≡ cells_accepted rs s.counts s.places.count s.cells =
      all-each f (cell_fits m) s.cells.count 0 ∙ each_same (λ k. cell_fits m (f k)) (λ k. cell_accepted rs s.counts s.places.count (f k)) (λ k. cell-is (f k)) s.cells.count 0 in
      let ps : every (place_fits m) 0 m.places ≡ places_accepted rs s.counts s.places =
      every-each g (place_fits m) s.places.count 0 ∙ each_same (λ p. place_fits m p (g p)) (λ p. place_accepted rs s.counts p (g p)) (λ p. place_is p (g p)) s.places.count 0 in
      let js : all (call_fits m) m.calls ≡ calls_accepted s.counts s.cells.count s.calls =
      all-each h (call_fits m) s.calls.count 0 ∙ each_same (λ j. call_fits m (h j)) (λ j. call_accepted s.counts s.cells.count (h j)) (λ j. call-is (h j)) s.calls.count 0 in
      rw (cs, ps, js)

-- The codes of a place and of a call cannot be wrong: they come of an enum and of a bool (H2).
pub codes-hold : (s : State) → state_codes_fit (raw_state s) ≡ true
unfolding state_codes_fit
codes-hold s =
    both
    (all_from (λ k. get_or (map (λ (p : PlaceRec). place_record (place_of p.place)) s.places.list) k no_raw_place) (λ p. ltb p.code 2) s.places.count 0
    (λ k p q. rw (get_or-map (λ (p : PlaceRec). place_record (place_of p.place)) s.places.list k blank_place) (place-code (place_of (get_or s.places.list k blank_place).place))))
    (all_from (λ k. get_or (map (λ (c : Call). call_record (call_of c)) s.calls.list) k no_raw_call) (λ c. ltb c.answered 2) s.calls.count 0
    (λ k p q. rw (get_or-map (λ (c : Call). call_record (call_of c)) s.calls.list k blank_call) (call-code (call_of (get_or s.calls.list k blank_call)))))

-- the tests in the order of the code: a codes, t table, x, y, z counts, r records
in_order : (a t x y z r r' : Bool) → ((a && t) ≡ true → r ≡ r') → (a && (t && (x && (y && (z && r))))) ≡ ((x && (y && z)) && ((a && t) && r'))
in_order false t x y z r r' h = sym (and-false (x && (y && z)))
in_order true false x y z r r' h = sym (and-false (x && (y && z)))
in_order true true false y z r r' h = refl
in_order true true true false z r r' h = refl
in_order true true true true false r r' h = refl
in_order true true true true true r r' h = h refl

module _ (s : State) where
  abbrev sizes : Bool
  sizes = sizes_accepted s.cells.count s.places.count s.calls.count

  abbrev table : RawTable
  table = raw_table s.types s.links s.counts

  abbrev records : Bool
  records = records_accepted (types_in s.types) s.counts s.cells s.places s.calls

  pub accepted-is : system_accepted (raw_state s) ≡ (sizes && (table_accepted table && records))
  unfolding system_accepted system_fits system_in table_accepted table_in
  accepted-is =
      ap (λ (z : Bool). codes_fit table && (z && system_fits (system_in s))) (codes-hold s)
      ∙ ap (λ (z : System). codes_fit table && system_fits z) (system-is s)
      ∙ rw (cells-length s.cells, places-length s.places, calls-length s.calls)
      (in_order (codes_fit table) (table_fits (table_in s.types s.links s.counts))
      (leb s.cells.count max_cells) (leb s.places.count max_places) (leb s.calls.count max_calls) _ records (λ e. records-are s (accepted-limits s.types s.links s.counts e)))

-- counts that are accepted
pub sizes-are : (cells places calls : ℕ) → sizes_accepted cells places calls ≡ true → (cells ≤ max_cells) × (places ≤ max_places) × (calls ≤ max_calls)
sizes-are cells places calls e =
    let f = second (leb cells max_cells) _ e in
    (leb-true cells max_cells (first (leb cells max_cells) _ e), leb-true places max_places (first (leb places max_places) _ f), leb-true calls max_calls (second (leb places max_places) _ f))

-- callers are known where calls are accepted
pub callers-known : (c : Counts) (cells : ℕ) (js : Calls) → calls_accepted c cells js ≡ true → CallersBelow c.subjects (calls_in js)
unfolding seen calls_accepted
callers-known c cells js e j l = ltb-true _ _ (first (ltb (get_or (calls_in js) j no_call).caller c.subjects) _
    (all-at (call_accepted c cells) no_call (calls_in js) (all-each (λ k. call_of (get_or js.list k blank_call)) (call_accepted c cells) js.count 0 ∙ e) j l))
