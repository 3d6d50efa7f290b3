-- The views of a state's parts: how long they are, what stands in them, what one record more does.
use mathlib.Core.Path.{◌≡◌, ap, sym, ◌∙◌}
use mathlib.Core.Bool.{true}
use mathlib.Core.List.{[], ◌∷◌, ◌++◌, map}
use Prim.Native.Nat.{ℕ, ◌≤◌, ◌<◌}
use lib.ListN.{length, get_or, set, get_or-map}
use Rattle.spec_model.specs.Crossing.{Place as Placeᵐ, no_place, place_at}
use Rattle.spec_model.specs.Requests.{System, Call as Callᵐ, no_cell, no_call, flagged}
use Rattle.spec_model.specs.Check.{no_raw_place, no_raw_call, system_of}
use Rattle.spec_model.specs.Check.{place_of as place_meant, call_of as call_meant}
use Rattle.spec_model.specs.Handed.{place_record, call_record}
use Rattle.spec_model.proofs.Lists.{from-same}
use Rattle.law_model.proofs.Records.{place-back, call_back}
use Rattle.table_record.specs.Store.{table_in}
use Rattle.state_record.specs.declared.Cell.{Cell}
use Rattle.state_record.specs.declared.PlaceRec.{PlaceRec}
use Rattle.state_record.specs.Counted.{Cells}
use Rattle.state_record.specs.Counted.{Places}
use Rattle.state_record.specs.Counted.{Calls}
use Rattle.state_record.specs.Whole.{Whole as State}
use Rattle.state_record.specs.View.{seen, cell_of, place_of, call_of, blank_cell, blank_place, blank_call, cells_in, places_in, calls_in, cell_added, call_answered, answered_as}
use Rattle.state_record.specs.View.{system_in}
use Rattle.state_record.proofs.Lists.{seen-length, seen_at, seen-added, seen-set}

abbrev rec_of : PlaceRec → Placeᵐ
rec_of p = place_of p.place

pub cells-length : (cs : Cells) → length (cells_in cs) ≡ cs.count
cells-length cs = seen-length cell_of blank_cell cs

pub cell-is : (cs : Cells) (k : ℕ) → k < cs.count → get_or (cells_in cs) k no_cell ≡ cell_of (get_or cs.list k blank_cell)
cell-is cs k h = seen_at cell_of blank_cell cs k no_cell h

pub cells-added : (cs : Cells) (c : Cell) → cs.count < length cs.list → cells_in (cell_added cs c) ≡ cells_in cs ++ (cell_of c ∷ [])
cells-added cs c h = seen-added cell_of blank_cell cs c h

pub places-length : (ps : Places) → length (places_in ps) ≡ ps.count
places-length ps = seen-length rec_of blank_place ps

pub place_is : (ps : Places) (p : ℕ) → p < ps.count → place_at (places_in ps) p ≡ place_of (get_or ps.list p blank_place).place
place_is ps p h = seen_at rec_of blank_place ps p no_place h

pub calls-length : (js : Calls) → length (calls_in js) ≡ js.count
calls-length js = seen-length call_of blank_call js

pub call-is : (js : Calls) (j : ℕ) → j < js.count → get_or (calls_in js) j no_call ≡ call_of (get_or js.list j blank_call)
call-is js j h = seen_at call_of blank_call js j no_call h

pub calls-answered : (js : Calls) (j : ℕ) → j < js.count → js.count ≤ length js.list → calls_in (call_answered js j) ≡ set (calls_in js) j (flagged (get_or (calls_in js) j no_call) true)
calls-answered js j h r = seen-set call_of blank_call js j (answered_as (get_or js.list j blank_call)) h r
    ∙ ap (λ (x : Callᵐ). set (calls_in js) j (flagged x true)) (sym (call-is js j h))

-- What a state means, by its parts.
pub system-is : (s : State) → system_in s ≡ record { table = table_in s.types s.links s.counts; cells = cells_in s.cells; places = places_in s.places; calls = calls_in s.calls }
unfolding system_in system_of table_in seen
system-is s =
    rw (
      from-same (λ k. get_or (map cell_of s.cells.list) k no_cell) (λ k. cell_of (get_or s.cells.list k blank_cell)) s.cells.count 0
          (λ k p q. get_or-map cell_of s.cells.list k blank_cell),
      from-same (λ k. place_meant (get_or (map (λ p. place_record (rec_of p)) s.places.list) k no_raw_place)) (λ k. rec_of (get_or s.places.list k blank_place)) s.places.count 0
          (λ k p q. ap place_meant (get_or-map (λ p. place_record (rec_of p)) s.places.list k blank_place) ∙ place-back (rec_of (get_or s.places.list k blank_place))),
      from-same (λ k. call_meant (get_or (map (λ c. call_record (call_of c)) s.calls.list) k no_raw_call)) (λ k. call_of (get_or s.calls.list k blank_call)) s.calls.count 0
          (λ k p q. ap call_meant (get_or-map (λ c. call_record (call_of c)) s.calls.list k blank_call) ∙ call_back (call_of (get_or s.calls.list k blank_call))),
    )

-- It has as many cells, places and calls as are counted.
pub record MeansCounted (s : State) : Type 0 where
  pub cells : length (system_in s).cells ≡ s.cells.count
  pub places : length (system_in s).places ≡ s.places.count
  pub calls : length (system_in s).calls ≡ s.calls.count

pub means-counted : (s : State) → MeansCounted s
means-counted s = record {
  cells = ap (λ (x : System). length x.cells) (system-is s) ∙ cells-length s.cells;
  places = ap (λ (x : System). length x.places) (system-is s) ∙ places-length s.places;
  calls = ap (λ (x : System). length x.calls) (system-is s) ∙ calls-length s.calls;
}
