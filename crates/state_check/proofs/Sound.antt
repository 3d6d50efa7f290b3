-- A state that passes the check has what the steps of requests need.
use mathlib.Core.Path.{◌≡◌, sym, subst, ◌∙◌}
use mathlib.Core.Bool.{false, So}
use mathlib.Core.List.{List}
use Prim.Native.Nat.{ℕ, ◌≤◌, ◌<◌}
use native.Mathlib.Omega.{arith}
use lib.Dec.{ltb}
use lib.ListN.{length}
use Rattle.spec_model.specs.Table.{size}
use Rattle.spec_model.specs.Crossing.{Place as Placeᵐ, object, adapter, no_place, place_at, place_type}
use Rattle.spec_model.specs.Requests.{System, cell_at, call_at, no_cell, no_call}
use Rattle.spec_model.specs.Check.{cell_fits, place_fits, call_fits, system_fits, codes_fit, state_codes_fit, table_accepted, system_accepted, table_of}
use Rattle.spec_model.proofs.Tests.{ltb-so}
use Rattle.spec_model.proofs.Rules.{never, first, second}
use Rattle.law_model.proofs.Fitting.{all-at, every-at}
use Rattle.law_model.proofs.Callers.{callers-fit}
use Rattle.law_model.proofs.Checked.{SystemFitting, system-fitting}
use Rattle.table_record.specs.Limits.{Checked}
use Rattle.table_record.specs.Store.{table_in, raw_table}
use Rattle.table_record.proofs.Tables.{size_is}
use Rattle.table_record.specs.Layout.{types_size}
use Rattle.table_check.proofs.Accepted.{accepted-checked}
use Rattle.state_record.specs.Whole.{Whole as State}
use Rattle.state_record.specs.View.{cells_in, places_in, calls_in, raw_state, system_in, is_object, behind_of, with_types}
use Rattle.state_record.specs.Sound.{Sound}
use Rattle.state_record.proofs.Laws.{cells-length, places-length, calls-length, system-is}
use Rattle.state_check_records.specs.Parts.{sizes_accepted}
use Rattle.state_check.proofs.Laws.{accepted-is, sizes-are}

descends : (s : System) (p : ℕ) (x : Placeᵐ) → So (place_fits s p x) → is_object x ≡ false → behind_of x < p
descends s p (object k o) h e = never (sym e)
descends s p (adapter b k) h e = ltb-so (first (ltb b p) _ h)

typed : (s : System) (p : ℕ) (x : Placeᵐ) → s.table.sheet ≤ size s.table → So (place_fits s p x) → place_type x < size s.table
typed s p (object k o) l h =
    let r : k < s.table.sheet = ltb-so (first (ltb k s.table.sheet) _ (second (ltb o s.table.subjects) _ h)) in omega arith
typed s p (adapter b k) l h = ltb-so (first (ltb k (size s.table)) _ (second (ltb b p) _ h))

module _ (s : State) (h : So (system_accepted (raw_state s))) where
  abbrev m : System
  m = record { table = table_in s.types s.links s.counts; cells = cells_in s.cells; places = places_in s.places; calls = calls_in s.calls }

  fitting : SystemFitting m
  unfolding system_accepted system_in
  fitting = system-fitting m (subst (λ (x : System). So (system_fits x)) (system-is s) (second (state_codes_fit (raw_state s)) _ (second (codes_fit (raw_table s.types s.links s.counts)) _ h)))

  by_parts : So (sizes_accepted s.cells.count s.places.count s.calls.count) × So (table_accepted (raw_table s.types s.links s.counts))
  by_parts =
      let e = sym (accepted-is s) ∙ h in
      let z = sizes_accepted s.cells.count s.places.count s.calls.count in
      (first z _ e, first (table_accepted (raw_table s.types s.links s.counts)) _ (second z _ e))

  checked : Checked s.links s.counts
  checked = accepted-checked s.types s.links s.counts by_parts.1

  place-fits : (p : ℕ) → p < s.places.count → So (place_fits m p (place_at (places_in s.places) p))
  place-fits p l =
      subst (λ (n : ℕ). So (place_fits m n (place_at (places_in s.places) p))) (omega arith)
      (every-at (place_fits m) no_place 0 (places_in s.places) fitting.places p (subst (λ (n : ℕ). p < n) (sym (places-length s.places)) l))

  call-fits : (j : ℕ) → j < length (calls_in s.calls) → So (call_fits m (call_at m j))
  call-fits j l = all-at (call_fits m) no_call (calls_in s.calls) fitting.calls j l

  sheet-below : m.table.sheet ≤ size m.table
  unfolding table_in table_of
  sheet-below = subst (λ (n : ℕ). s.counts.sheet ≤ n) (sym (size_is s.types s.links s.counts)) checked.limits.counted

  -- beside any bytes of the types' length, for a caller who has none of his own
  pub accepted-beside : (t : List ℕ) → length t ≡ types_size → Sound (with_types s t)
  unfolding table_in table_of
  accepted-beside t long =
      let z = sizes-are s.cells.count s.places.count s.calls.count by_parts.0 in
      record {
        long = long;
        checked = checked;
        descending = record { count = z.1; behind = λ p l. descends m p (place_at (places_in s.places) p) (place-fits p l) };
        typed = λ p l. subst (λ (n : ℕ). place_type (place_at (places_in s.places) p) < n) (size_is s.types s.links s.counts)
            (typed m p (place_at (places_in s.places) p) sheet-below (place-fits p l));
        cell_count = z.0;
        cells = λ k l. let c = cell_at m k in
            let e = all-at (cell_fits m) no_cell (cells_in s.cells) fitting.cells k (subst (λ (n : ℕ). k < n) (sym (cells-length s.cells)) l) in
            let e₁ = second (ltb c.holder m.table.subjects) _ e in
            let e₂ = second (ltb c.place (length m.places)) _ e₁ in
            let l₁ : c.type < s.counts.sheet = ltb-so (first (ltb c.type m.table.sheet) _ e₂) in
            let l₂ : s.counts.sheet ≤ s.counts.types = checked.limits.counted in
            record {
              type = omega arith;
              place = subst (λ (n : ℕ). c.place < n) (places-length s.places) (ltb-so (first (ltb c.place (length m.places)) _ e₁));
            };
        calls = record {
          each = λ j l. let c = call_at m j in
              let e = call-fits j (subst (λ (n : ℕ). j < n) (sym (calls-length s.calls)) l) in
              let e₁ = second (ltb c.caller m.table.subjects) _ e in
              record {
                caller = ltb-so (first (ltb c.caller m.table.subjects) _ e);
                cell = subst (λ (n : ℕ). c.cell < n) (cells-length s.cells) (ltb-so (first (ltb c.cell (length m.cells)) _ e₁));
                method = ltb-so (second (ltb c.cell (length m.cells)) _ e₁);
              };
          few = (callers-fit m.table.subjects (calls_in s.calls) (λ j l. ltb-so (first (ltb (call_at m j).caller m.table.subjects) _ (call-fits j l))) fitting.callers).few;
        };
      }

  pub accepted-sound : length s.types ≡ types_size → Sound s
  accepted-sound long = accepted-beside s.types long
