-- The check of 2 and the requests: a state that passes it stays, after every request, within its limits with every number below its count.
use mathlib.Core.Path.{subst}
use mathlib.Core.Bool.{So}
use mathlib.Core.Option.{Option, none, some}
use Prim.Native.Nat.{ℕ, ◌≤◌, ◌<◌}
use native.Mathlib.Omega.{arith}
use lib.Dec.{ltb, leb}
use lib.ListN.{length}
use Rattle.spec_model.specs.Basics.{refuse, ok, all, every, AllBelow}
use Rattle.spec_model.specs.Table.{Kind, Table, max_types, size, table_fits}
use Rattle.spec_model.specs.Relations.{free, related}
use Rattle.spec_model.specs.Restriction.{derive, derived}
use Rattle.spec_model.specs.Crossing.{Place, object, adapter, no_place, max_places, place_at}
use Rattle.spec_model.specs.Requests.{System, max_cells, max_calls, Request, no_cell, no_call, cell_at, call_at, layers, serve, after}
use Rattle.spec_model.specs.Check.{cell_fits, place_fits, call_fits, callers_fit, system_fits}
use Rattle.spec_model.proofs.Tests.{ltb-so, leb-so, so-leb}
use Rattle.spec_model.proofs.Rules.{both, first, second}
use Rattle.spec_model.proofs.Growth.{Grown}
use Rattle.spec_model.specs.Refusals.{types_full}
use Rattle.law_model.proofs.Deriving.{IfSome}
use Rattle.law_model.proofs.Good.{Sound, counted_of, sheet-within, derive-sound}
use Rattle.law_model.proofs.Steps.{IfOk}
use Rattle.law_model.proofs.Fitting.{all-at, every-at, table-fitting, fitting-sound}
use Rattle.law_model.proofs.Callers.{calls-few, callers-fit}
use Rattle.law_model.proofs.Within.{CallIn, calling, PlaceIn, SystemIn, layers-below, serve-in}

-- ---- what 11 makes of a derivation
pub derived-of : (Q : Table × ℕ → Type 0) (t : Table) (d : Kind) (l r : ℕ) → IfSome (derive max_types t d l r) Q → IfOk (derived t d l r) Q
unfolding derived
derived-of Q t d l r h = go (derive max_types t d l r) h
  where
    go : (o : Option (Table × ℕ)) → IfSome o Q → IfOk {A = Table × ℕ} (elim o [ none ↦ refuse types_full | some p ↦ ok p ]) Q
    go none h = tt
    go (some p) h = h

-- ---- states handed in
-- a sound table, and nothing known of an adapter's type but that it is in the table
pub sound-derives : (t : Table) → Sound t → (d : Kind) (l r : ℕ) → So (related free t l r)
    → IfOk (derived t d l r) (λ x. Sound x.0 × Grown t x.0 × (x.1 < size x.0) × (Unit {0} → Unit {0}))
sound-derives t g d l r h = derived-of _ t d l r (go (derive max_types t d l r) (derive-sound t g max_types d l r h (counted_of t g.counts).types))
  where
    go : (o : Option (Table × ℕ)) → IfSome o (λ x. Sound x.0 × Grown t x.0 × (x.1 < size x.0))
        → IfSome o (λ x. Sound x.0 × Grown t x.0 × (x.1 < size x.0) × (Unit {0} → Unit {0}))
    go none w = tt
    go (some x) w = (w.0, w.1, w.2, λ u. u)

-- Counts within their limits, and numbers that name something.
abbrev pub Bounded : System → Type 0
Bounded = SystemIn Sound (λ t i. Unit {0}) (λ t i h. tt) (λ t u i g l h. tt) (λ t g. sheet-within t g.counts) (λ t g. g.sheet_sigs) (λ t g. g.sigs) sound-derives

pub bounded-kept : (s : System) → Bounded s → (q : Request) → Bounded (after s (serve s q))
bounded-kept s h q = serve-in Sound (λ t i. Unit {0}) (λ t i h. tt) (λ t u i g l h. tt) (λ t g. sheet-within t g.counts) (λ t g. g.sheet_sigs) (λ t g. g.sigs) sound-derives s h q

-- of the calls of all subjects there are no more than there is room for
pub bounded-calls : (s : System) → Bounded s → length s.calls ≤ max_calls
bounded-calls s h = calls-few (calling s h.calls) (counted_of s.table h.table.counts).subjects

-- the types of a place and of what is behind it are in the table
pub bounded-layers : (s : System) → Bounded s → (f p : ℕ) → p < length s.places → AllBelow (size s.table) (layers f s.places p)
bounded-layers s h f p l =
    layers-below Sound (λ t i. Unit {0}) (λ t i h. tt) (λ t u i g l h. tt) (λ t g. sheet-within t g.counts) (λ t g. g.sheet_sigs) (λ t g. g.sigs) sound-derives
    s.table s.places h.places f p (sheet-within s.table h.table.counts) l

-- ---- what the check says, by its parts
pub record SystemFitting (s : System) : Type 0 where
  pub table : So (table_fits s.table)
  pub cell_count : length s.cells ≤ max_cells
  pub place_count : length s.places ≤ max_places
  pub call_count : length s.calls ≤ max_calls
  pub cells : So (all (cell_fits s) s.cells)
  pub places : So (every (place_fits s) 0 s.places)
  pub calls : So (all (call_fits s) s.calls)
  pub callers : So (callers_fit s.table.subjects s.calls)

pub system-fitting : (s : System) → So (system_fits s) → SystemFitting s
unfolding system_fits
system-fitting s h =
    let a = table_fits s.table in let b = leb (length s.cells) max_cells in let c = leb (length s.places) max_places in let d = leb (length s.calls) max_calls in
    let e = all (cell_fits s) s.cells in let f = every (place_fits s) 0 s.places in let g = all (call_fits s) s.calls in
    let h₁ = second a _ h in let h₂ = second b _ h₁ in let h₃ = second c _ h₂ in let h₄ = second d _ h₃ in let h₅ = second e _ h₄ in let h₆ = second f _ h₅ in
    record {
      table = first a _ h;
      cell_count = leb-so (first b _ h₁);
      place_count = leb-so (first c _ h₂);
      call_count = leb-so (first d _ h₃);
      cells = first e _ h₄;
      places = first f _ h₅;
      calls = first g _ h₆;
      callers = second g _ h₆;
    }

pub fitting-system : (s : System) → SystemFitting s → So (system_fits s)
unfolding system_fits
fitting-system s f = both f.table (both (so-leb f.cell_count) (both (so-leb f.place_count) (both (so-leb f.call_count) (both f.cells (both f.places (both f.calls f.callers))))))

-- a place that fits
place_in : (s : System) (p : ℕ) (x : Place) → So (place_fits s p x)
    → PlaceIn Sound (λ t i. Unit {0}) (λ t i h. tt) (λ t u i g l h. tt) (λ t g. sheet-within t g.counts) (λ t g. g.sheet_sigs) (λ t g. g.sigs) sound-derives s.table p x
place_in s p (object c o) h =
    let k = second (ltb o s.table.subjects) _ h in
    (ltb-so (first (ltb o s.table.subjects) _ h), ltb-so (first (ltb c s.table.sheet) _ k), second (ltb c s.table.sheet) _ k)
place_in s p (adapter b c) h = (ltb-so (first (ltb b p) _ h), ltb-so (first (ltb c (size s.table)) _ (second (ltb b p) _ h)), tt)

calls-in : (s : System) → So (all (call_fits s) s.calls) → (j : ℕ) → j < length s.calls → CallIn s (call_at s j)
calls-in s h j l = let c = call_at s j in let e = all-at (call_fits s) no_call s.calls h j l in let e₁ = second (ltb c.caller s.table.subjects) _ e in
    record {
      caller = ltb-so (first (ltb c.caller s.table.subjects) _ e);
      cell = ltb-so (first (ltb c.cell (length s.cells)) _ e₁);
      method = ltb-so (second (ltb c.cell (length s.cells)) _ e₁);
    }

pub fits-bounded : (s : System) → So (system_fits s) → Bounded s
fits-bounded s h = let f = system-fitting s h in
    record {
      table = fitting-sound s.table (table-fitting s.table f.table);
      cell_count = f.cell_count;
      places =
          record {
            count = f.place_count;
            each = λ p l.
                place_in s p (place_at s.places p) (subst (λ n. So (place_fits s n (place_at s.places p))) (omega arith) (every-at (place_fits s) no_place 0 s.places f.places p l));
          };
      cells = λ k l. let c = cell_at s k in let e = all-at (cell_fits s) no_cell s.cells f.cells k l in
          let e₁ = second (ltb c.holder s.table.subjects) _ e in let e₂ = second (ltb c.place (length s.places)) _ e₁ in
          record {
            holder = ltb-so (first (ltb c.holder s.table.subjects) _ e);
            place = ltb-so (first (ltb c.place (length s.places)) _ e₁);
            sheet = ltb-so (first (ltb c.type s.table.sheet) _ e₂);
            isref = second (ltb c.type s.table.sheet) _ e₂;
          };
      calls = record { each = calls-in s f.calls; few = (callers-fit s.table.subjects s.calls (λ j l. (calls-in s f.calls j l).caller) f.callers).few };
    }

-- A state that passes the check stays, after every request, within its limits with every number below its count.
pub checked-stays : (s : System) → So (system_fits s) → (q : Request) → Bounded (after s (serve s q))
checked-stays s h q = bounded-kept s (fits-bounded s h) q
