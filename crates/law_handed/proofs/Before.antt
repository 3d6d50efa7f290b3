-- Whoever returns what a request owes stores what was counted before as it was, a call but for its flag (Q15).
use mathlib.Core.Path.{◌≡◌, refl, ap, sym, ◌∙◌}
use mathlib.Core.Bool.{Bool, true, false}
use mathlib.Core.List.{List}
use Prim.Native.Nat.{ℕ, suc, ◌≤◌, ◌<◌}
use native.Mathlib.Omega.{arith}
use lib.ListN.{get_or}
use Rattle.spec_model.specs.Basics.{Res, refuse, ok, need}
use Rattle.spec_model.specs.Requests.{System, Request, Result, Outcome, no_cell, serve}
use Rattle.spec_model.specs.Check.{RawCall, RawSystem, no_raw_type, no_raw_links, no_raw_place, no_raw_call, type_of, place_of, call_of, first_of, table_of, system_of, system_accepted}
use Rattle.spec_model.specs.Handed.{counted, stored_from, hand_back, serve_handed, Returns}
use Rattle.spec_model.proofs.Lists.{length_from, from_first}
use Rattle.spec_model.specs.Refusals.{out_of_range}
use Rattle.law_model.proofs.Steps.{IfOk}
use Rattle.law_model.proofs.Onward.{Onward, serve-onward}
use Rattle.law_model.proofs.Returned.{Before, raw_flagged, returned-before}

-- ---- no count becomes less
record More (r r' : RawSystem) : Type 0 where
  cats : r'.table.cats ≡ r.table.cats
  types : r.table.types ≤ r'.table.types
  cells : r.cells ≤ r'.cells
  places : r.places ≤ r'.places
  calls : r.calls ≤ r'.calls

same-counts : (r : RawSystem) → More r r
same-counts r = record { cats = refl; types = omega arith; cells = omega arith; places = omega arith; calls = omega arith }

stored_more : (r : RawSystem) (s : System) → Onward (system_of r) s → More r (stored_from r s)
unfolding stored_from system_of table_of
stored_more r s o = let t = r.table in record {
  cats = refl;
  types = omega (arith, o.table.more, length_from (λ i. type_of t.methods t.sheet i (get_or t.records i no_raw_type)) t.types 0);
  cells = omega (arith, o.cells.more, length_from (λ k. get_or r.cell_records k no_cell) r.cells 0);
  places = omega (arith, o.places.more, length_from (λ k. place_of (get_or r.place_records k no_raw_place)) r.places 0);
  calls = omega (arith, o.calls.more, length_from (λ k. call_of (get_or r.call_records k no_raw_call)) r.calls 0);
}

served-more : (r : RawSystem) (q : Request) → More r (serve_handed r q).state
unfolding serve_handed
served-more r q = go (system_accepted r)
  where
    last : (m : Res (System × Result)) → IfOk m (λ x. Onward (system_of r) x.0) → More r (hand_back r m).state
    last (refuse n) w = same-counts r
    last (ok x) w = stored_more r x.0 w

    go : (b : Bool) → More r (hand_back r (need b out_of_range λ _. serve (system_of r) q)).state
    go true = last (serve (system_of r) q) (serve-onward (system_of r) q)
    go false = same-counts r

-- ---- a record that is counted in both
alike : {A : Type 0} (d : A) (n m : ℕ) (xs ys : List A) → n ≡ m → first_of n d xs ≡ first_of m d ys → (k : ℕ) → k < m → get_or xs k d ≡ get_or ys k d
alike d n m xs ys e f k l =
    sym (from_first (λ k. get_or xs k d) n k d (omega arith)) ∙ ap (λ zs. get_or zs k d) f ∙ from_first (λ k. get_or ys k d) m k d l

before-alike : (r x r' : RawSystem) → Before r x → More r x → counted r' ≡ counted x → Before r r'
unfolding counted
before-alike r x r' b m e =
    let call : (j : ℕ) → j < r.calls → get_or r'.call_records j no_raw_call ≡ get_or x.call_records j no_raw_call =
    λ j l. alike no_raw_call r'.calls x.calls r'.call_records x.call_records (ap (λ z. z.calls) e) (ap (λ z. z.call_records) e) j (omega (arith, l, m.calls)) in
    record {
      links = λ k l. alike no_raw_links (suc r'.table.cats) (suc x.table.cats) r'.table.links x.table.links (ap (λ z. suc z.table.cats) e) (ap (λ z. z.table.links) e) k
          (omega (arith, l, m.cats)) ∙ b.links k l;
      types = λ i l. alike no_raw_type r'.table.types x.table.types r'.table.records x.table.records (ap (λ z. z.table.types) e) (ap (λ z. z.table.records) e) i
          (omega (arith, l, m.types)) ∙ b.types i l;
      cells = λ k l. alike no_cell r'.cells x.cells r'.cell_records x.cell_records (ap (λ z. z.cells) e) (ap (λ z. z.cell_records) e) k (omega (arith, l, m.cells)) ∙ b.cells k l;
      places = λ p l. alike no_raw_place r'.places x.places r'.place_records x.place_records (ap (λ z. z.places) e) (ap (λ z. z.place_records) e) p (omega (arith, l, m.places))
          ∙ b.places p l;
      calls = λ j l. call j l ∙ b.calls j l ∙ ap (λ (c : RawCall). raw_flagged (get_or r.call_records j no_raw_call) c.answered) (sym (call j l));
    }

pub returns-before : (r : RawSystem) (q : Request) (o : Outcome) (r' : RawSystem) → Returns r q o r' → Before r r'
returns-before r q o r' w = before-alike r (serve_handed r q).state r' (returned-before r q) (served-more r q) w.records
