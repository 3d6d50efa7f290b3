-- Only the counted records of a state handed in say anything: its meaning, the check of 2 and what a request comes to are those of the records cut to their counts.
use mathlib.Core.Path.{◌≡◌, refl, ap, sym, ◌∙◌}
use mathlib.Core.Bool.{Bool, true, false, ◌&&◌, cond}
use mathlib.Core.List.{List}
use Prim.Native.Nat.{ℕ, suc, ◌+◌, ◌≤◌}
use native.Mathlib.Omega.{arith}
use lib.Dec.{ltb}
use lib.ListN.{get_or}
use Rattle.spec_model.specs.Basics.{Res, refuse, ok, need, from}
use Rattle.spec_model.specs.Table.{Table, size, type_at}
use Rattle.spec_model.specs.Requests.{System, Request, Result, no_cell, serve}
use Rattle.spec_model.specs.Check.{RawTable, RawSystem, no_raw_type, no_raw_links, no_raw_place, no_raw_call, type_of, links_of, place_of, call_of, first_of, table_of, system_of, codes_fit, state_codes_fit}
use Rattle.spec_model.specs.Check.{system_fits, system_accepted}
use Rattle.spec_model.specs.Records.{type_record}
use Rattle.spec_model.specs.Handed.{counted_table, counted, stored_table, stored_from, hand_back, serve_handed}
use Rattle.spec_model.proofs.Tests.{ltb-so}
use Rattle.spec_model.proofs.Lists.{from_first, from-same}
use Rattle.spec_model.specs.Refusals.{out_of_range}

-- what is made of each counted record, the list being cut to its count or not
cut : {A B : Type 0} (f : ℕ → A → B) (n m i : ℕ) (d : A) (xs : List A) → i + m ≤ n → from m i (λ k. f k (get_or (first_of n d xs) k d)) ≡ from m i (λ k. f k (get_or xs k d))
cut f n m i d xs h = from-same _ _ m i (λ k p q. ap (f k) (from_first (λ k. get_or xs k d) n k d (omega arith)))

module _ (r : RawTable) where
  table-cut : table_of (counted_table r) ≡ table_of r
  unfolding table_of
  table-cut = rw (
    cut (λ k. links_of) (suc r.cats) r.cats 1 no_raw_links r.links (omega arith),
    cut (type_of r.methods r.sheet) r.types r.types 0 no_raw_type r.records (omega arith),
  )

  codes-cut : codes_fit (counted_table r) ≡ codes_fit r
  unfolding codes_fit
  codes-cut = rw (
    cut (λ k x. x) (suc r.cats) r.cats 1 no_raw_links r.links (omega arith),
    cut (λ k x. x) r.types r.types 0 no_raw_type r.records (omega arith),
  )

  stored_cut : (t : Table) → stored_table (counted_table r) t ≡ stored_table r t
  stored_cut t = rw (
    cut (λ k x. x) (suc r.cats) (suc r.cats) 0 no_raw_links r.links (omega arith),
    from-same (λ i. cond (ltb i r.types) (get_or (first_of r.types no_raw_type r.records) i no_raw_type) (type_record (type_at t i)))
        (λ i. cond (ltb i r.types) (get_or r.records i no_raw_type) (type_record (type_at t i)))
        (size t) 0 (λ i p q. same i (ltb i r.types) refl),
  )
    where
      same : (i : ℕ) (b : Bool) → ltb i r.types ≡ b
          → cond b (get_or (first_of r.types no_raw_type r.records) i no_raw_type) (type_record (type_at t i)) ≡ cond b (get_or r.records i no_raw_type) (type_record (type_at t i))
      same i true e = from_first (λ k. get_or r.records k no_raw_type) r.types i no_raw_type (ltb-so e)
      same i false e = refl

module _ (r : RawSystem) where
  pub means-cut : system_of (counted r) ≡ system_of r
  unfolding system_of counted
  means-cut = rw (
    table-cut r.table,
    cut (λ k x. x) r.cells r.cells 0 no_cell r.cell_records (omega arith),
    cut (λ k. place_of) r.places r.places 0 no_raw_place r.place_records (omega arith),
    cut (λ k. call_of) r.calls r.calls 0 no_raw_call r.call_records (omega arith),
  )

  state-codes-cut : state_codes_fit (counted r) ≡ state_codes_fit r
  unfolding state_codes_fit counted
  state-codes-cut = rw (
    cut (λ k x. x) r.places r.places 0 no_raw_place r.place_records (omega arith),
    cut (λ k x. x) r.calls r.calls 0 no_raw_call r.call_records (omega arith),
  )

  pub accepted-cut : system_accepted (counted r) ≡ system_accepted r
  unfolding system_accepted counted
  accepted-cut = all_three (codes-cut r.table) state-codes-cut (ap system_fits means-cut)
    where
      all_three : {a b c a' b' c' : Bool} → a ≡ a' → b ≡ b' → c ≡ c' → (a && (b && c)) ≡ (a' && (b' && c'))
      all_three p q s = cc

  pub stored-from-cut : (s : System) → stored_from (counted r) s ≡ stored_from r s
  unfolding stored_from counted
  stored-from-cut s = rw (stored_cut r.table s.table)

-- Two states with the same counted records.
module _ (r r' : RawSystem) (e : counted r ≡ counted r') where
  pub means-same : system_of r ≡ system_of r'
  means-same = sym (means-cut r) ∙ ap system_of e ∙ means-cut r'

  pub accepted-same : system_accepted r ≡ system_accepted r'
  accepted-same = sym (accepted-cut r) ∙ ap system_accepted e ∙ accepted-cut r'

  pub stored_same : (s : System) → stored_from r s ≡ stored_from r' s
  stored_same s = sym (stored-from-cut r s) ∙ ap (λ x. stored_from x s) e ∙ stored-from-cut r' s

  -- what is handed back for the same outcome
  back-outcome : (m : Res (System × Result)) → (hand_back r m).outcome ≡ (hand_back r' m).outcome
  back-outcome (refuse n) = refl
  back-outcome (ok x) = refl

  back-counted : (m : Res (System × Result)) → counted (hand_back r m).state ≡ counted (hand_back r' m).state
  back-counted (refuse n) = e
  back-counted (ok x) = ap counted (stored_same x.0)

  served : (q : Request) → ◌≡◌ {A = Res (System × Result)} (need (system_accepted r) out_of_range λ _. serve (system_of r) q) (need (system_accepted r') out_of_range λ _. serve (system_of r') q)
  served q = rw (accepted-same, means-same)

  pub outcome-same : (q : Request) → (serve_handed r q).outcome ≡ (serve_handed r' q).outcome
  unfolding serve_handed
  outcome-same q = ap (λ m. (hand_back r m).outcome) (served q) ∙ back-outcome (need (system_accepted r') out_of_range λ _. serve (system_of r') q)

  pub counted_same : (q : Request) → counted (serve_handed r q).state ≡ counted (serve_handed r' q).state
  unfolding serve_handed
  counted_same q = ap (λ m. counted (hand_back r m).state) (served q) ∙ back-counted (need (system_accepted r') out_of_range λ _. serve (system_of r') q)
