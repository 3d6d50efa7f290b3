-- The records that stand for a table that fits mean that table and pass the check of 2, and so does the state of a loaded sheet.
use mathlib.Core.Path.{◌≡◌, refl, ap, sym, subst, ◌∙◌}
use mathlib.Core.Bool.{Bool, true, false, So}
use mathlib.Core.List.{[], map}
use mathlib.Core.Option.{Option, none, some}
use Prim.Native.Nat.{ℕ, zero, suc, ◌+◌, ◌≤◌, ◌<◌}
use native.Mathlib.Omega.{arith}
use native.Mathlib.Decide.{dec_lt}
use lib.Dec.{ltb, leb}
use lib.ListN.{length, get_or, get_or-eq_default}
use Rattle.spec_model.specs.Basics.{from}
use Rattle.spec_model.specs.Table.{Key, Table, no_method, no_type, size, type_at, method_at, permit, between, links_fit, is_none, signature_fits, key_fits, signature_bound}
use Rattle.spec_model.specs.Requests.{loaded}
use Rattle.spec_model.specs.Check.{RawTable, no_raw_links, no_raw_type, type_of, links_of, table_of, system_of, raw_type_fits, codes_fit, table_accepted, state_codes_fit, system_accepted}
use Rattle.spec_model.specs.Records.{type_record, links_record}
use Rattle.spec_model.specs.Handed.{raw_loaded}
use Rattle.spec_model.proofs.Codes.{raw_table_of}
use Rattle.spec_model.proofs.Tests.{ltb-so, leb-so}
use Rattle.spec_model.proofs.Rules.{both, first, second}
use Rattle.spec_model.proofs.Lists.{is-from, from-shift, get_or-map-in, all_from, every-from}
use Rattle.law_model.proofs.Good.{counted_of}
use Rattle.law_model.proofs.Fitting.{TableFitting, all-at, every-at, fitting-short}
use Rattle.law_model.proofs.Callers.{calling-none, fit-callers}
use Rattle.law_model.proofs.Checked.{fitting-system}
use Rattle.law_model.proofs.Reached.{unsigned}
use Rattle.law_model.proofs.Records.{links-back, Shaped, type-back, type-codes}

module _ (t : Table) (f : TableFitting t) where
  key-shaped : (i : ℕ) (o : Option Key) → So (key_fits t i o) → is_none o ≡ ltb i t.sheet
  key-shaped i none h = sym h
  key-shaped i (some k) h = go (ltb i t.sheet) refl
    where
      go : (b : Bool) → ltb i t.sheet ≡ b → false ≡ b
      go true e = let p : i < t.sheet = ltb-so e in let q : t.sheet ≤ i = leb-so (first (leb t.sheet i) _ h) in absurd (omega arith)
      go false e = refl

  -- each type has the right shape
  pub fitting-shaped : (i : ℕ) → i < size t → Shaped t.methods t.sheet i (type_at t i)
  fitting-shaped i l = let x = f.types i l in record {
    own = x.own;
    key = key-shaped i (type_at t i).key x.key;
    long = x.counts;
    method = λ m. record { short = fitting-short t f i m; unsigned = go m (dec_lt m (length (type_at t i).methods)) };
  }
    where
      go : (m : ℕ) → Dec (m < length (type_at t i).methods) → permit (method_at t i m).state ≡ false → ((method_at t i m).args ≡ []) × ((method_at t i m).answer ≡ none)
      go m (yes k) = unsigned t (signature_bound t i) (method_at t i m) (all-at (signature_fits t (signature_bound t i)) no_method (type_at t i).methods (f.types i l).signatures m k)
      go m (no k) = rw (get_or-eq_default (type_at t i).methods no_method {n = m} (omega arith)) (λ e. (refl, refl))

  -- the links of category k + 1
  link_fits : (k : ℕ) → k < length t.cats → So (between 1 2 (length (get_or t.cats k [])))
  link_fits k l = first (between 1 2 (length (get_or t.cats k []))) _ (every-at links_fit [] 1 t.cats f.links k l)

  link_at : (k : ℕ) → k < length t.cats → get_or (map links_record t.cats) k no_raw_links ≡ links_record (get_or t.cats k [])
  link_at k l = get_or-map-in links_record t.cats k [] no_raw_links l

  type-at : (i : ℕ) → i < size t → get_or (map type_record t.types) i no_raw_type ≡ type_record (type_at t i)
  type-at i l = get_or-map-in type_record t.types i no_type no_raw_type l

  links-mean : from (length t.cats) 1 (λ k. links_of (get_or (raw_table_of t).links k no_raw_links)) ≡ t.cats
  links-mean = from-shift (λ k. links_of (get_or (raw_table_of t).links k no_raw_links)) (length t.cats) 0
      ∙ is-from (λ k. links_of (get_or (map links_record t.cats) k no_raw_links)) (length t.cats) [] t.cats refl λ k l.
      sym (ap links_of (link_at k l) ∙ links-back (get_or t.cats k []) (link_fits k l))

  pub table-back : table_of (raw_table_of t) ≡ t
  unfolding table_of
  table-back = rw (
    links-mean,
    is-from (λ i. type_of t.methods t.sheet i (get_or (map type_record t.types) i no_raw_type)) (size t) no_type t.types refl λ i l.
        sym (ap (type_of t.methods t.sheet i) (type-at i l) ∙ type-back t.methods t.sheet i (type_at t i) (counted_of t f.counts).methods (fitting-shaped i l)),
  )

  pub table-codes : So (codes_fit (raw_table_of t))
  unfolding codes_fit
  table-codes = both
      (all_from (λ k. get_or (raw_table_of t).links k no_raw_links) (λ x. between 1 2 x.count) (length t.cats) 1 go)
      (every-from (λ i. get_or (map type_record t.types) i no_raw_type) (raw_type_fits t.methods t.sheet) (size t) 0 λ i l u. let k : i < size t = omega arith in
      subst (λ x. So (raw_type_fits t.methods t.sheet i x)) (sym (type-at i k)) (type-codes t.methods t.sheet i (type_at t i) (fitting-shaped i k)))
    where
      go : (j : ℕ) → 1 ≤ j → j < 1 + length t.cats → So (between 1 2 (get_or (raw_table_of t).links j no_raw_links).count)
      go zero l u = absurd (omega arith)
      go (suc k) l u = let i : k < length t.cats = omega arith in rw (link_at k i) (link_fits k i)

-- The state of a loaded sheet: it means the model's, and passes the check if its table does.
pub loaded-means : (r : RawTable) → system_of (raw_loaded r) ≡ loaded (table_of r)
unfolding system_of from
loaded-means r = refl

pub loaded-accepted : (r : RawTable) → So (table_accepted r) → So (system_accepted (raw_loaded r))
unfolding table_accepted system_accepted state_codes_fit system_of from
loaded-accepted r h = both (first (codes_fit r) _ h) (both refl (fitting-system (loaded (table_of r)) (record {
  table = second (codes_fit r) _ h;
  cell_count = omega arith;
  place_count = omega arith;
  call_count = omega arith;
  cells = refl;
  places = refl;
  calls = refl;
  callers = fit-callers r.subjects [] (calling-none r.subjects);
})))
