-- What is returned to the one who hands a state in (Handed): it means the model's state, what was counted before is stored as it was, and what is served from a
-- loaded sheet passes the check of 2 again.
use mathlib.Core.Path.{◌≡◌, refl, ap, sym, subst, ◌∙◌}
use mathlib.Core.Logic.{◌⊎◌, inl, inr}
use mathlib.Core.Bool.{Bool, true, false, So, cond}
use mathlib.Core.List.{List, [], ◌∷◌, ◌++◌, map}
use mathlib.Core.Option.{Option, none, some}
use Prim.Native.Nat.{ℕ, zero, suc, ◌≤◌, ◌<◌}
use native.Mathlib.Nat.{zero-add}
use native.Mathlib.Omega.{arith}
use native.Mathlib.Decide.{dec_lt}
use lib.Dec.{ltb}
use lib.ListN.{length, get_or, get_or-map, length-map}
use Rattle.spec_model.specs.Basics.{Res, refuse, ok, need, all, every, from}
use Rattle.spec_model.specs.Table.{Kind, Key, Ty, Table, no_method, no_type, max_methods, max_types, size, type_at, permit, is_none, method_count, between, table_fits, valid_sheet}
use Rattle.spec_model.specs.Relations.{free, related}
use Rattle.spec_model.specs.Restriction.{derive, derived}
use Rattle.spec_model.specs.Crossing.{Place, no_place, place_at}
use Rattle.spec_model.specs.Requests.{Cell, Call, System, Request, Result, refused, no_cell, no_call, call_at, flagged, loaded, serve, after}
use Rattle.spec_model.specs.Check.{RawType, RawTable, RawPlace, RawCall, RawSystem, no_raw_type, no_raw_links, no_raw_place, no_raw_call, type_of, links_of, place_of, call_of, first_of, types_of, table_of}
use Rattle.spec_model.specs.Check.{system_of, raw_type_fits, codes_fit, state_codes_fit, system_fits, system_accepted}
use Rattle.spec_model.specs.Records.{type_record}
use Rattle.spec_model.specs.Handed.{place_record, call_record, stored_table, stored_from, counted, hand_back, serve_handed, Returns}
use Rattle.spec_model.specs.Book.{Book, opened}
use Rattle.spec_model.specs.Claim.{accepted, feed, follow, reached}
use Rattle.spec_model.proofs.Tests.{ltb-so, so-ltb, ltb_no}
use Rattle.spec_model.proofs.Rules.{both, first, second}
use Rattle.spec_model.proofs.Lists.{length_from, from_first, is-from, from-same, all_from, every-from, first-all}
use Rattle.spec_model.proofs.Growth.{Grown, grown-refl, grown-trans}
use Rattle.spec_model.specs.Refusals.{out_of_range}
use Rattle.law_model.proofs.Deriving.{IfSome}
use Rattle.law_model.proofs.Completes.{Inv, Got, Fresh}
use Rattle.law_model.proofs.Good.{Sound, counted_of, sheet-within, derive-inv, derive-sound}
use Rattle.law_model.proofs.Steps.{IfOk}
use Rattle.law_model.proofs.Fitting.{all-at, every-at, table-fitting}
use Rattle.law_model.proofs.Within.{SystemIn, serve-in}
use Rattle.law_model.proofs.Checked.{derived-of, system-fitting, fits-bounded}
use Rattle.law_model.proofs.Reached.{derived-unsigned, reached-fits}
use Rattle.law_model.proofs.Records.{place-back, place-code, call_back, call-code, Shaped, type-back, type-codes}
use Rattle.law_model.proofs.Onward.{Onward, serve-onward}

-- ---- the types that a request adds have the right shape
pub record NewType (x : Ty) : Type 0 where
  pub own : x.own ≡ false
  pub key : is_none x.key ≡ false
  pub unsigned : (m : ℕ) → permit (get_or x.methods m no_method).state ≡ false → ((get_or x.methods m no_method).args ≡ []) × ((get_or x.methods m no_method).answer ≡ none)

-- the table t has come of t₀, and what it has more is new
module _ (t₀ : Table) where
  pub record Added (t : Table) : Type 0 where
    pub sound : Sound t
    pub grown : Grown t₀ t
    pub each : (i : ℕ) → size t₀ ≤ i → i < size t → NewType (type_at t i)

  added_more : (t : Table) → Added t → (u : Table) → Sound u → Inv t u (λ j. ⊥) → Added u
  added_more t a u s v = record { sound = s; grown = grown-trans a.grown v.ext; each = λ i l k. go i l k (dec_lt i (size t)) }
    where
      keyed : (o : Option Key) (k : Key) → o ≡ some k → is_none o ≡ false
      keyed o k e = ap is_none e

      fresh : (i : ℕ) → ⊥ ⊎ Fresh t u i → NewType (type_at u i)
      fresh i (inl w) = absurd w
      fresh i (inr w) = let k = w.keyed.0 in let r = w.key k w.keyed.1 in
          record { own = r.own; key = keyed (type_at u i).key k w.keyed.1; unsigned = λ m. derived-unsigned u k.kind _ _ _ (r.at m) }

      go : (i : ℕ) → size t₀ ≤ i → i < size u → Dec (i < size t) → NewType (type_at u i)
      go i l k (yes h) = rw (v.ext.same i h) (a.each i l h)
      go i l k (no h) = fresh i (v.fresh i (omega arith) k)

  pub added-derives : (t : Table) → Added t → (d : Kind) (l r : ℕ) → So (related free t l r)
      → IfOk (derived t d l r) (λ x. Added x.0 × Grown t x.0 × (x.1 < size x.0) × (Unit {0} → Unit {0}))
  added-derives t a d l r h =
      derived-of _ t d l r (go (derive max_types t d l r) (derive-inv t a.sound.methods max_types d l r h) (derive-sound t a.sound max_types d l r h (counted_of t a.sound.counts).types))
    where
      go : (o : Option (Table × ℕ)) → IfSome o (Got t t (λ j. ⊥) d l r) → IfSome o (λ x. Sound x.0 × Grown t x.0 × (x.1 < size x.0))
          → IfSome o (λ x. Added x.0 × Grown t x.0 × (x.1 < size x.0) × (Unit {0} → Unit {0}))
      go none w s = tt
      go (some x) w s = (added_more t a x.0 s.0 w.inv, s.1, s.2, λ u. u)

  abbrev pub StateAdded : System → Type 0
  StateAdded = SystemIn Added (λ t i. Unit {0}) (λ t i h. tt) (λ t u i g l h. tt) (λ t a. sheet-within t a.sound.counts) (λ t a. a.sound.sheet_sigs) (λ t a. a.sound.sigs) added-derives

  pub state-added : (s : System) → StateAdded s → (q : Request) → StateAdded (after s (serve s q))
  state-added = serve-in Added (λ t i. Unit {0}) (λ t i h. tt) (λ t u i g l h. tt) (λ t a. sheet-within t a.sound.counts) (λ t a. a.sound.sheet_sigs) (λ t a. a.sound.sigs) added-derives

-- a state that passes the check has nothing new yet
start-added : (s : System) → So (system_fits s) → StateAdded s.table s
start-added s h = let b = fits-bounded s h in record {
  table = record { sound = b.table; grown = grown-refl s.table; each = λ i l k. absurd (omega arith) };
  places = record { count = b.places.count; each = b.places.each };
  cell_count = b.cell_count;
  cells = λ k l. let c = b.cells k l in record { holder = c.holder; place = c.place; sheet = c.sheet; isref = c.isref };
  calls = b.calls;
}

pub request-adds : (s : System) → So (system_fits s) → (q : Request) → Added s.table (after s (serve s q)).table
request-adds s h q = (state-added s.table s (start-added s h) q).table

-- ---- what is stored means the model's state
module _ (r : RawTable) (fits : So (table_fits (table_of r))) (t : Table) (a : Added (table_of r) t) where
  counts-are : ((table_of r).subjects ≡ r.subjects) × ((table_of r).methods ≡ r.methods) × ((table_of r).sheet ≡ r.sheet) × (size (table_of r) ≡ r.types)
  unfolding table_of
  counts-are = (refl, refl, refl, length_from (λ i. type_of r.methods r.sheet i (get_or r.records i no_raw_type)) r.types 0)

  methods-are : t.methods ≡ r.methods
  methods-are = a.grown.methods ∙ counts-are.1

  sheet-is : t.sheet ≡ r.sheet
  sheet-is = a.grown.sheet ∙ counts-are.2

  counted_is : size (table_of r) ≡ r.types
  counted_is = counts-are.3

  old-type : (i : ℕ) → i < r.types → type_at (table_of r) i ≡ type_of r.methods r.sheet i (get_or r.records i no_raw_type)
  unfolding table_of
  old-type i l = from_first (λ i. type_of r.methods r.sheet i (get_or r.records i no_raw_type)) r.types i no_type l

  few-methods : r.methods ≤ max_methods
  few-methods = subst (λ n. n ≤ max_methods) methods-are (counted_of t a.sound.counts).methods

  sheet-counted : r.sheet ≤ r.types
  sheet-counted = let f = table-fitting (table_of r) fits in omega (arith, f.sheet, counts-are.2, counts-are.3)

  -- a new type has the right shape
  new-shaped : (i : ℕ) → r.types ≤ i → i < size t → Shaped r.methods r.sheet i (type_at t i)
  new-shaped i l k = let n = a.each i (omega (arith, counted_is)) k in record {
    own = rw n.own;
    key = n.key ∙ sym (past (omega (arith, sheet-counted)));
    long = subst (λ m. length (type_at t i).methods ≡ method_count (type_at t i).rep m) methods-are (a.sound.methods i k);
    method = λ m. record { short = a.sound.short i m; unsigned = n.unsigned m };
  }
    where
      past : r.sheet ≤ i → ltb i r.sheet ≡ false
      past p = go (ltb i r.sheet) refl
        where
          go : (b : Bool) → ltb i r.sheet ≡ b → b ≡ false
          go true e = let q : i < r.sheet = ltb-so e in absurd (omega arith)
          go false e = refl

  -- the record of type i, and what it means
  abbrev record_at : ℕ → RawType
  record_at i = cond (ltb i r.types) (get_or r.records i no_raw_type) (type_record (type_at t i))

  record-means : (i : ℕ) → i < size t → type_of r.methods r.sheet i (record_at i) ≡ type_at t i
  record-means i l = go (ltb i r.types) refl
    where
      go : (b : Bool) → ltb i r.types ≡ b → type_of r.methods r.sheet i (cond b (get_or r.records i no_raw_type) (type_record (type_at t i))) ≡ type_at t i
      go true e = let k : i < r.types = ltb-so e in sym (a.grown.same i (omega (arith, counted_is)) ∙ old-type i k)
      go false e = type-back r.methods r.sheet i (type_at t i) few-methods (new-shaped i (ltb_no e) l)

  types-mean : types_of (stored_table r t) ≡ t.types
  types-mean = is-from (λ i. type_of r.methods r.sheet i (get_or (stored_table r t).records i no_raw_type)) (size t) no_type t.types refl λ i l.
      sym (ap (type_of r.methods r.sheet i) (from_first record_at (size t) i no_raw_type l) ∙ record-means i l)

  links-mean : from r.cats 1 (λ k. links_of (get_or (stored_table r t).links k no_raw_links)) ≡ t.cats
  unfolding table_of
  links-mean = from-same (λ k. links_of (get_or (stored_table r t).links k no_raw_links)) (λ k. links_of (get_or r.links k no_raw_links)) r.cats 1
      (λ k l u. ap links_of (from_first (λ k. get_or r.links k no_raw_links) (suc r.cats) k no_raw_links (omega arith))) ∙ sym a.grown.cats

  pub table-means : table_of (stored_table r t) ≡ t
  unfolding table_of
  table-means = rw (types-mean, links-mean, ← a.grown.subjects, ← methods-are, ← sheet-is)

pub system-means : (r : RawSystem) → So (table_fits (table_of r.table)) → (s : System) → Added (table_of r.table) s.table → system_of (stored_from r s) ≡ s
unfolding system_of stored_from
system-means r fits s a = rw (table-means r.table fits s.table a, first-all no_cell s.cells (length s.cells) refl, places, calls)
  where
    places : from (length s.places) 0 (λ k. place_of (get_or (map place_record s.places) k no_raw_place)) ≡ s.places
    places = is-from (λ k. place_of (get_or (map place_record s.places) k no_raw_place)) (length s.places) no_place s.places refl λ k l.
        sym (ap place_of (get_or-map place_record s.places k no_place) ∙ place-back (place_at s.places k))

    calls : from (length s.calls) 0 (λ j. call_of (get_or (map call_record s.calls) j no_raw_call)) ≡ s.calls
    calls = is-from (λ j. call_of (get_or (map call_record s.calls) j no_raw_call)) (length s.calls) no_call s.calls refl λ j l.
        sym (ap call_of (get_or-map call_record s.calls j no_call) ∙ call_back (call_at s j))

-- what the check says of a state that is handed in
pub accepted-codes : (r : RawSystem) → So (system_accepted r) → So (codes_fit r.table) × So (state_codes_fit r) × So (system_fits (system_of r))
unfolding system_accepted
accepted-codes r h = let k = second (codes_fit r.table) _ h in (first (codes_fit r.table) _ h, first (state_codes_fit r) _ k, second (state_codes_fit r) _ k)

accepted-table : (r : RawSystem) → So (system_accepted r) → So (table_fits (table_of r.table))
unfolding system_of
accepted-table r h = (system-fitting (system_of r) (accepted-codes r h).2).table

request-added : (r : RawSystem) → So (system_accepted r) → (q : Request) → Added (table_of r.table) (after (system_of r) (serve (system_of r) q)).table
unfolding system_of
request-added r h q = request-adds (system_of r) (accepted-codes r h).2 q

pub handed-is : (r : RawSystem) → So (system_accepted r) → (q : Request) → serve_handed r q ≡ hand_back r (serve (system_of r) q)
unfolding serve_handed
handed-is r h q = ap (λ b. hand_back r (need b out_of_range λ _. serve (system_of r) q)) h

pub accept : (r : RawSystem) → So (codes_fit r.table) → So (state_codes_fit r) → So (system_fits (system_of r)) → So (system_accepted r)
unfolding system_accepted
accept r c d f = both c (both d f)

-- What is returned, refused or not, means the state that the model leaves.
pub returned-means : (r : RawSystem) → So (system_accepted r) → (q : Request) → system_of (serve_handed r q).state ≡ after (system_of r) (serve (system_of r) q)
returned-means r h q = ap (λ x. system_of x.state) (handed-is r h q) ∙ go (serve (system_of r) q) (request-added r h q)
  where
    go : (m : Res (System × Result)) → Added (table_of r.table) (after (system_of r) m).table → system_of (hand_back r m).state ≡ after (system_of r) m
    go (refuse n) a = refl
    go (ok x) a = system-means r (accepted-table r h) x.0 a

-- ---- what was counted before is stored as it was, a call but for its flag (Q15)
abbrev pub raw_flagged : RawCall → ℕ → RawCall
raw_flagged c b = record { caller = c.caller; cell = c.cell; method = c.method; answered = b }

pub record Before (r r' : RawSystem) : Type 0 where
  pub links : (k : ℕ) → k ≤ r.table.cats → get_or r'.table.links k no_raw_links ≡ get_or r.table.links k no_raw_links
  pub types : (i : ℕ) → i < r.table.types → get_or r'.table.records i no_raw_type ≡ get_or r.table.records i no_raw_type
  pub cells : (k : ℕ) → k < r.cells → get_or r'.cell_records k no_cell ≡ get_or r.cell_records k no_cell
  pub places : (p : ℕ) → p < r.places → get_or r'.place_records p no_raw_place ≡ get_or r.place_records p no_raw_place
  pub calls : (j : ℕ) → j < r.calls → get_or r'.call_records j no_raw_call ≡ raw_flagged (get_or r.call_records j no_raw_call) (get_or r'.call_records j no_raw_call).answered

place-forth : (c f s : ℕ) → So (ltb c 2) → ◌≡◌ {A = RawPlace} (place_record (place_of (record { code = c; first = f; second = s }))) (record { code = c; first = f; second = s })
place-forth zero f s h = refl
place-forth (suc zero) f s h = refl
place-forth (suc (suc c)) f s h = let l : suc (suc c) < 2 = ltb-so h in absurd (omega arith)

module _ (r : RawSystem) (h : So (system_accepted r)) (s : System) (o : Onward (system_of r) s) where
  old-cell : (k : ℕ) → k < r.cells → get_or s.cells k no_cell ≡ get_or r.cell_records k no_cell
  unfolding system_of
  old-cell k l = let f : ℕ → Cell = λ k. get_or r.cell_records k no_cell in o.cells.same k (omega (arith, length_from f r.cells 0)) ∙ from_first f r.cells k no_cell l

  old-place : (p : ℕ) → p < r.places → place_record (place_at s.places p) ≡ get_or r.place_records p no_raw_place
  unfolding system_of state_codes_fit
  old-place p l =
      let f : ℕ → Place = λ k. place_of (get_or r.place_records k no_raw_place) in let x = get_or r.place_records p no_raw_place in
      let c = all-at (λ p. ltb p.code 2) no_raw_place (first_of r.places no_raw_place r.place_records)
      (first (all (λ p. ltb p.code 2) (first_of r.places no_raw_place r.place_records)) _ (accepted-codes r h).1) p
      (omega (arith, length_from (λ k. get_or r.place_records k no_raw_place) r.places 0)) in
      let e = from_first (λ k. get_or r.place_records k no_raw_place) r.places p no_raw_place l in
      ap place_record (o.places.same p (omega (arith, length_from f r.places 0)) ∙ from_first f r.places p no_place l)
      ∙ place-forth x.code x.first x.second (subst (λ y. So (ltb y.code 2)) e c)

  old-call : (j : ℕ) → j < r.calls → call_record (call_at s j) ≡ raw_flagged (get_or r.call_records j no_raw_call) (call_record (call_at s j)).answered
  unfolding system_of
  old-call j l = let f : ℕ → Call = λ k. call_of (get_or r.call_records k no_raw_call) in
      ap call_record (o.calls.same j (omega (arith, length_from f r.calls 0)))
      ∙ ap (λ c. call_record (flagged c (call_at s j).answered)) (from_first f r.calls j no_call l)

  types_more : (i : ℕ) → i < r.table.types → i < size s.table
  unfolding system_of table_of
  types_more i l = let t = r.table in omega (arith, o.table.more, length_from (λ i. type_of t.methods t.sheet i (get_or t.records i no_raw_type)) t.types 0)

  pub stored-before : Before r (stored_from r s)
  unfolding stored_from
  stored-before = record {
    links = λ k l. from_first (λ k. get_or r.table.links k no_raw_links) (suc r.table.cats) k no_raw_links (omega arith);
    types = λ i l. from_first _ (size s.table) i no_raw_type (types_more i l) ∙ ap (λ b. cond b (get_or r.table.records i no_raw_type) (type_record (type_at s.table i))) (so-ltb l);
    cells = old-cell;
    places = λ p l. get_or-map place_record s.places p no_place ∙ old-place p l;
    calls = λ j l. let e = get_or-map call_record s.calls j no_call in e ∙ old-call j l ∙ sym (ap (λ c. raw_flagged (get_or r.call_records j no_raw_call) c.answered) e);
  }

before_self : (r : RawSystem) → Before r r
before_self r = record { links = λ k l. refl; types = λ i l. refl; cells = λ k l. refl; places = λ p l. refl; calls = λ j l. refl }

-- Whatever comes of a request, what was counted before is stored as it was, a call but for its flag.
pub returned-before : (r : RawSystem) (q : Request) → Before r (serve_handed r q).state
unfolding serve_handed
returned-before r q = go (system_accepted r) refl
  where
    last : So (system_accepted r) → (m : Res (System × Result)) → IfOk m (λ x. Onward (system_of r) x.0) → Before r (hand_back r m).state
    last h (refuse n) w = before_self r
    last h (ok x) w = stored-before r h x.0 w

    go : (b : Bool) → system_accepted r ≡ b → Before r (hand_back r (need b out_of_range λ _. serve (system_of r) q)).state
    go true e = last e (serve (system_of r) q) (serve-onward (system_of r) q)
    go false e = before_self r

-- ---- the definition returns what it owes, and what it stores ends with its counts
pub stored-counted : (r : RawSystem) (s : System) → counted (stored_from r s) ≡ stored_from r s
unfolding counted stored_from
stored-counted r s = rw (
  first-all no_raw_links (first_of (suc r.table.cats) no_raw_links r.table.links) (suc r.table.cats) (length_from _ (suc r.table.cats) 0),
  first-all no_raw_type (stored_table r.table s.table).records (size s.table) (length_from _ (size s.table) 0),
  first-all no_cell s.cells (length s.cells) refl,
  first-all no_raw_place (map place_record s.places) (length s.places) (length-map s.places place_record),
  first-all no_raw_call (map call_record s.calls) (length s.calls) (length-map s.calls call_record),
)

pub definition-returns : (r : RawSystem) (q : Request) → Returns r q (serve_handed r q).outcome (serve_handed r q).state
unfolding serve_handed
definition-returns r q = record { outcome = refl; records = refl; untouched = go (need (system_accepted r) out_of_range λ _. serve (system_of r) q) }
  where
    go : (m : Res (System × Result)) (n : ℕ) → (hand_back r m).outcome ≡ refused n → (hand_back r m).state ≡ r
    go (refuse e) n p = refl
    go (ok x) n p = let z : ◌≡◌ {A = ℕ} 0 1 = cc in absurd (omega arith)

-- ---- the check of 2 again
module _ (r : RawTable) (fits : So (table_fits (table_of r))) (codes : So (codes_fit r)) (t : Table) (a : Added (table_of r) t) where
  pub stored-codes : So (codes_fit (stored_table r t))
  unfolding codes_fit
  stored-codes = both
      (subst (λ xs. So (all (λ x. between 1 2 x.count) xs)) (sym links) (first old_links old_types codes))
      (every-from (λ i. get_or (stored_table r t).records i no_raw_type) (raw_type_fits r.methods r.sheet) (size t) 0 λ i l k.
      subst (λ x. So (raw_type_fits r.methods r.sheet i x)) (sym (from_first (record_at r fits t a) (size t) i no_raw_type (omega arith))) (go i (omega arith) (ltb i r.types) refl))
    where
      old_links : Bool
      old_links = all (λ x. between 1 2 x.count) (from r.cats 1 (λ k. get_or r.links k no_raw_links))

      old_types : Bool
      old_types = every (raw_type_fits r.methods r.sheet) 0 (from r.types 0 (λ i. get_or r.records i no_raw_type))

      links : from r.cats 1 (λ k. get_or (stored_table r t).links k no_raw_links) ≡ from r.cats 1 (λ k. get_or r.links k no_raw_links)
      links = from-same _ _ r.cats 1 (λ k l u. from_first (λ k. get_or r.links k no_raw_links) (suc r.cats) k no_raw_links (omega arith))

      go : (i : ℕ) → i < size t → (b : Bool) → ltb i r.types ≡ b → So (raw_type_fits r.methods r.sheet i (cond b (get_or r.records i no_raw_type) (type_record (type_at t i))))
      go i l true e = let k : i < r.types = ltb-so e in
          subst (λ x. So (raw_type_fits r.methods r.sheet i x)) (from_first (λ i. get_or r.records i no_raw_type) r.types i no_raw_type k)
          (subst (λ n. So (raw_type_fits r.methods r.sheet n (get_or (from r.types 0 (λ i. get_or r.records i no_raw_type)) i no_raw_type))) (zero-add i)
          (every-at (raw_type_fits r.methods r.sheet) no_raw_type 0 (from r.types 0 (λ i. get_or r.records i no_raw_type)) (second old_links old_types codes) i
          (omega (arith, length_from (λ i. get_or r.records i no_raw_type) r.types 0))))
      go i l false e = type-codes r.methods r.sheet i (type_at t i) (new-shaped r fits t a i (ltb_no e) l)

pub stored-state-codes : (r : RawSystem) (s : System) → So (state_codes_fit (stored_from r s))
unfolding state_codes_fit stored_from
stored-state-codes r s = both
    (all_from _ (λ p. ltb p.code 2) (length s.places) 0 λ p l k. rw (get_or-map place_record s.places p no_place) (place-code (place_at s.places p)))
    (all_from _ (λ c. ltb c.answered 2) (length s.calls) 0 λ j l k. rw (get_or-map call_record s.calls j no_call) (call-code (call_at s j)))

-- A state that passed and is served passes again if the model's state fits: its codes always do.
pub accepted-again : (r : RawSystem) → So (system_accepted r) → (q : Request) → So (system_fits (after (system_of r) (serve (system_of r) q))) → So (system_accepted (serve_handed r q).state)
unfolding stored_from
accepted-again r h q f = subst (λ x. So (system_accepted x.state)) (sym (handed-is r h q)) (go (serve (system_of r) q) (request-added r h q) f)
  where
    table-codes : (s : System) → Added (table_of r.table) s.table → So (codes_fit (stored_from r s).table)
    table-codes s a = stored-codes r.table (accepted-table r h) (accepted-codes r h).0 s.table a

    go : (m : Res (System × Result)) → Added (table_of r.table) (after (system_of r) m).table → So (system_fits (after (system_of r) m)) → So (system_accepted (hand_back r m).state)
    go (refuse n) a f = h
    go (ok x) a f = accept (stored_from r x.0) (table-codes x.0 a) (stored-state-codes r x.0) (subst (λ s. So (system_fits s)) (sym (system-means r (accepted-table r h) x.0 a)) f)

-- one request more
reached-on : (q : Request) (qs : List Request) (s : System) (b : Book) → (follow s b (qs ++ (q ∷ []))).0 ≡ after (follow s b qs).0 (serve (follow s b qs).0 q)
unfolding follow
reached-on q [] s b = refl
reached-on q (p ∷ qs) s b = reached-on q qs (after s (serve s p)) (feed b p (accepted (serve s p)))

-- What stands for a state reached from a loaded sheet passes the check of 2, and passes it again after every request.
pub sheet-again : (t : Table) → So (valid_sheet t) → (qs : List Request) (r : RawSystem) → So (system_accepted r) → system_of r ≡ (reached t qs).0 → (q : Request)
    → So (system_accepted (serve_handed r q).state) × (system_of (serve_handed r q).state ≡ (reached t (qs ++ (q ∷ []))).0)
sheet-again t v qs r h e q =
    let on = reached-on q qs (loaded t) (opened t) in
    let e' : after (system_of r) (serve (system_of r) q) ≡ (reached t (qs ++ (q ∷ []))).0 = ap (λ s. after s (serve s q)) e ∙ sym on in
    (accepted-again r h q (subst (λ s. So (system_fits s)) (sym e') (reached-fits t v (qs ++ (q ∷ [])))), returned-means r h q ∙ e')
