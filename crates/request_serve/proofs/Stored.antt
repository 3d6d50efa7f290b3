-- What a step stores is what the definition stores: the counted records of the state left are those of `stored_from`, its counts and every counted byte of its types besides.
use mathlib.Core.Path.{◌≡◌, refl, ap, sym, ◌∙◌}
use mathlib.Core.Bool.{Bool, true, false, cond}
use mathlib.Core.List.{List, ◌++◌, map, flatten}
use Prim.Native.Nat.{ℕ, zero, suc, ◌+◌, ◌*◌, ◌<◌}
use native.Mathlib.Omega.{arith}
use lib.Dec.{ltb}
use lib.ListN.{get_or, take, drop, get_or-map}
use lib.Seq.{get_or-take, get_or-drop}
use Rattle.spec_model.specs.Basics.{from}
use Rattle.spec_model.specs.Table.{Ty, Table, size, type_at, max_types}
use Rattle.spec_model.specs.Requests.{Cell as Cellᵐ, System, no_cell}
use Rattle.spec_model.specs.Check.{RawTable, RawPlace, RawCall, RawSystem, no_raw_type, no_raw_place, no_raw_call, type_of, first_of}
use Rattle.spec_model.specs.Records.{type_record}
use Rattle.spec_model.specs.Handed.{place_record, call_record, counted_table, counted, stored_table, stored_from}
use Rattle.spec_model.proofs.Tests.{ltb-so, ltb_no}
use Rattle.spec_model.proofs.Lists.{from-same}
use Rattle.law_model.proofs.Returned.{stored-counted}
use Rattle.table_record.specs.declared.Counts.{Counts}
use Rattle.table_record.specs.Store.{types_in, types_to, raw_table, table_in, with_count}
use Rattle.table_record.specs.Records.{bytes_of}
use Rattle.table_record.proofs.Laws.{Agree, type-in, type-agree, record-own}
use Rattle.table_record.proofs.Tables.{size_is, type-is, types_of}
use Rattle.table_record.specs.Layout.{type_size}
use Rattle.law_table.proofs.Whole.{record-shaped}
use Rattle.derive_sub_sup.specs.Link.{record_at}
use Rattle.derive_sub_sup.proofs.Bytes.{record_same, exact-take}
use Rattle.state_record.specs.Counted.{Cells}
use Rattle.state_record.specs.Counted.{Places}
use Rattle.state_record.specs.Counted.{Calls}
use Rattle.state_record.specs.Whole.{Whole as State}
use Rattle.state_record.specs.View.{seen, cell_of, place_of, call_of, blank_cell, blank_place, blank_call, cells_in, places_in, calls_in, raw_state, system_in}
use Rattle.state_record.proofs.Laws.{cells-length, places-length, calls-length, system-is}
use Rattle.request_common.specs.Served.{Stored}

-- Cells, places and calls: the counted records of an array that is seen through f, and then as records through g.
seen-counted : {A B C : Type 0} (f : A → B) (g : B → C) (h : A → C) → ((x : A) → h x ≡ g (f x)) → (d : A) (n i : ℕ) (l : List A)
    → from n i (λ k. get_or (map h l) k (h d)) ≡ map g (from n i (λ k. f (get_or l k d)))
unfolding from
seen-counted f g h e d zero i l = refl
seen-counted f g h e d (suc n) i l = rw (get_or-map h l i d, e (get_or l i d), seen-counted f g h e d n (suc i) l)

cells-counted : (cs : Cells) → first_of cs.count no_cell (map cell_of cs.list) ≡ cells_in cs
unfolding seen
cells-counted cs = from-same _ _ cs.count 0 (λ k p q. get_or-map cell_of cs.list k blank_cell)

places-counted : (ps : Places) → first_of ps.count no_raw_place (map (λ p. place_record (place_of p.place)) ps.list) ≡ map place_record (places_in ps)
unfolding seen
places-counted ps = seen-counted (λ p. place_of p.place) place_record (λ p. place_record (place_of p.place)) (λ p. refl) blank_place ps.count 0 ps.list

calls-counted : (js : Calls) → first_of js.count no_raw_call (map (λ c. call_record (call_of c)) js.list) ≡ map call_record (calls_in js)
unfolding seen
calls-counted js = seen-counted call_of call_record (λ c. call_record (call_of c)) (λ c. refl) blank_call js.count 0 js.list

-- a record whose bytes are those that stand for a type is that type's
record-exact : (b : List ℕ) (i : ℕ) (x : Ty) → i < max_types → record_at b i ≡ bytes_of x → get_or (types_in b) i no_raw_type ≡ type_record x
unfolding Agree
record-exact b i x h e =
    type-in b i no_raw_type h
    ∙ type-agree b (i * type_size) (bytes_of x) 0
    (λ p l. let z : 0 + p ≡ p = omega arith in
    sym (get_or-take type_size (drop (i * type_size) b) p 0 l ∙ get_or-drop (i * type_size) b p 0) ∙ ap (λ (r : List ℕ). get_or r p 0) e ∙ ap (λ (k : ℕ). get_or (bytes_of x) k 0) (sym z))
    ∙ record-own (type_record x) (record-shaped x)

-- the types of the state are those of its table, as many as are counted
module _ (s : State) where
  pub sized : size (system_in s).table ≡ s.counts.types
  sized = ap (λ (x : System). size x.table) (system-is s) ∙ size_is s.types s.links s.counts

  typed : (system_in s).table.types ≡ types_to s.counts.methods s.counts.sheet s.counts.types (types_in s.types)
  typed = ap (λ (x : System). x.table.types) (system-is s) ∙ types_of s.types s.links s.counts

module _ (s s' : State) (w : Stored s s') where
  abbrev c : Counts
  c = s.counts

  abbrev n' : ℕ
  n' = s'.counts.types

  abbrev t' : Table
  t' = table_in s'.types s'.links s'.counts

  type-left : (i : ℕ) → i < n' → type_at t' i ≡ type_of c.methods c.sheet i (get_or (types_in s'.types) i no_raw_type)
  type-left i l = type-is s'.types s'.links s'.counts i l ∙ ap (λ (d : Counts). type_of d.methods d.sheet i (get_or (types_in s'.types) i no_raw_type)) w.counts

  -- type i: as it was, or the record that stands for it
  type-counted : (i : ℕ) → i < n' → get_or (types_in s'.types) i no_raw_type ≡ cond (ltb i c.types) (get_or (types_in s.types) i no_raw_type) (type_record (type_at t' i))
  type-counted i l = go (ltb i c.types) refl
    where
      below : i < max_types
      below = omega (arith, l, w.grew.room)

      go : (b : Bool) → ltb i c.types ≡ b → get_or (types_in s'.types) i no_raw_type ≡ cond b (get_or (types_in s.types) i no_raw_type) (type_record (type_at t' i))
      go true e = record_same s.types s'.types i below (w.kept i (ltb-so e))
      go false e = record-exact s'.types i (type_at t' i) below (w.grew.exact i (ltb_no e) l ∙ ap bytes_of (sym (type-left i l)))

  types-counted : first_of n' no_raw_type (types_in s'.types) ≡ from n' 0 (λ i. cond (ltb i c.types) (get_or (types_in s.types) i no_raw_type) (type_record (type_at t' i)))
  types-counted = from-same _ _ n' 0 (λ i p l. type-counted i (omega arith))

  table_counted : counted_table (raw_table s'.types s'.links s'.counts) ≡ stored_table (raw_table s.types s.links s.counts) t'
  table_counted = rw (size_is s'.types s'.links s'.counts, types-counted, w.links, w.counts)

  pub counted-stored : counted (raw_state s') ≡ counted (stored_from (raw_state s) (system_in s'))
  unfolding counted stored_from
  counted-stored =
      by_parts table_counted (sym (cells-length s'.cells)) (sym (places-length s'.places)) (sym (calls-length s'.calls))
      (cells-counted s'.cells) (places-counted s'.places) (calls-counted s'.calls)
      ∙ ap (stored_from (raw_state s)) (sym (system-is s')) ∙ sym (stored-counted (raw_state s) (system_in s'))
    where
      by_parts : {t t₂ : RawTable} {a b c a₂ b₂ c₂ : ℕ} {x x₂ : List Cellᵐ} {y y₂ : List RawPlace} {z z₂ : List RawCall} → t ≡ t₂ → a ≡ a₂ → b ≡ b₂ → c ≡ c₂
          → x ≡ x₂ → y ≡ y₂ → z ≡ z₂
          → ◌≡◌ {A = RawSystem} (record { table = t; cells = a; places = b; calls = c; cell_records = x; place_records = y; call_records = z })
          (record { table = t₂; cells = a₂; places = b₂; calls = c₂; cell_records = x₂; place_records = y₂; call_records = z₂ })
      by_parts p₀ p₁ p₂ p₃ p₄ p₅ p₆ = cc

  pub counts-stored : s'.counts ≡ with_count s.counts (size (system_in s').table)
  counts-stored = w.counts ∙ ap (with_count s.counts) (sym (sized s'))

  pub bytes-stored : take (size (system_in s').table * type_size) s'.types ≡ take (c.types * type_size) s.types ++ flatten (map bytes_of (drop c.types (system_in s').table.types))
  bytes-stored = ap (λ (n : ℕ). take (n * type_size) s'.types) (sized s')
      ∙ exact-take c c.types n' s.types s'.types w.grew.more w.kept w.grew.exact
      ∙ ap (λ (xs : List Ty). take (c.types * type_size) s.types ++ flatten (map bytes_of (drop c.types xs)))
      (sym (typed s' ∙ ap (λ (d : Counts). types_to d.methods d.sheet n' (types_in s'.types)) w.counts))
