-- The bytes that stand for a table of the model (specs/Records), read back: they mean that table, and their codes pass the check of 2.
use mathlib.Core.Path.{◌≡◌, refl, sym, ap, ◌∙◌, subst}
use mathlib.Core.Bool.{So}
use mathlib.Core.List.{List, [], ◌∷◌, ◌++◌, map, flatten, append_assoc}
use Prim.Native.Nat.{ℕ, zero, suc, ◌+◌, ◌-◌, ◌*◌, ◌≤◌, ◌<◌}
use native.Mathlib.Nat.{le_of_suc-le-suc, not-suc-le-zero, zero-add, add_comm, zero-mul, suc-mul}
use native.Mathlib.Omega.{arith}
use lib.Dec.{leb}
use lib.ListN.{length, get_or, replicate, length-append, get_or-append}
use lib.Seq.{get_or-append-add}
use Rattle.spec_model.specs.Basics.{from}
use Rattle.spec_model.specs.Table.{Ty, Table, no_type, no_method, size, between, table_fits, max_subjects, max_methods, max_categories, max_types}
use Rattle.spec_model.specs.Check.{RawMethod, RawType, RawLinks, RawTable, no_raw_type, no_raw_method, no_raw_links, type_of, links_of, table_of, codes_fit}
use Rattle.spec_model.specs.Records.{method_record, type_record, links_record}
use Rattle.spec_model.proofs.Codes.{raw_table_of}
use Rattle.spec_model.proofs.Tests.{leb-so}
use Rattle.spec_model.proofs.Rules.{first, second}
use Rattle.law_model.proofs.Fitting.{table-fitting}
use Rattle.spec_model.proofs.Lists.{get_or-map-in}
use Rattle.law_model.proofs.Loaded.{table-back, table-codes}
use Rattle.table_record.specs.Store.{types_in, links_in, raw_table, table_in, Shaped}
use Rattle.table_record.specs.Records.{padded, bytes_of, link_bytes_of, type_bytes, link_bytes, counts_of}
use Rattle.table_record.proofs.Lists.{from_first, from-same}
use Rattle.table_record.proofs.Laws.{Agree, type-agree, type-in, links-in, record-length, record-own}
use Rattle.table_record.specs.Layout.{type_size, link_size, types_size, links_size}

-- Pieces of n bytes each, one behind the other: byte p of piece i.
module _ {A : Type 0} (f : A → List ℕ) (n : ℕ) (long : (x : A) → length (f x) ≡ n) where
  pub flat-length : (xs : List A) → length (flatten (map f xs)) ≡ length xs * n
  unfolding flatten
  flat-length [] = sym (zero-mul n)
  flat-length (x ∷ xs) = length-append (f x) (flatten (map f xs)) ∙ ap (λ (k : ℕ). k + length (flatten (map f xs))) (long x) ∙ ap (λ (k : ℕ). n + k) (flat-length xs)
      ∙ add_comm n (length xs * n) ∙ sym (suc-mul (length xs) n)

  flat-at : (xs : List A) (zs : List ℕ) (d : A) (i p : ℕ) → i < length xs → p < n → get_or (flatten (map f xs) ++ zs) (i * n + p) 0 ≡ get_or (f (get_or xs i d)) p 0
  unfolding flatten
  flat-at [] zs d i p h l = absurd (not-suc-le-zero h)
  flat-at (x ∷ xs) zs d zero p h l =
      let e : 0 * n + p ≡ p = ap (λ (k : ℕ). k + p) (zero-mul n) ∙ zero-add p in
      ap (λ (k : ℕ). get_or (f x ++ flatten (map f xs) ++ zs) k 0) e ∙ ap (λ (ys : List ℕ). get_or ys p 0) (append_assoc (f x) (flatten (map f xs)) zs)
      ∙ get_or-append (f x) (flatten (map f xs) ++ zs) 0 p (subst (λ (k : ℕ). p < k) (sym (long x)) l)
  flat-at (x ∷ xs) zs d (suc i) p h l =
      let m : ℕ = i * n in
      let t : suc i * n ≡ m + n = suc-mul i n in
      let w : length (f x) ≡ n = long x in
      let e : suc i * n + p ≡ length (f x) + (m + p) = omega arith in
      ap (λ (k : ℕ). get_or (f x ++ flatten (map f xs) ++ zs) k 0) e ∙ ap (λ (ys : List ℕ). get_or ys (length (f x) + (m + p)) 0) (append_assoc (f x) (flatten (map f xs)) zs)
      ∙ get_or-append-add (f x) (flatten (map f xs) ++ zs) (m + p) 0 ∙ flat-at xs zs d i p (le_of_suc-le-suc h) l

-- the record of every type has its shape
pub record-shaped : (x : Ty) → Shaped (type_record x)
unfolding from
record-shaped x = record {
  methods = refl;
  slots = λ j l. ap (λ (m : RawMethod). length m.args) (from_first (λ j. method_record (get_or x.methods j no_method)) max_methods j no_raw_method l);
}

pub bytes-long : (x : Ty) → length (bytes_of x) ≡ type_size
bytes-long x = record-length (type_record x) (record-shaped x)

-- type i of the bytes
pub types-back : (xs : List Ty) (i : ℕ) → length xs ≤ max_types → i < length xs → get_or (types_in (type_bytes xs)) i no_raw_type ≡ type_record (get_or xs i no_type)
unfolding type_bytes padded Agree
types-back xs i m l = let x = get_or xs i no_type in
    type-in (type_bytes xs) i no_raw_type (omega arith)
    ∙ type-agree (type_bytes xs) (i * type_size) (bytes_of x) 0
    (λ p h. let z : 0 + p ≡ p = omega arith in
    flat-at bytes_of type_size bytes-long xs (replicate (types_size - length (flatten (map bytes_of xs))) 0) no_type i p l h ∙ ap (λ (k : ℕ). get_or (bytes_of x) k 0) (sym z))
    ∙ record-own (type_record x) (record-shaped x)

-- the links of category k; category 0 has none
pub links-back-at : (cs : List (List ℕ)) (k : ℕ) → length cs ≤ max_categories → k < suc (length cs) → get_or (links_in (link_bytes cs)) k no_raw_links ≡ links_record (get_or ([] ∷ cs) k [])
unfolding link_bytes padded
links-back-at cs k m l =
    let xs : List (List ℕ) = [] ∷ cs in
    let at : (p : ℕ) → p < link_size → get_or (link_bytes cs) (k * link_size + p) 0 ≡ get_or (link_bytes_of (get_or xs k [])) p 0 =
    λ p h. flat-at link_bytes_of link_size (λ x. refl) xs (replicate (links_size - length (flatten (map link_bytes_of xs))) 0) [] k p l h in
    let z : k * link_size ≡ k * link_size + 0 = omega arith in
    links-in (link_bytes cs) k no_raw_links (omega arith)
    ∙ links-eq (ap (λ (n : ℕ). get_or (link_bytes cs) n 0) z ∙ at 0 (omega arith)) (at 1 (omega arith)) (at 2 (omega arith))
  where
    links-eq : {x y z x' y' z' : ℕ} → x ≡ x' → y ≡ y' → z ≡ z'
        → ◌≡◌ {A = RawLinks} (record { count = x; first = y; second = z }) (record { count = x'; first = y'; second = z' })
    links-eq p q r = cc

-- A table that fits: what the bytes that stand for it mean, and that they pass the check.
module _ (t : Table) (fits : So (table_fits t)) where
  abbrev whole : RawTable
  whole = raw_table (type_bytes t.types) (link_bytes t.cats) (counts_of t)

  few : (length t.cats ≤ max_categories) × (size t ≤ max_types)
  few =
      let f = table-fitting t fits in
      let c = second (between 1 max_methods t.methods) _ (second (between 1 max_subjects t.subjects) _ f.counts) in
      (leb-so (first (leb (length t.cats) max_categories) _ c), f.room)

  type-agrees : (i : ℕ) → i < size t → get_or (types_in (type_bytes t.types)) i no_raw_type ≡ get_or (map type_record t.types) i no_raw_type
  type-agrees i h = types-back t.types i few.1 h ∙ sym (get_or-map-in type_record t.types i no_type no_raw_type h)

  link-agrees : (k : ℕ) → 1 ≤ k → k < 1 + length t.cats → get_or (links_in (link_bytes t.cats)) k no_raw_links ≡ get_or (raw_table_of t).links k no_raw_links
  link-agrees zero p l = absurd (not-suc-le-zero p)
  link-agrees (suc k) p l = links-back-at t.cats (suc k) few.0 (omega arith) ∙ sym (get_or-map-in links_record t.cats k [] no_raw_links (omega arith))

  -- what is made of each counted record
  types_same : {A : Type 0} (f : ℕ → RawType → A)
      → from (size t) 0 (λ i. f i (get_or (types_in (type_bytes t.types)) i no_raw_type)) ≡ from (size t) 0 (λ i. f i (get_or (map type_record t.types) i no_raw_type))
  types_same f = from-same _ _ (size t) 0 (λ i p l. ap (f i) (type-agrees i (omega arith)))

  links-same : {A : Type 0} (f : RawLinks → A) → from (length t.cats) 1 (λ k. f (get_or (links_in (link_bytes t.cats)) k no_raw_links)) ≡ from (length t.cats) 1
      (λ k. f (get_or (raw_table_of t).links k no_raw_links))
  links-same f = from-same _ _ (length t.cats) 1 (λ k p l. ap f (link-agrees k p l))

  pub bytes-codes : So (codes_fit whole)
  unfolding codes_fit
  bytes-codes = rw (links-same (λ x. x), types_same (λ i x. x)) (table-codes t (table-fitting t fits))

  pub bytes-mean : table_in (type_bytes t.types) (link_bytes t.cats) (counts_of t) ≡ t
  unfolding table_in table_of
  bytes-mean = rw (links-same links_of, types_same (type_of t.methods t.sheet)) (table-back t (table-fitting t fits))
