-- Laws of what is stored: a type's methods, and the bytes of one type more.
use mathlib.Core.Path.{◌≡◌, refl, sym, ap, ◌∙◌, subst}
use mathlib.Core.Bool.{Bool, true, false, ◌&&◌, cond}
use mathlib.Core.List.{List, [], ◌∷◌, ◌++◌, map, flatten, append_assoc, append-nil, map-append}
use mathlib.Core.Option.{none, some}
use Prim.Native.Nat.{ℕ, ◌+◌, ◌*◌, ◌≤◌, ◌<◌}
use mathlib.Core.Logic.{⊎_elim}
use native.Mathlib.Omega.{arith}
use native.Mathlib.Numerals.{add-one}
use lib.Dec.{eqb}
use lib.ListN.{length, get_or, set, take, replicate, get_or-replicate, length-map, get_or-map}
use lib.Seq.{sets, get_or-set_same, get_or-set_other, get_or-take, length-take-le, take-suc-set}
use borrow.Author.Tests.{lt-ltb}
use Rattle.spec_model.specs.Basics.{from}
use Rattle.spec_model.specs.Table.{Ty, Rep, is_ref, Method as Methodᵐ, max_methods, max_types}
use Rattle.spec_model.specs.Check.{RawType, no_raw_method, rep_of, kind_of, method_of, type_of}
use Rattle.spec_model.specs.Records.{type_record}
use Rattle.spec_model.specs.Relations.{bit}
use Rattle.table_record.specs.declared.Method.{Method}
use Rattle.table_record.specs.Store.{raw_method, types_to, record_bytes, empty_types, empty_method, blank_method, MethodExact, TypeExact}
use Rattle.table_record.specs.Records.{padded, bytes_of, type_bytes}
use Rattle.law_table.proofs.Exact.{padded-next, padded-length}
use Rattle.law_table.proofs.Whole.{flat-length, bytes-long}
use Rattle.table_record.proofs.Lists.{is-from, same_or}
use Rattle.table_record.proofs.Tables.{types-add}
use Rattle.table_record.proofs.Laws.{absent}
use Rattle.table_record.proofs.Codes.{number-rep}
use Rattle.table_record.specs.Layout.{type_size, types_size}
use Rattle.spec_sheet.specs.Sheet.{sheet_type}
use Rattle.sheet_read_type.specs.View.{method_is, MethodsExact}

-- The methods read so far: one more, and all of a type.
pub methods-add : (l : List Method) (j : ℕ) (x : Method) → j < length l → map method_is (take (j + 1) (set l j x)) ≡ map method_is (take j l) ++ method_is x ∷ []
methods-add l j x h = ap (λ (n : ℕ). map method_is (take n (set l j x))) (add-one j) ∙ ap (map method_is) (take-suc-set l j x h) ∙ map-append method_is (take j l) (x ∷ [])

pub methods-all : (l : List Method) (m : ℕ) → m ≤ length l → from m 0 (λ j. method_of (get_or (map raw_method l) j no_raw_method)) ≡ map method_is (take m l)
methods-all l m h =
    is-from (λ j. method_of (get_or (map raw_method l) j no_raw_method)) m (method_is absent) (map method_is (take m l)) (length-map (take m l) method_is ∙ length-take-le m l h)
    (λ j p. get_or-map method_is (take m l) j absent ∙ ap method_is (get_or-take m l j absent p) ∙ ap method_of (sym (get_or-map raw_method l j absent)))

-- A type of the sheet.
meaning : Rep → Bool → ℕ → ℕ → List Methodᵐ → Bool → RawType → Ty
meaning r isr c o ms sheet x =
    record { rep = r; cat = c; own = isr && eqb o 1; methods = cond isr ms []; key = cond sheet none (some (record { kind = kind_of x.kind; left = x.left; right = x.right })) }

pub bit-small : (o : Bool) → bit o ≤ 1
bit-small true = omega arith
bit-small false = omega arith

pub one-bit : (o : Bool) → eqb (bit o) 1 ≡ o
one-bit true = refl
one-bit false = refl

module _ (m n i : ℕ) (x : RawType) (h : i < n) where
  pub ref-means : (c o : ℕ) (ms : List Methodᵐ) → x.rep ≡ 0 → x.cat ≡ c → x.own ≡ o → from m 0 (λ j. method_of (get_or x.methods j no_raw_method)) ≡ ms
      → type_of m n i x ≡ sheet_type (rep_of 0) c (eqb o 1) ms
  unfolding meaning
  ref-means c o ms p q r f =
      ap (λ z. meaning (rep_of x.rep) (is_ref (rep_of x.rep)) x.cat x.own (from m 0 (λ j. method_of (get_or x.methods j no_raw_method))) z x) (lt-ltb i n h)
      ∙ ap (λ (z : ℕ). meaning (rep_of z) (is_ref (rep_of z)) x.cat x.own (from m 0 (λ j. method_of (get_or x.methods j no_raw_method))) true x) p
      ∙ ap (λ (z : ℕ). sheet_type (rep_of 0) z (eqb x.own 1) (from m 0 (λ j. method_of (get_or x.methods j no_raw_method)))) q
      ∙ ap (λ (z : ℕ). sheet_type (rep_of 0) c (eqb z 1) (from m 0 (λ j. method_of (get_or x.methods j no_raw_method)))) r
      ∙ ap (sheet_type (rep_of 0) c (eqb o 1)) f

  -- whatever its bytes of own and methods are (H15)
  pub number-means : (r c : ℕ) → 0 < r → x.rep ≡ r → x.cat ≡ c → type_of m n i x ≡ sheet_type (rep_of r) c false []
  unfolding meaning
  number-means r c k p q =
      ap (λ z. meaning (rep_of x.rep) (is_ref (rep_of x.rep)) x.cat x.own (from m 0 (λ j. method_of (get_or x.methods j no_raw_method))) z x) (lt-ltb i n h)
      ∙ ap (λ (z : ℕ). meaning (rep_of z) (is_ref (rep_of z)) x.cat x.own (from m 0 (λ j. method_of (get_or x.methods j no_raw_method))) true x) p
      ∙ ap (λ z. meaning (rep_of r) z x.cat x.own (from m 0 (λ j. method_of (get_or x.methods j no_raw_method))) true x) (number-rep r (λ z. omega arith))
      ∙ ap (λ (z : ℕ). sheet_type (rep_of r) z false []) q

-- One type more.
pub types-none : (m n : ℕ) (rs : List RawType) → types_to m n 0 rs ≡ []
unfolding types_to from
types-none m n rs = refl

pub types-next : (m n i : ℕ) (rs : List RawType) (t : RawType) → i < length rs → types_to m n (i + 1) (set rs i t) ≡ types_to m n i rs ++ type_of m n i t ∷ []
types-next m n i rs t h = ap (λ (z : ℕ). types_to m n z (set rs i t)) (add-one i) ∙ types-add m n rs i t h

-- Bytes filled from the front: one record more.
pub flat-next : {A : Type 0} (f : A → List ℕ) (xs : List A) (x : A) → flatten (map f (xs ++ x ∷ [])) ≡ flatten (map f xs) ++ f x
unfolding flatten
flat-next f [] x = append-nil (f x)
flat-next f (y ∷ xs) x = ap (λ (z : List ℕ). f y ++ z) (flat-next f xs x) ∙ sym (append_assoc (f y) (flatten (map f xs)) (f x))

pub empty-types : empty_types ≡ type_bytes []
unfolding empty_types type_bytes padded flatten
empty-types = refl

pub types-room : (ts : List Ty) → length ts ≤ max_types → length (type_bytes ts) ≡ types_size
unfolding type_bytes
types-room ts h = let l : length (flatten (map bytes_of ts)) ≡ length ts * type_size = flat-length bytes_of type_size bytes-long ts in padded-length types_size (flatten (map bytes_of ts)) (omega arith)

-- a type more is stored behind i others
pub types-stored : (ts : List Ty) (t : Ty) (i : ℕ) (x : RawType) (b b' : List ℕ) → length ts ≡ i → i < max_types → b ≡ type_bytes ts → type_record t ≡ x
    → b' ≡ sets b (i * type_size) (record_bytes x)
    → b' ≡ type_bytes (ts ++ t ∷ [])
unfolding type_bytes
types-stored ts t i x b b' n h e r w =
    let all : List ℕ = flatten (map bytes_of ts) in
    let l : length all ≡ length ts * type_size = flat-length bytes_of type_size bytes-long ts in
    let k : i * type_size ≡ length all = omega arith in
    let m : length (bytes_of t) ≡ type_size = bytes-long t in
    w ∙ ap (λ (z : List ℕ). sets z (i * type_size) (record_bytes x)) e ∙ ap (λ (z : RawType). sets (padded types_size all) (i * type_size) (record_bytes z)) (sym r)
    ∙ ap (λ (z : ℕ). sets (padded types_size all) z (bytes_of t)) k ∙ padded-next types_size all (bytes_of t) (omega arith) ∙ ap (padded types_size) (sym (flat-next bytes_of ts t))

pub type-record : (m n i : ℕ) (x : RawType) → TypeExact m n i x → type_record (type_of m n i x) ≡ x
unfolding TypeExact
type-record m n i x e = e

-- Methods put in one after the other: at first every byte is 0.
pub methods-blank : (m : Method) → m ≡ empty_method → MethodsExact 0 (replicate max_methods m)
methods-blank m e = record { exact = λ j h. absurd (omega arith); rest = λ j h l. blank j l }
  where
    blank : (j : ℕ) → j < max_methods → get_or (map raw_method (replicate max_methods m)) j no_raw_method ≡ blank_method
    blank j l = get_or-map raw_method (replicate max_methods m) j absent ∙ ap raw_method (get_or-replicate max_methods j m absent l ∙ e)

pub methods-put : (ms : List Method) (j : ℕ) (x : Method) → length ms ≡ max_methods → j < max_methods → MethodExact (raw_method x) → MethodsExact j ms → MethodsExact (j + 1) (set ms j x)
methods-put ms j x l h e w = record { exact = before; rest = λ k p q. other k (λ r. let d : k ≡ j = r in omega arith) ∙ w.rest k (omega arith) q }
  where
    same : get_or (map raw_method (set ms j x)) j no_raw_method ≡ raw_method x
    same = get_or-map raw_method (set ms j x) j absent ∙ ap raw_method (get_or-set_same ms j x absent (omega arith))

    other : (k : ℕ) → (k ≡ j → ⊥) → get_or (map raw_method (set ms j x)) k no_raw_method ≡ get_or (map raw_method ms) k no_raw_method
    other k r = get_or-map raw_method (set ms j x) k absent ∙ ap raw_method (get_or-set_other ms j k x absent r) ∙ sym (get_or-map raw_method ms k absent)

    before : (k : ℕ) → k < j + 1 → MethodExact (get_or (map raw_method (set ms j x)) k no_raw_method)
    before k p =
        ⊎_elim
        (λ (d : k ≡ j). subst MethodExact (sym (ap (λ (z : ℕ). get_or (map raw_method (set ms j x)) z no_raw_method) d ∙ same)) e)
        (λ (d : k ≡ j → ⊥). subst MethodExact (sym (other k d)) (w.exact k (omega (arith, d))))
        (same_or k j)
