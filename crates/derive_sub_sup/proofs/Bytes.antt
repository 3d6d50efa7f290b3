-- The bytes of a table, record by record: what a store does to them, that they say what type is there, and what records stored exactly come to.
use mathlib.Core.Path.{◌≡◌, refl, sym, ap, ◌∙◌, subst}
use mathlib.Core.List.{List, ◌++◌, map, flatten, append_assoc, append-nil}
use Prim.Native.Nat.{ℕ, zero, suc, ◌+◌, ◌-◌, ◌*◌, ◌≤◌, ◌<◌}
use native.Mathlib.Omega.{arith}
use lib.ListN.{length, get_or, take, drop, length-drop}
use lib.Seq.{sets, ext_get_or, get_or-take, get_or-drop, length-take-le, take-add, get_or-set_same}
use Rattle.spec_model.specs.Basics.{from}
use Rattle.spec_model.specs.Table.{Ty, max_methods, max_types}
use Rattle.spec_model.specs.Check.{RawType, no_raw_type, type_of}
use Rattle.table_record.specs.declared.Counts.{Counts}
use Rattle.table_record.specs.Store.{raw_method_at, raw_methods_at, raw_type_at, types_in, types_to, record_bytes, Put, TypeExact}
use Rattle.table_record.specs.Records.{bytes_of}
use Rattle.spec_model.proofs.Lists.{from-same, map-from}
use Rattle.table_record.proofs.Lists.{get_or-sets-below, get_or-sets-above, get_or-sets-in}
use Rattle.table_record.proofs.Laws.{types-length, type-in, record-length, put-length, put-types, mk, mk-eq, mk_t, mk_t-eq, at_zero}
use Rattle.table_record.specs.Layout.{type_size, head_size, method_size, types_size}
use Rattle.derive_sub_sup.specs.Link.{record_at, Kept, ExactAt, Exact}

-- byte p of record i
at : (b : List ℕ) (i p : ℕ) → p < type_size → get_or (record_at b i) p 0 ≡ get_or b (i * type_size + p) 0
at b i p h = get_or-take type_size (drop (i * type_size) b) p 0 h ∙ get_or-drop (i * type_size) b p 0

record-long : (b : List ℕ) (i : ℕ) → length b ≡ types_size → i < max_types → length (record_at b i) ≡ type_size
record-long b i e h = length-take-le type_size (drop (i * type_size) b) (let l = length-drop (i * type_size) b in omega arith)

module _ (b : List ℕ) (i : ℕ) where
  method-there : (j : ℕ) → j < max_methods → raw_method_at b (i * type_size + head_size + j * method_size) ≡ raw_method_at (record_at b i) (head_size + j * method_size)
  unfolding mk
  method-there j h = mk-eq (sym (at_zero b (i * type_size + head_size + j * method_size)) ∙ byte 0 (omega arith) ∙ at_zero (record_at b i) (head_size + j * method_size))
      (byte 1 (omega arith)) (byte 2 (omega arith))
      (byte 3 (omega arith)) (byte 4 (omega arith)) (byte 5 (omega arith)) (byte 6 (omega arith))
    where
      byte : (p : ℕ) → p < method_size → get_or b (i * type_size + head_size + j * method_size + p) 0 ≡ get_or (record_at b i) (head_size + j * method_size + p) 0
      byte p l = let e : i * type_size + head_size + j * method_size + p ≡ i * type_size + (head_size + j * method_size + p) = omega arith in ap (λ (k : ℕ). get_or b k 0) e
          ∙ sym (at b i (head_size + j * method_size + p) (omega arith))

  record-in : i < max_types → get_or (types_in b) i no_raw_type ≡ raw_type_at (record_at b i) 0
  unfolding mk_t raw_methods_at
  record-in h =
      type-in b i no_raw_type h
      ∙ mk_t-eq (sym (at_zero b (i * type_size)) ∙ byte 0 (omega arith)) (byte 1 (omega arith)) (byte 2 (omega arith)) (byte 3 (omega arith)) (byte 4 (omega arith)) (byte 5 (omega arith))
      (from-same (λ j. raw_method_at b (i * type_size + head_size + j * method_size)) (λ j. raw_method_at (record_at b i) (0 + head_size + j * method_size)) max_methods 0 (λ j p l. method-there j (omega arith)))
    where
      byte : (p : ℕ) → p < type_size → get_or b (i * type_size + p) 0 ≡ get_or (record_at b i) p 0
      byte p l = sym (at b i p l)

pub record_same : (b b' : List ℕ) (i : ℕ) → i < max_types → record_at b' i ≡ record_at b i → get_or (types_in b') i no_raw_type ≡ get_or (types_in b) i no_raw_type
record_same b b' i h e = record-in b' i h ∙ ap (λ (x : List ℕ). raw_type_at x 0) e ∙ sym (record-in b i h)

pub exact_same : (c : Counts) (b b' : List ℕ) (i : ℕ) → i < max_types → record_at b' i ≡ record_at b i → ExactAt c b i → ExactAt c b' i
exact_same c b b' i h e x = e ∙ x ∙ ap (λ (r : RawType). bytes_of (type_of c.methods c.sheet i r)) (sym (record_same b b' i h e))

-- One record is stored: it stands there, and the others are as before.
module _ {b : List ℕ} {n : ℕ} {x : RawType} {b' : List ℕ} (w : Put b n x b') (long : length b ≡ types_size) (room : n < max_types) where
  size : length (record_bytes x) ≡ type_size
  size = record-length x w.shaped

  pub put-here : record_at b' n ≡ record_bytes x
  put-here =
      ext_get_or 0 (record_at b' n) (record_bytes x) (record-long b' n (put-length w ∙ long) room ∙ sym size)
      (λ p l. let h : p < type_size = subst (λ (k : ℕ). p < k) (record-long b' n (put-length w ∙ long) room) l in
      let z = size in
      at b' n p h ∙ ap (λ (r : List ℕ). get_or r (n * type_size + p) 0) w.bytes ∙ get_or-sets-in b (n * type_size) (record_bytes x) p 0 (omega arith) (omega arith))

  module _ (i : ℕ) (h : i < max_types) where
    others : ((p : ℕ) → p < type_size → get_or (sets b (n * type_size) (record_bytes x)) (i * type_size + p) 0 ≡ get_or b (i * type_size + p) 0) → record_at b' i ≡ record_at b i
    others same =
        ext_get_or 0 (record_at b' i) (record_at b i) (record-long b' i (put-length w ∙ long) h ∙ sym (record-long b i long h))
        (λ p l. let q : p < type_size = subst (λ (k : ℕ). p < k) (record-long b' i (put-length w ∙ long) h) l in
        at b' i p q ∙ ap (λ (r : List ℕ). get_or r (i * type_size + p) 0) w.bytes ∙ same p q ∙ sym (at b i p q))

    pub put-below : i < n → record_at b' i ≡ record_at b i
    put-below l = others (λ p q. get_or-sets-below b (n * type_size) (record_bytes x) (i * type_size + p) 0 (omega arith))

    pub put-above : n < i → record_at b' i ≡ record_at b i
    put-above l = others (λ p q. let z = size in get_or-sets-above b (n * type_size) (record_bytes x) (i * type_size + p) 0 (omega arith))

  pub put-exact : (c : Counts) → TypeExact c.methods c.sheet n x → ExactAt c b' n
  unfolding TypeExact
  put-exact c e =
      put-here ∙ ap record_bytes (sym e)
      ∙ ap (λ (r : RawType). bytes_of (type_of c.methods c.sheet n r))
      (sym (ap (λ (rs : List RawType). get_or rs n no_raw_type) (put-types w long room) ∙ get_or-set_same (types_in b) n x no_raw_type (let l = types-length b in omega arith)))

-- The first n records, one behind the other.
next : (b : List ℕ) (n : ℕ) → take (suc n * type_size) b ≡ take (n * type_size) b ++ record_at b n
next b n = let e : suc n * type_size ≡ n * type_size + type_size = omega arith in ap (λ (k : ℕ). take k b) e ∙ take-add (n * type_size) type_size b

pub kept-take : (n : ℕ) (b b' : List ℕ) → Kept n b b' → take (n * type_size) b' ≡ take (n * type_size) b
kept-take zero b b' h = refl
kept-take (suc n) b b' h = next b' n ∙ ap (λ (x : List ℕ). x ++ record_at b' n) (kept-take n b b' (λ i l. h i (omega arith)))
    ∙ ap (λ (x : List ℕ). take (n * type_size) b ++ x) (h n (omega arith))
    ∙ sym (next b n)

rows : (b : List ℕ) (k n : ℕ) → take ((n + k) * type_size) b ≡ take (n * type_size) b ++ flatten (from k n (record_at b))
unfolding flatten from
rows b zero n = let e : n + 0 ≡ n = omega arith in ap (λ (m : ℕ). take (m * type_size) b) e ∙ sym (append-nil (take (n * type_size) b))
rows b (suc k) n =
    let e : n + suc k ≡ suc n + k = omega arith in
    ap (λ (m : ℕ). take (m * type_size) b) e ∙ rows b k (suc n) ∙ ap (λ (x : List ℕ). x ++ flatten (from k (suc n) (record_at b))) (next b n)
    ∙ append_assoc (take (n * type_size) b) (record_at b n) (flatten (from k (suc n) (record_at b)))

drop-from : {A : Type 0} (f : ℕ → A) (n k i : ℕ) → drop n (from (n + k) i f) ≡ from k (i + n) f
unfolding from
drop-from f zero k i = let e : 0 + k ≡ k = omega arith in let g : i ≡ i + 0 = omega arith in ap (λ (m : ℕ). from m i f) e ∙ ap (λ (m : ℕ). from k m f) g
drop-from f (suc n) k i =
    let e : suc n + k ≡ suc (n + k) = omega arith in
    let g : suc i + n ≡ i + suc n = omega arith in
    ap (λ (m : ℕ). drop (suc n) (from m i f)) e ∙ drop-from f n k (suc i) ∙ ap (λ (m : ℕ). from k m f) g

-- Old records kept and new ones exact: every counted byte.
pub exact-take : (c : Counts) (n m : ℕ) (b b' : List ℕ) → n ≤ m → Kept n b b' → Exact c n m b'
    → take (m * type_size) b' ≡ take (n * type_size) b ++ flatten (map bytes_of (drop n (types_to c.methods c.sheet m (types_in b'))))
unfolding types_to
exact-take c n m b b' h kept exact =
    let f : ℕ → Ty = λ i. type_of c.methods c.sheet i (get_or (types_in b') i no_raw_type) in
    let e : m ≡ n + (m - n) = omega arith in
    let z : 0 + n ≡ n = omega arith in
    ap (λ (k : ℕ). take (k * type_size) b') e ∙ rows b' (m - n) n ∙ ap (λ (x : List ℕ). x ++ flatten (from (m - n) n (record_at b'))) (kept-take n b b' kept)
    ∙ ap (λ (x : List (List ℕ)). take (n * type_size) b ++ flatten x)
    (from-same (record_at b') (λ i. bytes_of (f i)) (m - n) n (λ i p q. exact i p (omega arith)) ∙ sym (map-from bytes_of f (m - n) n)
    ∙ ap (map bytes_of) (ap (λ (k : ℕ). from (m - n) k f) (sym z) ∙ sym (drop-from f n (m - n) 0) ∙ ap (λ (k : ℕ). drop n (from k 0 f)) (sym e)))
