-- From bytes to records: where a record stands, and what storing one does to the list of records.
use mathlib.Core.Path.{◌≡◌, refl, sym, ap, ◌∙◌, subst}
use mathlib.Core.Logic.{⊎_elim}
use mathlib.Core.List.{List, [], ◌∷◌, ◌++◌, map}
use Prim.Native.Nat.{ℕ, zero, suc, ◌+◌, ◌*◌, ◌≤◌, ◌<◌}
use native.Mathlib.Nat.{le_of_suc-le-suc, not-suc-le-zero}
use native.Mathlib.Numerals.{add-one}
use native.Mathlib.Omega.{arith}
use lib.ListN.{length, get_or, set, length-set, take, length-map, get_or-append, get_or-map}
use lib.Seq.{sets, ext_get_or, get_or-set_same, get_or-set_other, length-sets, get_or-append-add, length-take-le}
use Rattle.spec_model.specs.Basics.{from}
use Rattle.spec_model.specs.Check.{RawMethod, RawType, RawLinks, no_raw_type, no_raw_method}
use Rattle.spec_model.specs.Table.{max_methods, max_categories, max_types}
use Rattle.spec_model.specs.Records.{argument_slots}
use Rattle.table_record.specs.declared.Method.{Method}
use Rattle.table_record.specs.declared.Head.{Head}
use Rattle.table_record.specs.Store.{head_of, raw_method_at, raw_methods_at, raw_type_at, raw_links_at, types_in, links_in, raw_method, raw_of, method_bytes, methods_bytes, head_bytes, spare_bytes}
use Rattle.table_record.specs.Store.{raw_in, record_bytes, Shaped, Put}
use Rattle.table_record.proofs.Lists.{lt-or-ge, same_or, length_from, from_first, from-same, is-from, sets-append, get_or-sets-below, get_or-sets-above, get_or-sets-in}
use Rattle.table_record.specs.Layout.{type_size, head_numbers, spare_size, head_size, method_size, link_size, types_size}

-- Where a type, its methods and the links of a category stand.
pub types-length : (b : List ℕ) → length (types_in b) ≡ max_types
unfolding types_in
types-length b = length_from (λ i. raw_type_at b (i * type_size)) max_types 0

pub type-in : (b : List ℕ) (i : ℕ) (d : RawType) → i < max_types → get_or (types_in b) i d ≡ raw_type_at b (i * type_size)
unfolding types_in
type-in b i d h = from_first (λ i. raw_type_at b (i * type_size)) max_types i d h

pub methods-length : (b : List ℕ) (i : ℕ) → i < max_types → length (get_or (types_in b) i no_raw_type).methods ≡ max_methods
unfolding raw_methods_at
methods-length b i h = ap (λ (t : RawType). length t.methods) (type-in b i no_raw_type h) ∙ length_from (λ j. raw_method_at b (i * type_size + head_size + j * method_size)) max_methods 0

pub method-in : (b : List ℕ) (i j : ℕ) → i < max_types → j < max_methods → raw_in b i j ≡ raw_method_at b (i * type_size + head_size + j * method_size)
unfolding raw_methods_at
method-in b i j p q = ap (λ (t : RawType). get_or t.methods j no_raw_method) (type-in b i no_raw_type p) ∙ from_first (λ j. raw_method_at b (i * type_size + head_size + j * method_size))
    max_methods j no_raw_method q

pub at_zero : (b : List ℕ) (at : ℕ) → get_or b (at + 0) 0 ≡ get_or b at 0
at_zero b at = let e : at + 0 ≡ at = omega arith in ap (λ (k : ℕ). get_or b k 0) e

-- the same, read from where its bytes were said to begin, and the slots of its arguments
pub method-read : (b : List ℕ) (i j at : ℕ) → i < max_types → j < max_methods → at ≡ i * type_size + head_size + j * method_size → raw_method_at b at ≡ raw_in b i j
method-read b i j at p q e = ap (raw_method_at b) e ∙ sym (method-in b i j p q)

pub slots_length : (b : List ℕ) (i j : ℕ) → i < max_types → j < max_methods → length (raw_in b i j).args ≡ argument_slots
slots_length b i j p q = ap (λ (m : RawMethod). length m.args) (method-in b i j p q)

pub slot_at : (b : List ℕ) (at k : ℕ) → k < argument_slots → get_or b (at + 2 + k) 0 ≡ get_or (raw_method_at b at).args k 0
slot_at b at zero h = at_zero b (at + 2)
slot_at b at (suc zero) h = let e : at + 2 + 1 ≡ at + 3 = omega arith in ap (λ (n : ℕ). get_or b n 0) e
slot_at b at (suc (suc zero)) h = let e : at + 2 + 2 ≡ at + 4 = omega arith in ap (λ (n : ℕ). get_or b n 0) e
slot_at b at (suc (suc (suc zero))) h = let e : at + 2 + 3 ≡ at + 5 = omega arith in ap (λ (n : ℕ). get_or b n 0) e
slot_at b at (suc (suc (suc (suc k)))) h = let z : ⊥ = omega arith in absurd z

pub links-length : (l : List ℕ) → length (links_in l) ≡ suc max_categories
unfolding links_in
links-length l = length_from (λ k. raw_links_at l (k * link_size)) (suc max_categories) 0

pub links-in : (l : List ℕ) (k : ℕ) (d : RawLinks) → k < suc max_categories → get_or (links_in l) k d ≡ raw_links_at l (k * link_size)
unfolding links_in
links-in l k d h = from_first (λ k. raw_links_at l (k * link_size)) (suc max_categories) k d h

-- what stands for a method past the end of a list of the code's
abbrev pub absent : Method
absent = record { state = 0; count = 0; args = []; answer = 0 }

-- methods of the code that are those of a record
pub methods-are : (ms : List Method) (rs : List RawMethod) → length ms ≡ max_methods → length rs ≡ max_methods → ((k : ℕ) → k < max_methods → raw_method (get_or ms k absent) ≡ get_or rs k no_raw_method)
    → map raw_method ms ≡ rs
methods-are ms rs e f h =
    ext_get_or no_raw_method (map raw_method ms) rs (length-map ms raw_method ∙ e ∙ sym f)
    (λ k p. let q : k < max_methods = subst (λ (n : ℕ). k < n) (length-map ms raw_method ∙ e) p in get_or-map raw_method ms k absent ∙ h k q)

-- a type of the code, put together from a record's head and methods, is the record
pub read_is : (x : RawType) (h : Head) (ms : List Method) → h ≡ head_of x → map raw_method ms ≡ x.methods → raw_of (record { head = h; methods = ms }) ≡ x
read_is x h ms e f =
    ap (λ (l : List RawMethod). let r : RawType = record { rep = h.rep; cat = h.cat; own = h.own; kind = h.kind; left = h.left; right = h.right; methods = l } in r) f
    ∙ ap (λ (g : Head). let r : RawType = record { rep = g.rep; cat = g.cat; own = g.own; kind = g.kind; left = g.left; right = g.right; methods = x.methods } in r) e

-- The bytes of a run of methods, seven to each.
pub bytes-snoc : (ms : List RawMethod) (j : ℕ) → j < length ms → methods_bytes (take (suc j) ms) ≡ methods_bytes (take j ms) ++ method_bytes (get_or ms j no_raw_method)
bytes-snoc [] j h = absurd (not-suc-le-zero h)
bytes-snoc (m ∷ ms) zero h = refl
bytes-snoc (m ∷ ms) (suc j) h = ap (λ l. method_bytes m ++ l) (bytes-snoc ms j (le_of_suc-le-suc h))

pub bytes-length : (ms : List RawMethod) → length (methods_bytes ms) ≡ length ms * method_size
bytes-length [] = refl
bytes-length (m ∷ ms) = let e : length (methods_bytes ms) ≡ length ms * method_size = bytes-length ms in omega arith

-- one method more is stored behind those before it
pub run_more : (b : List ℕ) (at : ℕ) (ms : List RawMethod) (j : ℕ) (now next : List ℕ) → j < length ms → now ≡ sets b at (methods_bytes (take j ms))
    → next ≡ sets now (at + j * method_size) (method_bytes (get_or ms j no_raw_method)) → next ≡ sets b at (methods_bytes (take (j + 1) ms))
run_more b at ms j now next h e f =
    let k : length (methods_bytes (take j ms)) ≡ j * method_size = bytes-length (take j ms) ∙ ap (λ (n : ℕ). n * method_size) (length-take-le j ms (omega arith)) in
    f ∙ ap (λ (x : List ℕ). sets x (at + j * method_size) (method_bytes (get_or ms j no_raw_method))) e
    ∙ ap (λ (n : ℕ). sets (sets b at (methods_bytes (take j ms))) (at + n) (method_bytes (get_or ms j no_raw_method))) (sym k)
    ∙ sym (sets-append b at (methods_bytes (take j ms)) (method_bytes (get_or ms j no_raw_method)))
    ∙ ap (sets b at) (sym (bytes-snoc ms j h)) ∙ ap (λ (n : ℕ). sets b at (methods_bytes (take n ms))) (sym (add-one j))

bytes-at : (ms : List RawMethod) (j k : ℕ) → j < length ms → k < method_size → get_or (methods_bytes ms) (j * method_size + k) 0 ≡ get_or (method_bytes (get_or ms j no_raw_method)) k 0
bytes-at [] j k h l = absurd (not-suc-le-zero h)
bytes-at (m ∷ ms) zero k h l = let e : 0 * method_size + k ≡ k = omega arith in ap (λ (x : ℕ). get_or (method_bytes m ++ methods_bytes ms) x 0) e ∙ get_or-append (method_bytes m) (methods_bytes ms) 0 k l
bytes-at (m ∷ ms) (suc j) k h l =
    let e : suc j * method_size + k ≡ method_size + (j * method_size + k) = omega arith in
    ap (λ (x : ℕ). get_or (method_bytes m ++ methods_bytes ms) x 0) e ∙ get_or-append-add (method_bytes m) (methods_bytes ms) (j * method_size + k) 0 ∙ bytes-at ms j k (le_of_suc-le-suc h) l

-- Records by their parts.
unfoldable pub mk : ℕ → ℕ → ℕ → ℕ → ℕ → ℕ → ℕ → RawMethod
mk s n a₀ a₁ a₂ a₃ r = record { state = s; count = n; args = a₀ ∷ a₁ ∷ a₂ ∷ a₃ ∷ []; answer = r }

pub mk-eq : {s n a₀ a₁ a₂ a₃ r s' n' b₀ b₁ b₂ b₃ r' : ℕ} → s ≡ s' → n ≡ n' → a₀ ≡ b₀ → a₁ ≡ b₁ → a₂ ≡ b₂ → a₃ ≡ b₃ → r ≡ r'
    → mk s n a₀ a₁ a₂ a₃ r ≡ mk s' n' b₀ b₁ b₂ b₃ r'
mk-eq p₀ p₁ p₂ p₃ p₄ p₅ p₆ = cc

unfoldable pub mk_t : ℕ → ℕ → ℕ → ℕ → ℕ → ℕ → List RawMethod → RawType
mk_t a b c d e f ms = record { rep = a; cat = b; own = c; kind = d; left = e; right = f; methods = ms }

pub mk_t-eq : {a b c d e f a' b' c' d' e' f' : ℕ} {m m' : List RawMethod} → a ≡ a' → b ≡ b' → c ≡ c' → d ≡ d' → e ≡ e' → f ≡ f' → m ≡ m'
    → mk_t a b c d e f m ≡ mk_t a' b' c' d' e' f' m'
mk_t-eq p₀ p₁ p₂ p₃ p₄ p₅ p₆ = cc

-- n bytes of one list from `at` on are those of another from `at'` on
unfoldable pub Agree : List ℕ → ℕ → List ℕ → ℕ → ℕ → Type 0
Agree b at b' at' n = (p : ℕ) → p < n → get_or b (at + p) 0 ≡ get_or b' (at' + p) 0

module _ (b : List ℕ) (at : ℕ) (b' : List ℕ) (at' n : ℕ) where
  agree-first : Agree b at b' at' n → 0 < n → get_or b at 0 ≡ get_or b' at' 0
  unfolding Agree
  agree-first h p = sym (at_zero b at) ∙ h 0 p ∙ at_zero b' at'

  agree-part : (k m : ℕ) → k + m ≤ n → Agree b at b' at' n → Agree b (at + k) b' (at' + k) m
  unfolding Agree
  agree-part k m q h p l =
      let e : at + k + p ≡ at + (k + p) = omega arith in
      let e' : at' + k + p ≡ at' + (k + p) = omega arith in
      ap (λ (x : ℕ). get_or b x 0) e ∙ h (k + p) (omega arith) ∙ ap (λ (x : ℕ). get_or b' x 0) (sym e')

method-agree : (b : List ℕ) (at : ℕ) (b' : List ℕ) (at' : ℕ) → Agree b at b' at' 7 → raw_method_at b at ≡ raw_method_at b' at'
unfolding Agree mk
method-agree b at b' at' h =
    mk-eq (agree-first b at b' at' 7 h (omega arith)) (h 1 (omega arith)) (h 2 (omega arith)) (h 3 (omega arith)) (h 4 (omega arith)) (h 5 (omega arith)) (h 6 (omega arith))

pub type-agree : (b : List ℕ) (at : ℕ) (b' : List ℕ) (at' : ℕ) → Agree b at b' at' type_size → raw_type_at b at ≡ raw_type_at b' at'
unfolding Agree mk_t raw_methods_at
type-agree b at b' at' h =
    mk_t-eq (agree-first b at b' at' type_size h (omega arith)) (h 1 (omega arith)) (h 2 (omega arith)) (h 3 (omega arith)) (h 4 (omega arith)) (h 5 (omega arith))
    (from-same (λ j. raw_method_at b (at + head_size + j * method_size)) (λ j. raw_method_at b' (at' + head_size + j * method_size)) max_methods 0
    (λ j p l. let e : at + head_size + j * method_size ≡ at + (head_size + j * method_size) = omega arith in
    let e' : at' + head_size + j * method_size ≡ at' + (head_size + j * method_size) = omega arith in
    ap (raw_method_at b) e ∙ method-agree b (at + (head_size + j * method_size)) b' (at' + (head_size + j * method_size))
    (agree-part b at b' at' type_size (head_size + j * method_size) method_size (omega arith) h) ∙ ap (raw_method_at b') (sym e')))

-- A type's own bytes, read back.
pub four : (l : List ℕ) → length l ≡ argument_slots → get_or l 0 0 ∷ get_or l 1 0 ∷ get_or l 2 0 ∷ get_or l 3 0 ∷ [] ≡ l
four l e = ext_get_or 0 (get_or l 0 0 ∷ get_or l 1 0 ∷ get_or l 2 0 ∷ get_or l 3 0 ∷ []) l (sym e) go
  where
    go : (i : ℕ) → i < 4 → get_or (get_or l 0 0 ∷ get_or l 1 0 ∷ get_or l 2 0 ∷ get_or l 3 0 ∷ []) i 0 ≡ get_or l i 0
    go zero p = refl
    go (suc zero) p = refl
    go (suc (suc zero)) p = refl
    go (suc (suc (suc zero))) p = refl
    go (suc (suc (suc (suc i)))) p = absurd (not-suc-le-zero (le_of_suc-le-suc (le_of_suc-le-suc (le_of_suc-le-suc (le_of_suc-le-suc p)))))

method-own : (m : RawMethod) → length m.args ≡ argument_slots → raw_method_at (method_bytes m) 0 ≡ m
method-own m e = ap (λ (l : List ℕ). let r : RawMethod = record { state = m.state; count = m.count; args = l; answer = m.answer } in r) (four m.args e)

-- head, spare bytes and methods stored one behind the other are the record stored
pub record-parts : (b : List ℕ) (at : ℕ) (x : RawType) → sets (sets (sets b at (head_bytes (head_of x))) (at + head_numbers) spare_bytes) (at + head_size) (methods_bytes x.methods)
    ≡ sets b at (record_bytes x)
unfolding record_bytes
record-parts b at x =
    let h : List ℕ = head_bytes (head_of x) in
    let m : List ℕ = methods_bytes x.methods in
    let e : at + head_numbers + spare_size ≡ at + head_size = omega arith in
    ap (λ (k : ℕ). sets (sets (sets b at h) (at + head_numbers) spare_bytes) k m) (sym e)
    ∙ sym (sets-append (sets b at h) (at + head_numbers) spare_bytes m) ∙ sym (sets-append b at h (spare_bytes ++ m))

module _ (x : RawType) (s : Shaped x) where
  pub record-length : length (record_bytes x) ≡ type_size
  unfolding record_bytes
  record-length = let e : length (methods_bytes x.methods) ≡ 112 = bytes-length x.methods ∙ ap (λ (n : ℕ). n * method_size) s.methods in omega arith

  own-method : (j : ℕ) → j < max_methods → raw_method_at (record_bytes x) (head_size + j * method_size) ≡ get_or x.methods j no_raw_method
  unfolding record_bytes Agree
  own-method j h =
      let f : List ℕ = head_bytes (head_of x) ++ spare_bytes in
      let q : j < length x.methods = omega (arith, s.methods) in
      method-agree (record_bytes x) (head_size + j * method_size) (method_bytes (get_or x.methods j no_raw_method)) 0
      (λ p l. let g : head_size + j * method_size + p ≡ head_size + (j * method_size + p) = omega arith in
      let z : 0 + p ≡ p = omega arith in
      ap (λ (k : ℕ). get_or (record_bytes x) k 0) g ∙ get_or-append-add f (methods_bytes x.methods) (j * method_size + p) 0 ∙ bytes-at x.methods j p q l
      ∙ ap (λ (k : ℕ). get_or (method_bytes (get_or x.methods j no_raw_method)) k 0) (sym z))
      ∙ method-own (get_or x.methods j no_raw_method) (s.slots j h)

  -- a record's own bytes, read back
  pub record-own : raw_type_at (record_bytes x) 0 ≡ x
  unfolding record_bytes mk_t raw_methods_at
  record-own =
      mk_t-eq refl refl refl refl refl refl
      (is-from (λ j. raw_method_at (record_bytes x) (0 + head_size + j * method_size)) max_methods no_raw_method x.methods s.methods (λ j l. sym (own-method j l)))

-- A record's bytes stored at `at`: it stands there, and nothing else changes.
module _ (b : List ℕ) (at : ℕ) (x : RawType) (s : Shaped x) where
  below : (k : ℕ) → k < at → get_or (sets b at (record_bytes x)) k 0 ≡ get_or b k 0
  below k h = get_or-sets-below b at (record_bytes x) k 0 h

  above : (k : ℕ) → at + type_size ≤ k → get_or (sets b at (record_bytes x)) k 0 ≡ get_or b k 0
  above k h = let e : length (record_bytes x) ≡ type_size = record-length x s in get_or-sets-above b at (record_bytes x) k 0 (omega arith)

  stands : at + type_size ≤ length b → raw_type_at (sets b at (record_bytes x)) at ≡ x
  unfolding Agree
  stands room =
      let e : length (record_bytes x) ≡ type_size = record-length x s in
      type-agree (sets b at (record_bytes x)) at (record_bytes x) 0
      (λ p l. let z : 0 + p ≡ p = omega arith in get_or-sets-in b at (record_bytes x) p 0 (omega arith) (omega arith) ∙ ap (λ (k : ℕ). get_or (record_bytes x) k 0) (sym z))
      ∙ record-own x s

-- Storing a record is storing it in the list of records.
pub stored : (b : List ℕ) (i : ℕ) (x : RawType) → length b ≡ types_size → i < max_types → Shaped x → types_in (sets b (i * type_size) (record_bytes x)) ≡ set (types_in b) i x
unfolding types_in Agree
stored b i x eb hi s =
    let b' : List ℕ = sets b (i * type_size) (record_bytes x) in
    let f : ℕ → RawType = λ k. raw_type_at b (k * type_size) in
    let own : raw_type_at b' (i * type_size) ≡ x = stands b (i * type_size) x s (omega arith) in
    let other : (k : ℕ) → (k ≡ i → ⊥) → raw_type_at b (k * type_size) ≡ raw_type_at b' (k * type_size) =
    λ k ne. type-agree b (k * type_size) b' (k * type_size)
    (λ p l. ⊎_elim
    (λ (lt : k < i). sym (below b (i * type_size) x s (k * type_size + p) (omega arith)))
    (λ (ge : i ≤ k). let gt : i < k = omega (arith, ne) in sym (above b (i * type_size) x s (k * type_size + p) (omega arith)))
    (lt-or-ge k i)) in
    is-from (λ k. raw_type_at b' (k * type_size)) max_types x (set (from max_types 0 f) i x) (length-set (from max_types 0 f) i x ∙ length_from f max_types 0)
    (λ k l. ⊎_elim
    (λ (e : k ≡ i). ap (λ (n : ℕ). get_or (set (from max_types 0 f) i x) n x) e ∙ get_or-set_same (from max_types 0 f) i x x (rw (length_from f max_types 0) hi) ∙ sym own
    ∙ ap (λ (n : ℕ). raw_type_at b' (n * type_size)) (sym e))
    (λ (ne : k ≡ i → ⊥). get_or-set_other (from max_types 0 f) i k x x ne ∙ from_first f max_types k x l ∙ other k ne)
    (same_or k i))

-- What `put_type` promises, as its callers use it.
module _ {b : List ℕ} {i : ℕ} {x : RawType} {b' : List ℕ} (w : Put b i x b') where
  pub put-length : length b' ≡ length b
  put-length = ap length w.bytes ∙ length-sets b (i * type_size) (record_bytes x)

  pub put-types : length b ≡ types_size → i < max_types → types_in b' ≡ set (types_in b) i x
  put-types e h = ap types_in w.bytes ∙ stored b i x e h w.shaped
