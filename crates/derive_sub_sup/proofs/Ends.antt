-- A derivation from its beginning to its end: what is settled at once, and a new type, from the store of the type at work to that of the finished one.
use mathlib.Core.Path.{◌≡◌, refl, sym, ap, ◌∙◌, subst}
use mathlib.Core.Bool.{Bool, So, true, false, cond}
use mathlib.Core.List.{List, [], ◌∷◌, ◌++◌, map, flatten}
use mathlib.Core.Option.{none, some}
use mathlib.Core.Option.{Option as Optionᵐ}
use Rattle.std.specs.Prelude.{Option, None, Some}
use mathlib.Core.Logic.{⊎_elim}
use Prim.Native.Nat.{ℕ, zero, suc, ◌+◌, ◌*◌, ◌≤◌, ◌<◌}
use native.Mathlib.Omega.{arith}
use native.Mathlib.Numerals.{add-one}
use lib.Dec.{ltb}
use lib.ListN.{length, get_or, set, take, drop, replicate, get_or-eq_default}
use lib.Seq.{get_or-set_same, get_or-set_other}
use borrow.Author.Tests.{lt-ltb, le-ltb}
use Rattle.spec_model.specs.Basics.{Res, refuse, ok, then, from}
use Rattle.spec_model.specs.Table.{Rep, ref, w32, w64, Kind, sub, sup, closed, Method, Ty, Table, no_method, no_type, size, type_at, with_types, is_ref, permit}
use Rattle.spec_model.specs.Table.{Key as Keyᵐ, max_methods, max_types}
use Rattle.spec_model.specs.Restriction.{arg_kind, answer_kind, main_side, without_new, entry, pending, Derivation, derive_methods, make, derive, derived}
use Rattle.spec_model.specs.Check.{RawMethod, RawType, no_raw_type, no_raw_method, rep_of, state_of, method_of, type_of, table_of, raw_method_fits, raw_type_fits}
use Rattle.spec_model.proofs.Rules.{never}
use Rattle.table_record.specs.declared.Counts.{Counts}
use Rattle.table_record.specs.declared.Key.{Key}
use Rattle.table_record.specs.declared.Kind.{Kind as Kindᵃ}
use Rattle.table_record.specs.declared.TypeRec.{TypeRec}
use Rattle.table_record.specs.Store.{kind_is, raw_method, raw_of, types_in, types_to, table_in, ref_in, with_count, empty_method, Put}
use Rattle.table_record.specs.Records.{bytes_of}
use Rattle.spec_model.proofs.Lists.{from-same}
use Rattle.spec_model.specs.Refusals.{types_full}
use Rattle.spec_model.specs.Records.{argument_slots}
use Rattle.table_record.proofs.Lists.{lt-or-ge, same_or}
use Rattle.table_record.proofs.Laws.{types-length, methods-length, method-in, put-length, put-types}
use Rattle.table_record.proofs.Tables.{types-to-length, types-to-at, types-add, types-put, types_of, size_is, ref-below}
use Rattle.table_record.specs.Layout.{type_size}
use Rattle.derive_slots.specs.declared.Slot.{Slot}
use Rattle.derive_slots.specs.declared.Slot.TheVariants.{Empty, Argument, Answer}
use Rattle.derive_slots.specs.Slots.{Low, slot_at, method_at, slots_size}
use Rattle.derive_type.specs.NewType.{Work, shared, fill_at, method_in, kind_in, main_of, new_record, pending_record, Finished}
use Rattle.derive_record.specs.Begins.{Derived, Begins, Opened, Stored, tabled}
use Rattle.derive_sub_sup.specs.Link.{Ready, Writes, record_at, Kept, ExactAt, Exact, ExactTo, Sized, Leaves, Coded, Derives, Gives, derived_in, derivation_in}
use Rattle.derive_type.proofs.Laws.{code-back}
use Rattle.derive_type.proofs.Runs.{Row, methods-run}
use Rattle.derive_record.proofs.Begins.{ref-rep}
use Rattle.derive_sub_sup.proofs.Bytes.{record_same, exact_same, put-below, put-above, put-exact, kept-take, exact-take}
use Rattle.derive_sub_sup.proofs.Codes.{denied-coded, methods-coded, new_coded, codes-stay}
use Rattle.derive_sub_sup.proofs.Turns.{zeros, end, slot_in, Whole, Comes, Run, run-starts, run-ends, Turn, turn-empty}
use Rattle.derive_sub_sup.proofs.Turns.{argument-full, argument-low, argument-turn, answer-full, answer-low, answer-turn}

-- What needs no new type.
module _ (T : Table) where
  by-known : (i : ℕ) (rest : Optionᵐ (Table × ℕ)) (o : Optionᵐ ℕ) → o ≡ some i → ◌≡◌ {A = Optionᵐ (Table × ℕ)} (some (T, i)) (elim o [ some i ↦ some (T, i) | none ↦ rest ])
  by-known i rest o e = sym (ap (λ (z : Optionᵐ ℕ). elim z as (λ _. Optionᵐ (Table × ℕ)) [ some i ↦ some (T, i) | none ↦ rest ]) e)

  by-new : (rest : Optionᵐ (Table × ℕ)) (o : Optionᵐ ℕ) → o ≡ none → ◌≡◌ {A = Optionᵐ (Table × ℕ)} (elim o [ some i ↦ some (T, i) | none ↦ rest ]) rest
  by-new rest o e = ap (λ (z : Optionᵐ ℕ). elim z as (λ _. Optionᵐ (Table × ℕ)) [ some i ↦ some (T, i) | none ↦ rest ]) e

by-room : (rest : Optionᵐ (Table × ℕ)) (b : Bool) → b ≡ false → ◌≡◌ {A = Optionᵐ (Table × ℕ)} (elim b [ false ↦ none | true ↦ rest ]) none
by-room rest b e = ap (λ (z : Bool). elim z as (λ _. Optionᵐ (Table × ℕ)) [ false ↦ none | true ↦ rest ]) e

module _ (T : Table) (d : Kind) (t s : ℕ) where
  derive-known : (i f : ℕ) → without_new T d t s ≡ some i → some (T, i) ≡ derive f T d t s
  unfolding derive make
  derive-known i zero e = by-known T i none (without_new T d t s) e
  derive-known i (suc f) e = by-known T i _ (without_new T d t s) e

  derive-full : (f : ℕ) → without_new T d t s ≡ none → max_types ≤ size T → none ≡ derive f T d t s
  unfolding derive make
  derive-full zero e h = sym (by-new T none (without_new T d t s) e)
  derive-full (suc f) e h = sym (by-new T _ (without_new T d t s) e ∙ by-room _ (ltb (size T) max_types) (le-ltb (size T) max_types h))

  -- The methods of a type that is not known are derived on the table with its number taken, and stored at that number.
  abbrev pub Last : ℕ → Optionᵐ (Table × List Method) → Optionᵐ (Table × ℕ)
  Last k o = then o λ p. some (with_types p.0 (set p.0.types k (entry T d t s p.1)), k)

  abbrev pub Methods : Derivation → Optionᵐ (Table × List Method)
  Methods rec = derive_methods rec d (with_types T (T.types ++ (pending T d t s ∷ []))) (type_at T t).methods (type_at T s).methods

  pub make-new : (n : ℕ) → without_new T d t s ≡ none → size T ≡ n → n < max_types → (rec : Derivation) → make rec T d t s ≡ Last n (Methods rec)
  unfolding make
  make-new n unknown is room rec =
      by-new T (elim (ltb (size T) max_types) as (λ _. Optionᵐ (Table × ℕ)) [ false ↦ none | true ↦ Last (size T) (Methods rec) ]) (without_new T d t s) unknown
      ∙ ap (λ (k : ℕ). elim (ltb k max_types) as (λ _. Optionᵐ (Table × ℕ)) [ false ↦ none | true ↦ Last k (Methods rec) ]) is
      ∙ ap (λ (a : Bool). elim a as (λ _. Optionᵐ (Table × ℕ)) [ false ↦ none | true ↦ Last n (Methods rec) ]) (lt-ltb n max_types room)

pub size-tabled : (T : Table) (c : Counts) (n : ℕ) (b : List ℕ) → size (tabled T c n b) ≡ n
size-tabled T c n b = types-to-length c.methods c.sheet (types_in b) n

abbrev Without : Kind → Counts → ℕ → ℕ → ℕ → List ℕ → Table → Optionᵐ ℕ
Without d c n t s b T = without_new (tabled T c n b) d t s

module _ (d : Kind) {c : Counts} {n t s : ℕ} {b : List ℕ} (asked : Ready c n t s b) where
  by_answer : (r : Derived) → Begins (Without d c n t s b) n t s b (Some r) → Gives d c n t s b b r
  by_answer None h = record {
    keeps = record { long = asked.long; kept = λ i l. refl; sized = tt };
    is = λ T e f l. derive-full (tabled T c n b) d t s f (h.0 T) (let z = size-tabled T c n b in let y = h.1 in omega arith);
    exact = tt;
    coded = λ h. tt;
  }
  by_answer (Some p) h = let e : p.1 ≡ n = h.1 in let u = asked.limits.types in record {
    keeps = record { long = asked.long; kept = λ i l. refl; sized = (omega arith, omega arith, λ z u q r. h.2 z (omega arith) q r) };
    is = λ T et f l. ap (λ (k : ℕ). some (tabled T c k b, p.0)) e ∙ derive-known (tabled T c n b) d t s p.0 f (h.0 T);
    exact = λ j u q. absurd (omega arith);
    coded = λ h j l. h j (omega arith);
  }

  pub settled : {g : Option Derived} {r : Derived} → g ≡ Some r → Begins (Without d c n t s b) n t s b g → Gives d c n t s b b r
  settled {r = r} e h = by_answer r (subst (Begins (Without d c n t s b) n t s b) e h)

  module _ {g : Option Derived} (e : g ≡ None) (h : Begins (Without d c n t s b) n t s b g) where
    new-begins : Begins (Without d c n t s b) n t s b None
    new-begins = subst (Begins (Without d c n t s b) n t s b) e h

-- A new type: what is known when the type at work has been stored.
pub record Started (d : Kind) (c : Counts) (n t s : ℕ) (w : Work) (b b₀ : List ℕ) : Type 0 where
  pub asked : Ready c n t s b
  pub room : n < max_types
  pub kinds : kind_in w ≡ d
  pub key_left : w.key.left ≡ t
  pub key_right : w.key.right ≡ s
  pub new : (T : Table) → without_new (tabled T c n b) d t s ≡ none
  pub left : ref_in n b t ≡ true
  pub right : ref_in n b s ≡ true
  pub left_record : raw_of w.left ≡ get_or (types_in b) t no_raw_type
  pub right_record : raw_of w.right ≡ get_or (types_in b) s no_raw_type
  pub put : Put b n (pending_record w) b₀

-- four arguments at most
shared-left : (xs ys : List ℕ) → shared xs ys ≤ length xs
shared-left [] ys = omega arith
shared-left (x ∷ xs) [] = omega arith
shared-left (x ∷ xs) (y ∷ ys) = let h = shared-left xs ys in omega arith

take-le : (c : ℕ) (l : List ℕ) → length (take c l) ≤ length l
take-le zero l = omega arith
take-le (suc c) [] = omega arith
take-le (suc c) (x ∷ l) = let h = take-le c l in omega arith

raw-four : (b : List ℕ) (t j : ℕ) → t < max_types → length (get_or (get_or (types_in b) t no_raw_type).methods j no_raw_method).args ≤ argument_slots
raw-four b t j h = ⊎_elim
    (λ (l : j < max_methods). let e : length (get_or (get_or (types_in b) t no_raw_type).methods j no_raw_method).args ≡ argument_slots = ap (λ (m : RawMethod). length m.args)
    (method-in b t j h l) in omega arith)
    (λ (l : max_methods ≤ j). let g = methods-length b t h in
    let e : length (get_or (get_or (types_in b) t no_raw_type).methods j no_raw_method).args ≡ 0 = ap (λ (m : RawMethod). length m.args)
    (get_or-eq_default (get_or (types_in b) t no_raw_type).methods no_raw_method {n = j} (omega arith)) in omega arith)
    (lt-or-ge j max_methods)

method-four : (m : RawMethod) → length m.args ≤ argument_slots → length (method_of m).args ≤ argument_slots
method-four m h = go (permit (state_of m.state))
  where
    go : (b : Bool) → length (cond b (take m.count m.args) []) ≤ argument_slots
    go true = let e = take-le m.count m.args in omega arith
    go false = omega arith

-- every method of a type at work is denied
pending-method : (j : ℕ) → method_of (get_or (map raw_method (replicate max_methods empty_method)) j no_raw_method) ≡ no_method
pending-method j = go max_methods j
  where
    go : (n j : ℕ) → method_of (get_or (map raw_method (replicate n empty_method)) j no_raw_method) ≡ no_method
    go zero j = refl
    go (suc n) zero = refl
    go (suc n) (suc j) = go n j

zero-at : (n i : ℕ) → ◌≡◌ {A = ℕ} (get_or (replicate n 0) i 0) 0
zero-at zero i = refl
zero-at (suc n) zero = refl
zero-at (suc n) (suc i) = zero-at n i

is-ref : (r : Rep) → is_ref r ≡ true → r ≡ ref
is-ref ref h = refl
is-ref w32 h = never h
is-ref w64 h = never h

-- a type by its parts
ty-eq : {r r' : Rep} {c c' : ℕ} {ms ms' : List Method} {k k' : Optionᵐ Keyᵐ} → r ≡ r' → c ≡ c' → ms ≡ ms' → k ≡ k'
    → ◌≡◌ {A = Ty} (record { rep = r; cat = c; own = false; methods = ms; key = k }) (record { rep = r'; cat = c'; own = false; methods = ms'; key = k' })
ty-eq p q r s = rw (p, q, r, s)

key-eq : (n sh : ℕ) → sh ≤ n → {d e : Kind} {l l' r r' : ℕ} → d ≡ e → l ≡ l' → r ≡ r'
    → ◌≡◌ {A = Optionᵐ Keyᵐ} (cond (ltb n sh) none (some (record { kind = d; left = l; right = r }))) (some (record { kind = e; left = l'; right = r' }))
key-eq n sh h p q r = rw (le-ltb n sh h, p, q, r)

-- a side that is a reference type, as it is read
module _ (T : Table) (c : Counts) (n : ℕ) (b : List ℕ) (i : ℕ) (z : TypeRec) (r : ref_in n b i ≡ true) (e : raw_of z ≡ get_or (types_in b) i no_raw_type) where
  read-type : type_at (tabled T c n b) i ≡ type_of c.methods c.sheet i (raw_of z)
  read-type = types-to-at c.methods c.sheet (types_in b) n i no_type (ref-below n i b r) ∙ ap (type_of c.methods c.sheet i) (sym e)

  read-ref : is_ref (rep_of z.head.rep) ≡ true
  read-ref = ap (λ (w : RawType). is_ref (rep_of w.rep)) e ∙ ref-rep n i b r

  side-methods : (type_at (tabled T c n b) i).methods ≡ from c.methods 0 (method_in z)
  side-methods = ap (λ (w : Ty). w.methods) read-type ∙ ap (λ (a : Bool). cond a (from c.methods 0 (method_in z)) []) read-ref

  side-is : ((type_at (tabled T c n b) i).rep ≡ ref) × ((type_at (tabled T c n b) i).cat ≡ z.head.cat)
  side-is = (ap (λ (w : Ty). w.rep) read-type ∙ is-ref (rep_of z.head.rep) read-ref, ap (λ (w : Ty). w.cat) read-type)

module _ {d : Kind} {c : Counts} {n t s : ℕ} {w : Work} {b b₀ : List ℕ} (from_start : Started d c n t s w b b₀) where
  abbrev x : TypeRec
  x = w.left

  abbrev y : TypeRec
  y = w.right

  abbrev ms : ℕ
  ms = c.methods

  abbrev sh : ℕ
  sh = c.sheet

  stored : types_in b₀ ≡ set (types_in b) n (pending_record w)
  stored = put-types from_start.put from_start.asked.long from_start.room

  few-args : (i : ℕ) → shared (method_in x i).args (method_in y i).args ≤ argument_slots
  few-args i =
      let p = ref-below n t b from_start.left in let q = from_start.room in
      let e = shared-left (method_in x i).args (method_in y i).args in
      let h : length (get_or (raw_of x).methods i no_raw_method).args ≤ argument_slots = subst (λ (r : RawType). length (get_or r.methods i no_raw_method).args ≤ argument_slots)
      (sym from_start.left_record)
      (raw-four b t i (omega arith)) in
      let g = method-four (get_or (raw_of x).methods i no_raw_method) h in omega arith

  -- nothing below the count was written
  start-kept : Kept n b b₀
  start-kept i l = put-below from_start.put from_start.asked.long from_start.room i (let r = from_start.room in omega arith) l

  -- The codes of the left side's methods, of the type at work, and of the finished one.
  side-coded : Coded c n b → (j : ℕ) → j < ms → So (raw_method_fits (get_or (raw_of x).methods j no_raw_method))
  side-coded h j l = subst (λ (r : RawType). So (raw_method_fits (get_or r.methods j no_raw_method))) (sym from_start.left_record)
      (methods-coded ms sh t (get_or (types_in b) t no_raw_type) (ref-rep n t b from_start.left) (h t (ref-below n t b from_start.left)) j l)

  start-coded : Coded c n b → Coded c (n + 1) b₀
  start-coded h i l = ⊎_elim
      (λ (p : i < n). subst (λ (r : RawType). So (raw_type_fits ms sh i r)) (sym (record_same b b₀ i (let r = from_start.room in omega arith) (start-kept i p))) (h i p))
      (λ (p : n ≤ i). let e : i ≡ n = omega arith in
      subst (λ (k : ℕ). So (raw_type_fits ms sh k (get_or (types_in b₀) k no_raw_type))) (sym e)
      (subst (λ (r : RawType). So (raw_type_fits ms sh n r)) (sym
      (ap (λ (rs : List RawType). get_or rs n no_raw_type) stored ∙ get_or-set_same (types_in b) n (pending_record w) no_raw_type (let z = types-length b in let r = from_start.room in omega arith)))
      (new_coded ms sh n w (map raw_method (replicate max_methods empty_method)) (λ j l. denied-coded max_methods j))))
      (lt-or-ge i n)

  finished-coded : Coded c n b → (z : TypeRec) {ns : List ℕ} → Finished w ms ns z → So (raw_type_fits ms sh n (raw_of z))
  finished-coded h z fin = subst (λ (r : RawType). So (raw_type_fits ms sh n r)) (sym fin.head)
      (new_coded ms sh n w (raw_of z).methods (λ j l. fin.coded j l (side-coded h j l)))

  start_run : Run d c n w b₀ b₀ zeros (n + 1) 0
  start_run = run-starts d c n w b₀ from_start.asked.limits from_start.kinds from_start.room (put-length from_start.put ∙ from_start.asked.long)

  -- Both sides stand in the bytes as they were read, so that a slot is that of the type at work; and what reading it asks.
  side-stays : {b₁ ns : List ℕ} {m k : ℕ} → Run d c n w b₀ b₁ ns m k → (i : ℕ) → i < n
      → get_or (types_in b₁) i no_raw_type ≡ get_or (types_in b) i no_raw_type
  side-stays {b₁} now i l =
      let r = from_start.room in
      record_same b₀ b₁ i (omega arith) (now.kept i (omega arith)) ∙ record_same b b₀ i (omega arith) (start-kept i l)

  slot_read : {b₁ ns : List ℕ} {m k : ℕ} → Run d c n w b₀ b₁ ns m k → {slot : Slot}
      → slot ≡ slot_at d (method_at b₁ t) (method_at b₁ s) k → slot ≡ slot_in (kind_in w) w k
  slot_read {b₁} {k = k} now told =
      let side : RawType → ℕ → Method = λ r j. method_of (get_or r.methods j no_raw_method) in
      told ∙ ap (λ (e : Kind). slot_at e (method_at b₁ t) (method_at b₁ s) k) (sym from_start.kinds)
      ∙ ap (λ (r : RawType). slot_at (kind_in w) (side r) (method_at b₁ s) k) (side-stays now t (ref-below n t b from_start.left) ∙ sym from_start.left_record)
      ∙ ap (λ (r : RawType). slot_at (kind_in w) (method_in x) (side r) k) (side-stays now s (ref-below n s b from_start.right) ∙ sym from_start.right_record)

  module _ (T : Table) (et : T.methods ≡ ms) where
    abbrev Tb : Table
    Tb = tabled T c n b

    -- the main side: a reference type, whose category is kept
    main-is : (k : Kind) → ((type_at Tb (main_side k t s)).rep ≡ ref) × ((type_at Tb (main_side k t s)).cat ≡ (main_of k x y).head.cat)
    main-is sub = side-is T c n b t x from_start.left from_start.left_record
    main-is sup = side-is T c n b s y from_start.right from_start.right_record
    main-is closed = side-is T c n b t x from_start.left from_start.left_record

    -- the record that is stored is the model's entry
    entry-is : (zs : List RawMethod) (ws : List Method) → from ms 0 (λ j. method_of (get_or zs j no_raw_method)) ≡ ws → type_of ms sh n (new_record w zs) ≡ entry Tb d t s ws
    entry-is zs ws e = ty-eq (sym (main-is d).0) (ap (λ (k : Kind). (main_of k x y).head.cat) from_start.kinds ∙ sym (main-is d).1) e
        (key-eq n sh from_start.asked.limits.counted (code-back (kind_in w) ∙ from_start.kinds) from_start.key_left from_start.key_right)

    pending-is : type_of ms sh n (pending_record w) ≡ pending Tb d t s
    pending-is =
        entry-is (map raw_method (replicate max_methods empty_method)) (from T.methods 0 (λ _. no_method))
        (from-same (λ j. method_of (get_or (map raw_method (replicate max_methods empty_method)) j no_raw_method)) (λ _. no_method) ms 0 (λ j p q. pending-method j) ∙ rw et)

    begun-is : with_types Tb (Tb.types ++ (pending Tb d t s ∷ [])) ≡ tabled T c (n + 1) b₀
    begun-is =
        ap (with_types T)
        (ap (λ (z : Ty). types_to ms sh n (types_in b) ++ (z ∷ [])) (sym pending-is)
        ∙ sym (types-add ms sh (types_in b) n (pending_record w) (let l = types-length b in let r = from_start.room in omega arith))
        ∙ ap (types_to ms sh (suc n)) (sym stored) ∙ ap (λ (k : ℕ). types_to ms sh k (types_in b₀)) (sym (add-one n)))

    -- the model's derivation of a new type is the run of its slots
    abbrev After : Optionᵐ Row → Optionᵐ (Table × ℕ)
    After o = then o λ q. some (with_types q.0 (set q.0.types n (entry Tb d t s (from ms 0 (fill_at d (method_in x) (method_in y) q.1)))), n)

    last-after : (o : Optionᵐ Row) → Last Tb d t s n (then o λ q. some (q.0, from ms 0 (fill_at d (method_in x) (method_in y) q.1))) ≡ After o
    last-after none = refl
    last-after (some q) = refl

    make-runs : (f : ℕ) → make (derive f) Tb d t s ≡ After (Whole d c n w b₀ T f)
    make-runs f =
        make-new Tb d t s n (from_start.new T) (size-tabled T c n b) from_start.room (derive f)
        ∙ ap (Last Tb d t s n)
        (ap (λ (u : Table). derive_methods (derive f) d u (type_at Tb t).methods (type_at Tb s).methods) begun-is
        ∙ ap (λ (l : List Method). derive_methods (derive f) d (tabled T c (n + 1) b₀) l (type_at Tb s).methods) (side-methods T c n b t x from_start.left from_start.left_record)
        ∙ ap (λ (l : List Method). derive_methods (derive f) d (tabled T c (n + 1) b₀) (from ms 0 (method_in x)) l) (side-methods T c n b s y from_start.right from_start.right_record)
        ∙ methods-run (derive f) d (method_in x) (method_in y) ms (tabled T c (n + 1) b₀) zeros few-args (let l = from_start.asked.limits.methods in omega arith) (zero-at slots_size))
        ∙ last-after (Whole d c n w b₀ T f)

    derive-runs : (f : ℕ) → max_types ≤ n + f → (o : Table → ℕ → Optionᵐ Row) → Comes d c n w b₀ o → (g : ℕ) × (derive f Tb d t s ≡ After (o T g))
    unfolding derive
    derive-runs zero h o all = let l = from_start.room in absurd (omega arith)
    derive-runs (suc f) h o all = (f, make-runs f ∙ ap After (all T et f (omega arith)))

  -- The table is full somewhere inside.
  new-full : {b₁ b' ns : List ℕ} {m k l r : ℕ} {g : Derived} → Run d c n w b₀ b₁ ns m k → Leaves m l r b₁ b' g
      → Comes d c n w b₀ (λ T f. none)
      → Gives d c n t s b b' None
  new-full now keeps all = record {
    keeps = record { long = keeps.long; kept = λ i l. keeps.kept i (let p = now.more in omega arith) ∙ now.kept i (omega arith) ∙ start-kept i l; sized = tt };
    is = λ T et f h. sym (derive-runs T et f h (λ T f. none) all).1;
    exact = tt;
    coded = λ h. tt;
  }

  -- The finished type is stored.
  new-at : {b₁ b' ns : List ℕ} {m k : ℕ} → Run d c n w b₀ b₁ ns m k → end c ≤ k → Stored w ms n ns b₁ b' → Gives d c n t s b b' (Some (n, m))
  new-at {b₁} {b'} {ns} {m} {k} now done put = record {
    keeps = record { long = put-length put.put ∙ now.long; kept = kept; sized = (let l = now.more in omega arith, now.most, λ z p q r. let l = now.more in omega arith) };
    is = λ T et f h. ap (λ (ts : List Ty). some (with_types T ts, n)) (types T et) ∙ sym (derive-runs T et f h (λ T f. some (tabled T c m b₁, ns)) (run-ends now done)).1;
    exact = exact;
    coded = coded;
  }
    where
      placed : types_in b' ≡ set (types_in b₁) n (raw_of put.z)
      placed = put-types put.put now.long from_start.room

      above : (i : ℕ) → n < i → i < m → record_at b' i ≡ record_at b₁ i
      above i p q = put-above put.put now.long from_start.room i (let l = now.most in omega arith) p

      exact : Exact c n m b'
      exact i p q = ⊎_elim
          (λ (l : n < i). exact_same c b₁ b' i (let o = now.most in omega arith) (above i l q) (now.exact i (omega arith) q))
          (λ (l : i ≤ n). let e : i ≡ n = omega arith in subst (ExactAt c b') (sym e)
          (put-exact put.put now.long from_start.room c (put.finished.exact sh n from_start.asked.limits.counted)))
          (lt-or-ge n i)

      coded : Coded c n b → Coded c m b'
      coded h i l = ⊎_elim
          (λ (e : i ≡ n). subst (λ (k : ℕ). So (raw_type_fits ms sh k (get_or (types_in b') k no_raw_type))) (sym e)
          (subst (λ (r : RawType). So (raw_type_fits ms sh n r))
          (sym (ap (λ (rs : List RawType). get_or rs n no_raw_type) placed ∙ get_or-set_same (types_in b₁) n (raw_of put.z) no_raw_type
          (let z = types-length b₁ in let r = from_start.room in omega arith)))
          (finished-coded h put.z put.finished)))
          (λ (e : i ≡ n → ⊥). subst (λ (r : RawType). So (raw_type_fits ms sh i r))
          (sym (ap (λ (rs : List RawType). get_or rs i no_raw_type) placed ∙ get_or-set_other (types_in b₁) n i (raw_of put.z) no_raw_type e)) (now.coded (start-coded h) i l))
          (same_or i n)

      kept : Kept n b b'
      kept i l = put-below put.put now.long from_start.room i (let r = from_start.room in omega arith) l ∙ now.kept i (omega arith) ∙ start-kept i l

      types : (T : Table) (et : T.methods ≡ ms) → types_to ms sh m (types_in b') ≡ set (types_to ms sh m (types_in b₁)) n
          (entry (tabled T c n b) d t s (from ms 0 (fill_at d (method_in x) (method_in y) ns)))
      types T et =
          ap (types_to ms sh m) placed ∙ types-put ms sh (types_in b₁) m n (raw_of put.z) now.more (let l = types-length b₁ in let p = now.most in omega arith)
          ∙ ap (set (types_to ms sh m (types_in b₁)) n)
          (ap (type_of ms sh n) put.finished.head
          ∙ entry-is T et (raw_of put.z).methods (from ms 0 (fill_at d (method_in x) (method_in y) ns))
          (from-same (method_in put.z) (fill_at d (method_in x) (method_in y) ns) ms 0
          (λ j p q. put.finished.filled j (omega arith) ∙ ap (λ (k : Kind). fill_at k (method_in x) (method_in y) ns j) from_start.kinds)))

-- The loop over the slots of a new type, as its invariant says it: the derivation has started, and what is left of the run comes to the whole.
pub record Loop (d : Kind) (c : Counts) (n t s : ℕ) (w : Work) (b b₁ ns : List ℕ) (m k : ℕ) : Type 0 where
  pub b₀ : List ℕ
  pub started : Started d c n t s w b b₀
  pub run : Run d c n w b₀ b₁ ns m k

pub loop-starts : {d : Kind} {key : Key Kindᵃ} {c : Counts} {n : ℕ} {w : Work} {b b₀ : List ℕ} {g : Option Derived} → Ready c n key.left key.right b → kind_is key.kind ≡ d → g ≡ None
    → Begins (Without d c n key.left key.right b) n key.left key.right b g → Opened key n w b b₀ → Loop d c n key.left key.right w b b₀ zeros (n + 1) 0
loop-starts {d} {key} {c} {n} {w} {b} {b₀} asked kinds told begun o = record { b₀ = b₀; started = st; run = start_run st }
  where
    st : Started d c n key.left key.right w b b₀
    st = let h = new-begins d asked told begun in record {
      asked = asked;
      room = h.1;
      kinds = ap (λ (k : Key Kindᵃ). kind_is k.kind) o.key_is ∙ kinds;
      key_left = ap (λ (k : Key Kindᵃ). k.left) o.key_is;
      key_right = ap (λ (k : Key Kindᵃ). k.right) o.key_is;
      new = h.0;
      left = h.2;
      right = h.3;
      left_record = o.left;
      right_record = o.right;
      put = o.put;
    }

module _ {d : Kind} {c : Counts} {n t s : ℕ} {w : Work} {b b₁ ns : List ℕ} {m k : ℕ} (now : Loop d c n t s w b b₁ ns m k) where
  module _ (test : k < end c) {slot : Slot} (read : (slot ≡ slot_at d (method_at b₁ t) (method_at b₁ s) k) × Low slot) where
    turn : Turn d c n w now.b₀ b₁ ns m k slot
    turn = record { now = now.run; test = test; told = slot_read now.started now.run read.0; low = read.1 }

    goes : {b₂ ms : List ℕ} {m₁ : ℕ} → Run d c n w now.b₀ b₂ ms m₁ (k + 1) → Loop d c n t s w b b₂ ms m₁ (k + 1)
    goes run = record { b₀ = now.b₀; started = now.started; run = run }

    pub empty-goes : slot ≡ Empty → Loop d c n t s w b b₁ ns m (k + 1)
    empty-goes e = goes (turn-empty turn e)

    -- an argument, or an answer: the table full somewhere inside, a number that fits its byte, and the loop behind it
    module _ {l r : ℕ} where
      module _ (e : slot ≡ Argument l r) where
        module _ {b₂ : List ℕ} {g : Derived} (does : Gives (arg_kind d) c m l r b₁ b₂ g) where
          pub argument-stops : g ≡ None → Gives d c n t s b b₂ None
          argument-stops z = new-full now.started now.run does.keeps (argument-full turn e does z)

          pub argument-byte : {p : ℕ × ℕ} → g ≡ Some p → p.0 < 256
          argument-byte = argument-low turn e does

          pub argument-goes : {p : ℕ × ℕ} → g ≡ Some p → Loop d c n t s w b b₂ (set ns k p.0) p.1 (k + 1)
          argument-goes z = goes (argument-turn turn e does z refl)

      module _ (e : slot ≡ Answer l r) where
        module _ {b₂ : List ℕ} {g : Derived} (does : Gives (answer_kind d) c m l r b₁ b₂ g) where
          pub answer-stops : g ≡ None → Gives d c n t s b b₂ None
          answer-stops z = new-full now.started now.run does.keeps (answer-full turn e does z)

          pub answer-byte : {p : ℕ × ℕ} → g ≡ Some p → p.0 + 1 < 256
          answer-byte z = let h = answer-low turn e does z in omega arith

          pub answer-goes : {p : ℕ × ℕ} → g ≡ Some p → Loop d c n t s w b b₂ (set ns k (p.0 + 1)) p.1 (k + 1)
          answer-goes z = goes (answer-turn turn e does z refl)

  -- the finished type is stored
  pub ends : {b' : List ℕ} → end c ≤ k → Stored w c.methods n ns b₁ b' → Gives d c n t s b b' (Some (n, m))
  ends = new-at now.started now.run

-- What the public functions promise.
module _ {d : Kind} {t s : ℕ} {b b' : List ℕ} (c : Counts) {r : Derived} (g : Gives d c c.types t s b b' r) where
  abbrev answer : Optionᵐ (Table × ℕ) → Res (Table × ℕ)
  answer o = elim o [ none ↦ refuse types_full | some p ↦ ok p ]

  answered : (l : List ℕ) (r : Derived) → derivation_in b' l c r ≡ answer (derived_in (table_in b l c) c r b')
  unfolding table_in table_of types_to
  answered l None = refl
  answered l (Some p) = refl

  derivation-is : (l : List ℕ) → derivation_in b' l c r ≡ derived (table_in b l c) d t s
  unfolding derived table_in table_of types_to
  derivation-is l = answered l r ∙ ap answer (g.is (table_in b l c) refl max_types (omega arith))

  written : (l : List ℕ) (r : Derived) → Sized c.types t s r → ExactTo c c.types b' r → Writes c.types b b' (derivation_in b' l c r)
  written l None z x = kept-take c.types b b' g.keeps.kept
  written l (Some p) z x =
      ap (λ (k : ℕ). take (k * type_size) b') (size_is b' l (with_count c p.1)) ∙ exact-take c c.types p.1 b b' z.0 g.keeps.kept x
      ∙ ap (λ (ts : List Ty). take (c.types * type_size) b ++ flatten (map bytes_of (drop c.types ts))) (sym (types_of b' l (with_count c p.1)))

  pub derives : Derives d c t s b b' r
  derives = record {
    is = derivation-is;
    writes = λ l. subst (Writes c.types b b') (derivation-is l) (written l r g.keeps.sized g.exact);
    keeps = g.keeps;
    exact = g.exact;
    codes = codes-stay b b' c r g.coded;
  }
