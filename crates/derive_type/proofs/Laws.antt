-- A method from its slots, the head of a new type, and the loop over its methods.
use mathlib.Core.Path.{◌≡◌, refl, sym, ap, ◌∙◌, subst}
use mathlib.Core.Bool.{true, false}
use mathlib.Core.List.{List, [], ◌∷◌, map}
use Prim.Native.Nat.{ℕ, zero, suc, ◌+◌, ◌*◌, ◌≤◌, ◌<◌, min}
use native.Mathlib.Omega.{arith}
use native.Mathlib.Nat.{not-suc-le-zero, le_of_suc-le-suc, zero-min, min-zero, suc-min-suc, min-le_left, min-le_right}
use lib.Dec.{leb, ltb}
use lib.ListN.{length, get_or, set, take, replicate, length-set, length-map, get_or-map}
use lib.Seq.{take-nil, get_or-set_other}
use borrow.Author.Tests.{le-ltb}
use Rattle.spec_model.specs.Table.{Kind, sub, sup, closed, permit, max_arguments, max_methods}
use Rattle.spec_model.specs.Table as model
use Rattle.spec_model.specs.Restriction.{restricted}
use Rattle.spec_model.specs.Check.{RawMethod, no_raw_method, state_of, kind_of, method_of}
use Rattle.spec_model.proofs.Rules.{both, second, imply, applied}
use Rattle.spec_model.proofs.Tests.{so-ltb, leb-so, so-leb}
use Rattle.spec_model.specs.Records.{argument_slots, kind_code}
use Rattle.table_record.specs.declared.Method.{Method}
use Rattle.table_record.specs.declared.TypeRec.{TypeRec}
use Rattle.table_record.specs.Store.{raw_method, raw_of, empty_method, blank_method, MethodExact, TypeExact}
use Rattle.table_record.proofs.Lists.{set_next}
use Rattle.table_record.proofs.Laws.{absent, four}
use Rattle.law_table.proofs.Exact.{unsigned-exact, signed-exact, derived-key, ref-exact}
use Rattle.derive_slots.specs.Slots.{method_slots}
use Rattle.derive_slots.proofs.Laws.{stays, left-on, right-on}
use Rattle.derive_type.specs.NewType.{shared, fill, fill_at, method_in, raw_in, MethodCoded, bare_method, slot_byte, signed_method}
use Rattle.derive_type.specs.NewType.{Work, kind_in, new_record, Finished}

-- how many arguments are shared
take-shared : (c e : ℕ) (ps qs ns : List ℕ) → length ns ≤ length ps → length ns ≤ length qs → take (min c e) ns ≡ take (shared (take c ps) (take e qs)) ns
take-shared zero e ps qs ns h k = rw (zero-min e)
take-shared (suc c) zero [] qs ns h k = rw (min-zero (suc c))
take-shared (suc c) zero (p ∷ ps) qs ns h k = rw (min-zero (suc c))
take-shared (suc c) (suc e) [] qs [] h k = rw (suc-min-suc c e)
take-shared (suc c) (suc e) [] qs (n ∷ ns) h k = absurd (not-suc-le-zero h)
take-shared (suc c) (suc e) (p ∷ ps) [] [] h k = rw (suc-min-suc c e)
take-shared (suc c) (suc e) (p ∷ ps) [] (n ∷ ns) h k = absurd (not-suc-le-zero k)
take-shared (suc c) (suc e) (p ∷ ps) (q ∷ qs) [] h k = rw (suc-min-suc c e)
take-shared (suc c) (suc e) (p ∷ ps) (q ∷ qs) (n ∷ ns) h k = rw (suc-min-suc c e) (ap (λ (l : List ℕ). n ∷ l) (take-shared c e ps qs ns (le_of_suc-le-suc h) (le_of_suc-le-suc k)))

take-capped : (k : ℕ) (ns : List ℕ) → take (min k (length ns)) ns ≡ take k ns
take-capped k [] = ap (λ (n : ℕ). take n []) (min-zero k) ∙ sym (take-nil k)
take-capped zero (n ∷ ns) = rw (zero-min (suc (length ns)))
take-capped (suc k) (n ∷ ns) = rw (suc-min-suc k (length ns)) (ap (λ (l : List ℕ). n ∷ l) (take-capped k ns))

-- slots past the count don't matter
take-slots : (n a b c d : ℕ) → n ≤ argument_slots → let l : List ℕ = a ∷ b ∷ c ∷ d ∷ [] in take n (slot_byte n l 0 ∷ slot_byte n l 1 ∷ slot_byte n l 2 ∷ slot_byte n l 3 ∷ []) ≡ take n l
take-slots zero a b c d h = refl
take-slots (suc zero) a b c d h = refl
take-slots (suc (suc zero)) a b c d h = refl
take-slots (suc (suc (suc zero))) a b c d h = refl
take-slots (suc (suc (suc (suc zero)))) a b c d h = refl
take-slots (suc (suc (suc (suc (suc n))))) a b c d h = absurd (omega arith)

slots-zero : (n : ℕ) (l : List ℕ) (k : ℕ) → n ≤ k → get_or (slot_byte n l 0 ∷ slot_byte n l 1 ∷ slot_byte n l 2 ∷ slot_byte n l 3 ∷ []) k 0 ≡ 0
slots-zero n l zero h = rw (le-ltb 0 n h)
slots-zero n l (suc zero) h = rw (le-ltb 1 n h)
slots-zero n l (suc (suc zero)) h = rw (le-ltb 2 n h)
slots-zero n l (suc (suc (suc zero))) h = rw (le-ltb 3 n h)
slots-zero n l (suc (suc (suc (suc k)))) h = refl

-- Two methods as they are stored, and the one from their slots: what it means, that it is stored exactly, and that its codes name something where the left
-- side's do.
module _ (d : Kind) (p q : RawMethod) where
  abbrev count : ℕ
  count = min (min p.count q.count) argument_slots

  pub shared-low : count ≤ argument_slots
  shared-low = min-le_right (min p.count q.count) argument_slots

  module _ (st : ℕ) (es : state_of st ≡ restricted d (state_of p.state) (state_of q.state)) (low : st < 4) (args : List ℕ) (a : ℕ) where
    abbrev pub Made : RawMethod → Type 0
    Made m = (method_of m ≡ fill d (method_of p) (method_of q) args a) × (MethodExact m × (MethodCoded p → MethodCoded m))

    pub bare-made : permit (state_of st) ≡ false → Made (bare_method st)
    bare-made e = (rw (e, es, sym (ap permit es) ∙ e), (unsigned-exact st low e, λ h. both (so-ltb low) (imply (permit (state_of st)) true (λ _. refl))))

    pub signed-made : permit (state_of st) ≡ true → length args ≡ argument_slots → length p.args ≡ argument_slots → length q.args ≡ argument_slots → Made (signed_method st count args a)
    signed-made e l lp lq = (
      rw (e, es, s, left-on d p q s, right-on d p q s, same),
      (
        signed-exact (signed_method st count args a) low e shared-low refl (slots-zero count args),
        λ h. both (so-ltb low) (imply (permit (state_of st)) (leb count max_arguments) (λ _. so-leb (few h))),
      ),
    )
      where
        s : stays d p q ≡ true
        s = sym (ap permit es) ∙ e

        same : take count (slot_byte count args 0 ∷ slot_byte count args 1 ∷ slot_byte count args 2 ∷ slot_byte count args 3 ∷ []) ≡ take
            (shared (take p.count p.args) (take q.count q.args)) args
        same =
            take-slots count (get_or args 0 0) (get_or args 1 0) (get_or args 2 0) (get_or args 3 0) shared-low ∙ ap (take count) (four args l)
            ∙ ap (λ (n : ℕ). take (min (min p.count q.count) n) args) (sym l) ∙ take-capped (min p.count q.count) args
            ∙ take-shared p.count q.count p.args q.args args (omega arith) (omega arith)

        few : MethodCoded p → count ≤ max_arguments
        few h =
            let w : p.count ≤ max_arguments = leb-so (applied (second (ltb p.state 4) _ h) (left-on d p q s)) in
            let u = min-le_left (min p.count q.count) argument_slots in
            let v = min-le_left p.count q.count in omega arith

pub code-back : (d : Kind) → kind_of (kind_code d) ≡ d
code-back sub = refl
code-back sup = refl
code-back closed = refl

pub code-low : (d : Kind) → kind_code d < 3
code-low sub = omega arith
code-low sup = omega arith
code-low closed = omega arith

-- Methods of the code, as records.
pub raw-methods : (ms : List Method) (j : ℕ) → raw_method (get_or ms j absent) ≡ get_or (map raw_method ms) j no_raw_method
raw-methods ms j = sym (get_or-map raw_method ms j absent)

filled-here : (d : Kind) (x y : TypeRec) (ns : List ℕ) (j : ℕ) (p q m : Method) → raw_method p ≡ raw_in x j → raw_method q ≡ raw_in y j
    → method_of (raw_method m) ≡ fill d (method_of (raw_method p)) (method_of (raw_method q))
    (get_or ns (j * method_slots) 0 ∷ get_or ns (j * method_slots + 1) 0 ∷ get_or ns (j * method_slots + 2) 0 ∷ get_or ns (j * method_slots + 3) 0 ∷ [])
    (get_or ns (j * method_slots + argument_slots) 0)
    → method_of (raw_method m) ≡ fill_at d (method_in x) (method_in y) ns j
filled-here d x y ns j p q m ep eq em =
    em ∙ ap (λ (z : model.Method). fill d z (method_of (raw_method q)) (get_or ns (j * method_slots) 0 ∷ get_or ns (j * method_slots + 1) 0 ∷ get_or ns (j * method_slots + 2) 0 ∷ get_or ns
    (j * method_slots + 3) 0 ∷ [])
    (get_or ns (j * method_slots + argument_slots) 0)) (ap method_of ep)
    ∙ ap (λ (z : model.Method). fill d (method_in x j) z (get_or ns (j * method_slots) 0 ∷ get_or ns (j * method_slots + 1) 0 ∷ get_or ns (j * method_slots + 2) 0 ∷ get_or ns (j * method_slots + 3)
    0 ∷ []) (get_or ns (j * method_slots + argument_slots) 0))
    (ap method_of eq)

-- The loop over the methods: those before j are made from their slots, the others are blank.
module _ (w : Work) (ns : List ℕ) where
  abbrev Well : ℕ → Method → Type 0
  Well j m = (method_of (raw_method m) ≡ fill_at (kind_in w) (method_in w.left) (method_in w.right) ns j) ×
      (MethodExact (raw_method m) × (MethodCoded (raw_in w.left j) → MethodCoded (raw_method m)))

  pub record Filling (ms : ℕ) (all : List Method) (j : ℕ) : Type 0 where
    pub low : j ≤ ms
    pub long : length all ≡ max_methods
    pub made : (i : ℕ) → i < j → Well i (get_or all i absent)
    pub rest : (i : ℕ) → j ≤ i → i < max_methods → raw_method (get_or all i absent) ≡ blank_method

  pub filling-starts : (ms : ℕ) (m : Method) → m ≡ empty_method → Filling ms (replicate max_methods m) 0
  filling-starts ms m e = subst (λ (m : Method). Filling ms (replicate max_methods m) 0)
      (sym e) record { low = omega arith; long = refl; made = λ i h. absurd (not-suc-le-zero h); rest = λ i h l. blank-at max_methods i l }
    where
      blank-at : (n i : ℕ) → i < n → raw_method (get_or (replicate n empty_method) i absent) ≡ blank_method
      blank-at zero i h = absurd (not-suc-le-zero h)
      blank-at (suc n) zero h = refl
      blank-at (suc n) (suc i) h = blank-at n i (le_of_suc-le-suc h)

  pub filling-next : {ms : ℕ} {all : List Method} {j : ℕ} → Filling ms all j → j < ms → ms ≤ max_methods → (p q m : Method) → raw_method p ≡ raw_in w.left j
      → raw_method q ≡ raw_in w.right j
      → (method_of (raw_method m) ≡ fill (kind_in w) (method_of (raw_method p)) (method_of (raw_method q))
      (get_or ns (j * method_slots) 0 ∷ get_or ns (j * method_slots + 1) 0 ∷ get_or ns (j * method_slots + 2) 0 ∷ get_or ns (j * method_slots + 3) 0 ∷ []) (get_or ns (j * method_slots + argument_slots) 0))
      × (MethodExact (raw_method m) × (MethodCoded (raw_method p) → MethodCoded (raw_method m))) → Filling ms (set all j m) (j + 1)
  filling-next {ms} {all} {j} so h few p q m ep eq em = let l = so.long in record {
    low = omega arith;
    long = length-set all j m ∙ so.long;
    made = set_next Well all j m absent (omega arith) so.made
        (filled-here (kind_in w) w.left w.right ns j p q m ep eq em.0, (em.1.0, λ c. em.1.1 (subst MethodCoded (sym ep) c)));
    rest = λ i g k. ap raw_method (get_or-set_other all j i m absent (λ e. let z : i ≡ j = e in omega arith)) ∙ so.rest i (omega arith) k;
  }

  -- the type that they make
  pub filling-ends : {ms : ℕ} {all : List Method} {j : ℕ} → Filling ms all j → ms ≤ j → (z : TypeRec) → raw_of z ≡ new_record w (raw_of z).methods
      → z.methods ≡ all
      → Finished w ms ns z
  filling-ends {ms} {all} {j} so done z e em = record {
    head = e;
    filled = λ i h. ap method_of (at i) ∙ (so.made i (omega arith)).0;
    exact = λ sh i h. subst (TypeExact ms sh i) (sym e)
        (ref-exact ms sh i (new_record w (raw_of z).methods) (length-map z.methods raw_method ∙ ap length em ∙ so.long) (derived-key sh i (new_record w (raw_of z).methods) h (code-low (kind_in w))) refl
        (omega arith)
        (λ n l. subst MethodExact (sym (at n)) (so.made n (omega arith)).1.0) (λ n l r. at n ∙ so.rest n (let g = so.low in omega arith) r));
    coded = λ i h c. subst MethodCoded (sym (at i)) ((so.made i (omega arith)).1.1 c);
  }
    where
      at : (i : ℕ) → raw_in z i ≡ raw_method (get_or all i absent)
      at i = sym (raw-methods z.methods i) ∙ ap (λ (ms : List Method). raw_method (get_or ms i absent)) em
