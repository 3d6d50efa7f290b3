-- The slots in order come to the model's derivation of the methods: `methods-run`. Only here it matters that a method has five slots, four of them arguments.
use mathlib.Core.Path.{◌≡◌, refl, sym, ap, ◌∙◌}
use mathlib.Core.Bool.{Bool, true, false, cond}
use mathlib.Core.List.{List, [], ◌∷◌}
use mathlib.Core.Option.{Option, none, some}
use mathlib.Core.Logic.{◌⊎◌, inl, inr}
use Prim.Native.Nat.{ℕ, zero, suc, ◌+◌, ◌*◌, ◌/◌, ◌%◌, ◌≤◌, ◌<◌}
use native.Mathlib.Omega.{arith}
use native.Mathlib.Nat.{not-suc-le-zero, le_of_suc-le-suc}
use lib.ListN.{length, get_or, set, take, length-set}
use lib.Seq.{get_or-set_same, get_or-set_other}
use borrow.Author.Tests.{lt-ltb}
use Rattle.spec_model.specs.Basics.{then, from}
use Rattle.spec_model.specs.Table.{State, Kind, Method, Table, permit, signed}
use Rattle.spec_model.specs.Restriction.{restricted, arg_kind, answer_kind, Derivation, derive_args, derive_answer, derive_method, derive_methods}
use Rattle.spec_model.specs.Check.{answer_of}
use Rattle.spec_model.specs.Records.{argument_slots}
use Rattle.derive_slots.specs.declared.Slot.{Slot}
use Rattle.derive_slots.specs.declared.Slot.TheVariants.{Empty, Argument, Answer}
use Rattle.derive_slots.specs.Slots.{argument_slot, answer_slot, slot_of, slot_at, method_slots}
use Rattle.derive_type.specs.NewType.{shared, fill, fill_at}

-- the table as it has become, and the bytes of the slots
abbrev pub Row : Type 0
Row = Table × List ℕ

-- One slot: its type is derived, and its byte kept at k.
abbrev pub step : Derivation → Kind → Slot → ℕ → Table → List ℕ → Option Row
step rec d Empty k t ns = some (t, ns)
step rec d (Argument l r) k t ns = then (rec t (arg_kind d) l r) λ p. some (p.0, set ns k p.1)
step rec d (Answer l r) k t ns = then (rec t (answer_kind d) l r) λ p. some (p.0, set ns k (suc p.1))

-- c slots from k on
unfoldable pub runs : Derivation → Kind → (ℕ → Slot) → ℕ → ℕ → Table → List ℕ → Option Row
runs rec d f zero k t ns = some (t, ns)
runs rec d f (suc c) k t ns = then (step rec d (f k) k t ns) λ q. runs rec d f c (suc k) q.0 q.1

bind : {A B C : Type 0} (o : Option A) (F : A → Option B) (G : B → Option C) → then (then o F) G ≡ then o λ a. then (F a) G
bind none F G = refl
bind (some a) F G = refl

-- bytes that are the same but for c of them from k on
abbrev Beside : ℕ → ℕ → List ℕ → List ℕ → Type 0
Beside k c ns ms = (length ms ≡ length ns) × ((i : ℕ) → (i < k) ⊎ (k + c ≤ i) → get_or ms i 0 ≡ get_or ns i 0)

set-beside : (ns : List ℕ) (k v : ℕ) → Beside k 1 ns (set ns k v)
set-beside ns k v = (length-set ns k v, λ i. other i)
  where
    other : (i : ℕ) → (i < k) ⊎ (k + 1 ≤ i) → get_or (set ns k v) i 0 ≡ get_or ns i 0
    other i (inl h) = get_or-set_other ns k i v 0 (λ e. let w : i ≡ k = e in omega arith)
    other i (inr h) = get_or-set_other ns k i v 0 (λ e. let w : i ≡ k = e in omega arith)

beside-more : (k c : ℕ) (ns ms ps : List ℕ) → Beside k 1 ns ms → Beside (suc k) c ms ps → Beside k (suc c) ns ps
beside-more k c ns ms ps a b = (b.0 ∙ a.0, λ i. go i)
  where
    go : (i : ℕ) → (i < k) ⊎ (k + suc c ≤ i) → get_or ps i 0 ≡ get_or ns i 0
    go i (inl h) = b.1 i (inl (omega arith)) ∙ a.1 i (inl h)
    go i (inr h) = b.1 i (inr (omega arith)) ∙ a.1 i (inr (omega arith))

-- the bytes of c slots from k on
abbrev bytes : ℕ → ℕ → List ℕ → List ℕ
bytes c k ns = from c k (λ i. get_or ns i 0)

-- the argument slots of a method
abbrev four : ℕ → List ℕ → List ℕ
four k ns = get_or ns k 0 ∷ get_or ns (k + 1) 0 ∷ get_or ns (k + 2) 0 ∷ get_or ns (k + 3) 0 ∷ []

four_bytes : (k : ℕ) (ns : List ℕ) → bytes argument_slots k ns ≡ four k ns
unfolding from
four_bytes k ns = let a : suc k ≡ k + 1 = omega arith in let b : suc (k + 1) ≡ k + 2 = omega arith in let c : suc (k + 2) ≡ k + 3 = omega arith in rw (a, b, c)

four_same : (k : ℕ) (ns ms : List ℕ) → ((i : ℕ) → i < k + argument_slots → get_or ms i 0 ≡ get_or ns i 0) → four k ns ≡ four k ms
four_same k ns ms e = rw (e k (omega arith), e (k + 1) (omega arith), e (k + 2) (omega arith), e (k + 3) (omega arith))

module _ (rec : Derivation) (d : Kind) where
  -- what follows a slot, or a run of them, may count on the other bytes
  step_same : {B : Type 0} (s : Slot) (k : ℕ) (t : Table) (ns : List ℕ) (F G : Row → Option B) → ((q : Row) → Beside k 1 ns q.1 → F q ≡ G q) → then (step rec d s k t ns) F ≡ then
      (step rec d s k t ns) G
  step_same Empty k t ns F G h = h (t, ns) (refl, λ i l. refl)
  step_same {B} (Argument l r) k t ns F G h = go (rec t (arg_kind d) l r)
    where
      go : (o : Option (Table × ℕ)) → ◌≡◌ {A = Option B} (then (then o λ p. some (p.0, set ns k p.1)) F) (then (then o λ p. some (p.0, set ns k p.1)) G)
      go none = refl
      go (some p) = h (p.0, set ns k p.1) (set-beside ns k p.1)
  step_same {B} (Answer l r) k t ns F G h = go (rec t (answer_kind d) l r)
    where
      go : (o : Option (Table × ℕ)) → ◌≡◌ {A = Option B} (then (then o λ p. some (p.0, set ns k (suc p.1))) F) (then (then o λ p. some (p.0, set ns k (suc p.1))) G)
      go none = refl
      go (some p) = h (p.0, set ns k (suc p.1)) (set-beside ns k (suc p.1))

  module _ (f : ℕ → Slot) where
    abbrev Run : ℕ → ℕ → Row → Option Row
    Run c k q = runs rec d f c k q.0 q.1

    runs_same : {B : Type 0} (c k : ℕ) (q : Row) (F G : Row → Option B) → ((p : Row) → Beside k c q.1 p.1 → F p ≡ G p) → then (Run c k q) F ≡ then (Run c k q) G
    unfolding runs
    runs_same zero k q F G h = h q (refl, λ i l. refl)
    runs_same (suc c) k q F G h =
        bind (step rec d (f k) k q.0 q.1) (Run c (suc k)) F
        ∙ step_same (f k) k q.0 q.1 (λ p. then (Run c (suc k) p) F) (λ p. then (Run c (suc k) p) G)
        (λ p e. runs_same c (suc k) p F G (λ z g. h z (beside-more k c q.1 p.1 z.1 e g)))
        ∙ sym (bind (step rec d (f k) k q.0 q.1) (Run c (suc k)) G)

    -- a run in two parts
    runs-parts : (a c k : ℕ) (q : Row) → Run (a + c) k q ≡ then (Run a k q) (Run c (k + a))
    unfolding runs
    runs-parts zero c k q = let e : 0 + c ≡ c = omega arith in let g : k ≡ k + 0 = omega arith in ap (λ (n : ℕ). Run n k q) e ∙ ap (λ (n : ℕ). Run c n q) g
    runs-parts (suc a) c k q =
        let e : suc a + c ≡ suc (a + c) = omega arith in
        let g : suc k + a ≡ k + suc a = omega arith in
        ap (λ (n : ℕ). Run n k q) e
        ∙ step_same (f k) k q.0 q.1 (Run (a + c) (suc k)) (λ p. then (Run a (suc k) p) (Run c (k + suc a)))
        (λ p z. runs-parts a c (suc k) p ∙ ap (λ (n : ℕ). then (Run a (suc k) p) (Run c n)) g)
        ∙ sym (bind (step rec d (f k) k q.0 q.1) (Run a (suc k)) (Run c (k + suc a)))

    -- slots with nothing to derive
    runs-empty : (c k : ℕ) (q : Row) → ((i : ℕ) → i < c → f (k + i) ≡ Empty) → Run c k q ≡ some q
    unfolding runs
    runs-empty zero k q h = refl
    runs-empty (suc c) k q h =
        let e : k + 0 ≡ k = omega arith in
        ap (λ (s : Slot). then (step rec d s k q.0 q.1) (Run c (suc k))) (ap f (sym e) ∙ h 0 (omega arith))
        ∙ runs-empty c (suc k) q (λ i l. let g : suc k + i ≡ k + suc i = omega arith in ap f g ∙ h (suc i) (omega arith))

    -- The arguments.
    abbrev Args : {B : Type 0} → ℕ → ℕ → List ℕ → List ℕ → Row → (Table → List ℕ → Option B) → Type 0
    Args {B} w k xs ys q A = ◌≡◌ {A = Option B} (then (derive_args rec d q.0 xs ys) (λ p. A p.0 p.1)) (then (Run w k q) (λ p. A p.0 (take (shared xs ys) (bytes w k p.1))))

    args-first : {B : Type 0} (w k x y : ℕ) (xs ys : List ℕ) (q : Row) (A : Table → List ℕ → Option B) → k < length q.1 → f k ≡ Argument y x
        → ((v : Table × ℕ) → Args w (suc k) xs ys (v.0, set q.1 k v.1) (λ t zs. A t (v.1 ∷ zs))) → Args (suc w) k (x ∷ xs) (y ∷ ys) q A
    unfolding derive_args runs from
    args-first {B} w k x y xs ys q A l e more = go (rec q.0 (arg_kind d) y x) ∙ sym (ap (λ (s : Slot). then (then (step rec d s k q.0 q.1) (Run w (suc k))) after) e)
      where
        after : Row → Option B
        after p = A p.0 (get_or p.1 k 0 ∷ take (shared xs ys) (bytes w (suc k) p.1))

        put : Table × ℕ → Row
        put p = (p.0, set q.1 k p.1)

        go : (o : Option (Table × ℕ)) → ◌≡◌ {A = Option B} (then {A = Table × List ℕ} (then o λ v. then (derive_args rec d v.0 xs ys) λ p. some (p.0, v.1 ∷ p.1))
            (λ p. A p.0 p.1)) (then {A = Row} (then {A = Row} (then o λ p. some (put p)) (Run w (suc k))) after)
        go none = refl
        go (some v) =
            bind (derive_args rec d v.0 xs ys) (λ p. some (p.0, v.1 ∷ p.1)) (λ p. A p.0 p.1) ∙ more v
            ∙ runs_same w (suc k) (put v) (λ p. A p.0 (v.1 ∷ take (shared xs ys) (bytes w (suc k) p.1))) after
            (λ p b. ap (λ (n : ℕ). A p.0 (n ∷ take (shared xs ys) (bytes w (suc k) p.1))) (sym (b.1 k (inl (omega arith)) ∙ get_or-set_same q.1 k v.1 0 l)))

    args_none : {B : Type 0} (w k : ℕ) (q : Row) (A : Table → List ℕ → Option B) → ((i : ℕ) → i < w → f (k + i) ≡ Empty) → A q.0 [] ≡ then (Run w k q)
        (λ p. A p.0 (take 0 (bytes w k p.1)))
    args_none w k q A e = sym (ap (λ (o : Option Row). then o λ p. A p.0 (take 0 (bytes w k p.1))) (runs-empty w k q e))

    args-run : {B : Type 0} (w k : ℕ) (xs ys : List ℕ) (q : Row) (A : Table → List ℕ → Option B) → shared xs ys ≤ w → k + w ≤ length q.1 →
        ((i : ℕ) → i < w → f (k + i) ≡ argument_slot i xs ys) → Args w k xs ys q A
    unfolding derive_args
    args-run w k [] ys q A h l e = args_none w k q A e
    args-run w k (x ∷ xs) [] q A h l e = args_none w k q A e
    args-run zero k (x ∷ xs) (y ∷ ys) q A h l e = absurd (not-suc-le-zero h)
    args-run (suc w) k (x ∷ xs) (y ∷ ys) q A h l e =
        let z : k + 0 ≡ k = omega arith in
        args-first w k x y xs ys q A (omega arith) (ap f (sym z) ∙ e 0 (omega arith))
        (λ v. args-run w (suc k) xs ys (v.0, set q.1 k v.1) (λ t zs. A t (v.1 ∷ zs)) (le_of_suc-le-suc h) (let b = length-set q.1 k v.1 in omega arith)
        (λ i m. let g : suc k + i ≡ k + suc i = omega arith in ap f g ∙ e (suc i) (omega arith)))

    -- The answer, whose byte is 0 before.
    answer-run : {B : Type 0} (k : ℕ) (x y : Option ℕ) (q : Row) (A : Table → Option ℕ → Option B) → k < length q.1 → get_or q.1 k 0 ≡ 0
        → then (derive_answer rec d q.0 x y) (λ p. A p.0 p.1) ≡ then (step rec d (answer_slot x y) k q.0 q.1) (λ p. A p.0 (answer_of (get_or p.1 k 0)))
    unfolding derive_answer
    answer-run k none y q A h e = rw e
    answer-run k (some x) none q A h e = rw e
    answer-run {B} k (some x) (some y) q A h e = go (rec q.0 (answer_kind d) x y)
      where
        go : (o : Option (Table × ℕ)) → ◌≡◌ {A = Option B} (then {A = Table × Option ℕ} (then o λ p. some (p.0, some p.1)) (λ p. A p.0 p.1))
            (then {A = Row} (then o λ p. some (p.0, set q.1 k (suc p.1))) (λ p. A p.0 (answer_of (get_or p.1 k 0))))
        go none = refl
        go (some v) = rw (get_or-set_same q.1 k (suc v.1) 0 h)

    -- One method.
    last_one : {B : Type 0} (k : ℕ) (q : Row) (F : Row → Option B) → then (Run 1 k q) F ≡ then (step rec d (f k) k q.0 q.1) F
    unfolding runs
    last_one k q F = go (step rec d (f k) k q.0 q.1)
      where
        go : (o : Option Row) → then (then o λ p. some (p.0, p.1)) F ≡ then o F
        go none = refl
        go (some p) = refl

    abbrev Signs : Method → Method → State → Table → List ℕ → Option (Table × Method)
    Signs x y s t zs = then (derive_answer rec d t x.answer y.answer) λ z. some (z.0, signed s zs z.1)

    permitted-run : {B : Type 0} (x y : Method) (s : State) (k : ℕ) (q : Row) (go : Table → Method → Option B) → shared x.args y.args ≤ argument_slots → k + method_slots ≤ length q.1
        → get_or q.1 (k + argument_slots) 0 ≡ 0
        → ((i : ℕ) → i < argument_slots → f (k + i) ≡ argument_slot i x.args y.args) → f (k + argument_slots) ≡ answer_slot x.answer y.answer
        → ◌≡◌ {A = Option B} (then (then (derive_args rec d q.0 x.args y.args) λ p. Signs x y s p.0 p.1) (λ p. go p.0 p.1))
        (then (Run method_slots k q) λ p. go p.0 (signed s (take (shared x.args y.args) (four k p.1)) (answer_of (get_or p.1 (k + argument_slots) 0))))
    permitted-run {B} x y s k q go few room blank args ans =
        bind (derive_args rec d q.0 x.args y.args) (λ p. Signs x y s p.0 p.1) (λ p. go p.0 p.1)
        ∙ args-run argument_slots k x.args y.args q (λ t zs. then (Signs x y s t zs) (λ p. go p.0 p.1)) few (omega arith) args
        ∙ runs_same argument_slots k q (λ p. then (Signs x y s p.0 (zs p)) (λ p. go p.0 p.1)) (λ p. then (Run 1 (k + argument_slots) p) end)
        (λ p b. bind (derive_answer rec d p.0 x.answer y.answer) (λ z. some (z.0, signed s (zs p) z.1)) (λ p. go p.0 p.1)
        ∙ answer-run (k + argument_slots) x.answer y.answer p (λ t z. go t (signed s (zs p) z)) (let l = b.0 in omega arith) (b.1 (k + argument_slots) (inr (omega arith)) ∙ blank)
        ∙ step_same (answer_slot x.answer y.answer) (k + argument_slots) p.0 p.1 (λ r. go r.0 (signed s (zs p) (answer_of (get_or r.1 (k + argument_slots) 0)))) end
        (λ r g. ap (λ (l : List ℕ). go r.0 (signed s (take (shared x.args y.args) l) (answer_of (get_or r.1 (k + argument_slots) 0))))
        (four_bytes k p.1 ∙ four_same k p.1 r.1 (λ i l. g.1 i (inl l))))
        ∙ ap (λ (u : Slot). then (step rec d u (k + argument_slots) p.0 p.1) end) (sym ans) ∙ sym (last_one (k + argument_slots) p end))
        ∙ sym (bind (Run argument_slots k q) (Run 1 (k + argument_slots)) end) ∙ sym (ap (λ (o : Option Row). then o end) (runs-parts argument_slots 1 k q))
      where
        zs : Row → List ℕ
        zs p = take (shared x.args y.args) (bytes argument_slots k p.1)

        end : Row → Option B
        end p = go p.0 (signed s (take (shared x.args y.args) (four k p.1)) (answer_of (get_or p.1 (k + argument_slots) 0)))

    method-run : {B : Type 0} (x y : Method) (k : ℕ) (q : Row) (go : Table → Method → Option B) → shared x.args y.args ≤ argument_slots → k + method_slots ≤ length q.1
        → get_or q.1 (k + argument_slots) 0 ≡ 0 →
        ((i : ℕ) → i < method_slots → f (k + i) ≡ slot_of d x y i)
        → then (derive_method rec d q.0 x y) (λ p. go p.0 p.1) ≡ then (Run method_slots k q) λ p. go p.0 (fill d x y (four k p.1) (get_or p.1 (k + argument_slots) 0))
    unfolding derive_method
    method-run {B} x y k q go few room blank slots = by (permit s) refl
      where
        s : State
        s = restricted d x.state y.state

        by : (b : Bool) → permit s ≡ b → ◌≡◌ {A = Option B} (then {A = Table × Method} (elim b [
          | false ↦ some (q.0, signed s [] none)
          | true ↦ then (derive_args rec d q.0 x.args y.args) λ p. Signs x y s p.0 p.1
        ]) (λ p. go p.0 p.1))
            (then (Run method_slots k q) λ p. go p.0 (signed s (cond b (take (shared x.args y.args) (four k p.1)) []) (cond b (answer_of (get_or p.1 (k + argument_slots) 0)) none)))
        by true e = permitted-run x y s k q go few room blank
            (λ i l. slots i (omega arith) ∙ rw (e, lt-ltb i argument_slots l)) (slots argument_slots (omega arith) ∙ rw e)
        by false e = sym (ap (λ (o : Option Row). then o λ p. go p.0 (signed s [] none)) (runs-empty method_slots k q (λ i l. slots i l ∙ rw e)))

  -- All methods: what they come to reads only their own slots, which nothing later changes.
  module _ (x y : ℕ → Method) (few : (i : ℕ) → shared (x i).args (y i).args ≤ argument_slots) where
    slot-in : (j i : ℕ) → i < method_slots → slot_at d x y (j * method_slots + i) ≡ slot_of d (x j) (y j) i
    slot-in j i h = let a : (j * method_slots + i) / method_slots ≡ j = omega arith in let b : (j * method_slots + i) % method_slots ≡ i = omega arith in rw (a, b)

    fill-same : (j : ℕ) (ns ms : List ℕ) → ((i : ℕ) → i < suc j * method_slots → get_or ms i 0 ≡ get_or ns i 0) → fill_at d x y ns j ≡ fill_at d x y ms j
    fill-same j ns ms e =
        ap (λ (l : List ℕ). fill d (x j) (y j) l (get_or ns (j * method_slots + argument_slots) 0)) (four_same (j * method_slots) ns ms (λ i l. e i (omega arith)))
        ∙ ap (fill d (x j) (y j) (four (j * method_slots) ms)) (sym (e (j * method_slots + argument_slots) (omega arith)))

    abbrev All : ℕ → ℕ → Row → Option (Table × List Method)
    All c j p = some (p.0, from c j (fill_at d x y p.1))

    abbrev After : ℕ → ℕ → Row → Option (Table × List Method)
    After c j p = some (p.0, fill_at d x y p.1 j ∷ from c (suc j) (fill_at d x y p.1))

    abbrev Rest : ℕ → ℕ → Row → Option Row
    Rest c j q = runs rec d (slot_at d x y) (c * method_slots) (j * method_slots) q.0 q.1

    -- the slots of one method, then those of the rest
    rest-parts : (c j : ℕ) (q : Row) → then (Rest (suc c) j q) (After c j) ≡ then (runs rec d (slot_at d x y) method_slots (j * method_slots) q.0 q.1) λ p. then (Rest c (suc j) p) (After c j)
    rest-parts c j q =
        let e : suc c * method_slots ≡ method_slots + c * method_slots = omega arith in
        let g : j * method_slots + method_slots ≡ suc j * method_slots = omega arith in
        ap (λ (n : ℕ). then (runs rec d (slot_at d x y) n (j * method_slots) q.0 q.1) (After c j)) e
        ∙ ap (λ (o : Option Row). then o (After c j)) (runs-parts (slot_at d x y) method_slots (c * method_slots) (j * method_slots) q)
        ∙ bind (runs rec d (slot_at d x y) method_slots (j * method_slots) q.0 q.1) (λ p. runs rec d (slot_at d x y) (c * method_slots) (j * method_slots + method_slots) p.0 p.1) (After c j)
        ∙ ap (λ (n : ℕ). then (runs rec d (slot_at d x y) method_slots (j * method_slots) q.0 q.1) λ p. then (runs rec d (slot_at d x y) (c * method_slots) n p.0 p.1) (After c j)) g

    methods-from : (c j : ℕ) (q : Row) → j * method_slots + c * method_slots ≤ length q.1 → ((i : ℕ) → j * method_slots ≤ i → get_or q.1 i 0 ≡ 0)
        → derive_methods rec d q.0 (from c j x) (from c j y) ≡ then (Rest c j q) (All c j)
    unfolding derive_methods from runs
    methods-from zero j q room blank = refl
    methods-from (suc c) j q room blank =
        method-run (slot_at d x y) (x j) (y j) (j * method_slots) q (λ t m. then (derive_methods rec d t (from c (suc j) x) (from c (suc j) y)) λ z. some (z.0, m ∷ z.1)) (few j) (omega arith)
        (blank (j * method_slots + argument_slots) (omega arith)) (slot-in j)
        ∙ runs_same (slot_at d x y) method_slots (j * method_slots) q (λ p. then (derive_methods rec d p.0 (from c (suc j) x) (from c (suc j) y)) λ z. some (z.0, fill_at d x y p.1 j ∷ z.1))
        (λ p. then (Rest c (suc j) p) (After c j))
        (λ p b. ap (λ (o : Option (Table × List Method)). then o λ z. some (z.0, fill_at d x y p.1 j ∷ z.1))
        (methods-from c (suc j) p (let l = b.0 in omega arith) (λ i l. b.1 i (inr (omega arith)) ∙ blank i (omega arith)))
        ∙ bind (Rest c (suc j) p) (All c (suc j)) (λ z. some (z.0, fill_at d x y p.1 j ∷ z.1))
        ∙ runs_same (slot_at d x y) (c * method_slots) (suc j * method_slots) p (λ z. some (z.0, fill_at d x y p.1 j ∷ from c (suc j) (fill_at d x y z.1))) (After c j)
        (λ z g. ap (λ (m : Method). some (z.0, m ∷ from c (suc j) (fill_at d x y z.1))) (fill-same j p.1 z.1 (λ i l. g.1 i (inl l)))))
        ∙ sym (rest-parts c j q)

-- The methods of a derived type come from its slots, run in order over bytes that are 0.
pub methods-run : (rec : Derivation) (d : Kind) (x y : ℕ → Method) (c : ℕ) (t : Table) (ns : List ℕ) → ((i : ℕ) → shared (x i).args (y i).args ≤ argument_slots) → c * method_slots ≤ length ns →
    ((i : ℕ) → get_or ns i 0 ≡ 0)
    → derive_methods rec d t (from c 0 x) (from c 0 y) ≡ then (runs rec d (slot_at d x y) (c * method_slots) 0 t ns) λ q. some (q.0, from c 0 (fill_at d x y q.1))
methods-run rec d x y c t ns few room blank = methods-from rec d x y few c 0 (t, ns) (omega arith) (λ i l. blank i)
