-- Layers and targets as lists, codes of targets, and what one layer asks of a value.
use mathlib.Core.Path.{◌≡◌, refl, sym, ap, ◌∙◌, subst}
use mathlib.Core.Bool.{Bool, true, false, cond}
use mathlib.Core.List.{List, [], ◌∷◌, ◌++◌, map, reverse, reverse-cons, map-append}
use mathlib.Core.Option.{Option, none, some}
use Prim.Native.Nat.{ℕ, zero, suc, ◌+◌, ◌≤◌, ◌<◌}
use native.Mathlib.Nat.{not-suc-le-zero, le_of_suc-le-suc}
use native.Mathlib.Numerals.{add-one}
use native.Mathlib.Omega.{arith}
use lib.Dec.{eqb}
use lib.IntN.{ℤ}
use lib.ListN.{length, get_or, get_elem?, set, take, drop}
use lib.Seq.{take-suc-set, take-suc, length-take-le, drop-cons, get_or-take, drop-nil}
use Rattle.std.specs.Prelude.{Some, None, Result, Ok, Err, min}
use Rattle.std.specs.Prelude.{Option as Maybe}
use Rattle.std.proofs.Math.Seq.{take-append_seam}
use Rattle.std.proofs.lemmas.List.{length-reverse}
use Rattle.base_numbers.specs.declared.refusal.Refusal.{Refusal}
use borrow.Author.Tests.{eq-eqb, ne_eqb}
use Rattle.spec_model.specs.Basics.{Res, refuse, ok, try, need, from}
use Rattle.spec_model.specs.Table.{Table, Rep, ref, w32, w64, Ty, type_at, method_at, no_method, is_ref}
use Rattle.spec_model.specs.Table.{Method as Methodᵐ}
use Rattle.spec_model.specs.Requests.{at_layer, within, pass_layers}
use Rattle.spec_model.specs.Check.{RawType, rep_of, method_of, no_raw_type, no_raw_method}
use Rattle.spec_model.specs.Records.{argument_slots}
use Rattle.spec_model.specs.Refusals.{unrelated, too_wide}
use Rattle.table_record.specs.declared.Counts.{Counts}
use Rattle.table_record.specs.declared.Head.{Head}
use Rattle.table_record.specs.declared.Method.{Method}
use Rattle.table_record.specs.Store.{types_in, table_in, raw_method, head_of}
use Rattle.table_record.proofs.Tables.{type-is, type-out}
use Rattle.table_record.proofs.Codes.{rep-code}
use Rattle.crossing_targets.specs.declared.Slot.{Slot}
use Rattle.crossing_targets.specs.declared.Slot.TheVariants.{Argument, Answer}
use Rattle.crossing_targets.specs.Targets.{option_of, argument_of, slot_in, slot_at, width_at, pass_as, pass_to, passed_of, max_layers}
use Rattle.law_table.proofs.Methods.{ref-is, method-is, method-out}

-- ---- Lists.
module _ {A B : Type 0} (f : A → B) where
  pub map-reverse : (xs : List A) → map f (reverse xs) ≡ reverse (map f xs)
  map-reverse [] = refl
  map-reverse (x ∷ xs) =
      ap (map f) (reverse-cons x xs) ∙ map-append f (reverse xs) (x ∷ []) ∙ ap (λ (zs : List B). zs ++ (f x ∷ [])) (map-reverse xs) ∙ sym (reverse-cons (f x) (map f xs))

-- the front of a list that was replaced
pub front-is : {A : Type 0} (xs rest : List A) (n : ℕ) → length xs ≡ n → take n (xs ++ rest) ≡ xs
front-is xs rest n e = ap (λ (k : ℕ). take k (xs ++ rest)) (sym e) ∙ take-append_seam xs rest

-- targets so far: what f gives for the first i layers
pub targets_next : (f : ℕ → Option ℕ) (list : List (Maybe ℕ)) (ls : List ℕ) (i : ℕ) (v : Maybe ℕ) → length list ≡ max_layers → length ls ≡ max_layers → i < max_layers
    → option_of v ≡ f (get_or ls i 0) → map option_of (take i list) ≡ map f (take i ls) → map option_of (take (i + 1) (set list i v)) ≡ map f (take (i + 1) ls)
targets_next f list ls i v e k h z w =
    ap (λ (n : ℕ). map option_of (take n (set list i v))) (add-one i) ∙ ap (map option_of) (take-suc-set list i v (omega arith))
    ∙ map-append option_of (take i list) (v ∷ []) ∙ ap (λ (xs : List (Option ℕ)). xs ++ (option_of v ∷ [])) w
    ∙ ap (λ (x : Option ℕ). map f (take i ls) ++ (x ∷ [])) z
    ∙ sym (ap (λ (n : ℕ). map f (take n ls)) (add-one i) ∙ ap (map f) (take-suc ls i 0 (omega arith)) ∙ map-append f (take i ls) (get_or ls i 0 ∷ []))

-- the first n targets, from the last one on
pub reversed-are : (list ys rest : List (Maybe ℕ)) (n : ℕ) → n ≤ length list → ys ≡ reverse (take n list)
    → map option_of (take n (ys ++ rest)) ≡ reverse (map option_of (take n list))
reversed-are list ys rest n h e =
    ap (map option_of) (front-is ys rest n (ap length e ∙ length-reverse (take n list) ∙ length-take-le n list h) ∙ e) ∙ map-reverse option_of (take n list)

-- ---- Arguments of a record.
elem-none : (n : ℕ) (xs : List ℕ) (i : ℕ) → min n (length xs) ≤ i → get_elem? (take n xs) i ≡ none
elem-none zero xs i h = refl
elem-none (suc n) [] i h = refl
elem-none (suc n) (x ∷ xs) zero h = absurd (omega arith)
elem-none (suc n) (x ∷ xs) (suc i) h = elem-none n xs i (omega arith)

module _ (x : Method) (i n : ℕ) (four : length x.args ≡ argument_slots) (e : n ≡ min x.count argument_slots) where
  pub argument-out : n ≤ i → none ≡ argument_of x i
  argument-out h = sym (elem-none x.count x.args i (omega arith))

-- ---- Slots of a type's method.
module _ (t : Table) (m : ℕ) (s : Slot) (l : ℕ) where
  slot-of : slot_at t m s l ≡ slot_in (method_at t l m) s
  slot-of = go s where
    go : (s : Slot) → slot_at t m s l ≡ slot_in (method_at t l m) s
    go (Argument i) = refl
    go Answer = refl

  slot-none : method_at t l m ≡ no_method → none ≡ slot_at t m s l
  slot-none e = sym (slot-of ∙ ap (λ (x : Methodᵐ). slot_in x s) e ∙ go s) where
    go : (s : Slot) → slot_in no_method s ≡ none
    go (Argument i) = refl
    go Answer = refl

module _ (b l : List ℕ) (c : Counts) (m : ℕ) (s : Slot) (t : ℕ) where
  pub target-unknown : c.types ≤ t → none ≡ slot_at (table_in b l c) m s t
  target-unknown h = slot-none (table_in b l c) m s t (ap (λ (y : Ty). get_or y.methods m no_method) (type-out b l c t h))

  pub target-unmet : c.methods ≤ m → none ≡ slot_at (table_in b l c) m s t
  target-unmet h = slot-none (table_in b l c) m s t (method-out b l c t m h)

  module _ (low : t < c.types) (h : Head) (e : h ≡ head_of (get_or (types_in b) t no_raw_type)) where
    pub target-number : (h.rep ≡ 0 → ⊥) → none ≡ slot_at (table_in b l c) m s t
    target-number z =
        let x : RawType = get_or (types_in b) t no_raw_type in
        let f : ℕ → Methodᵐ = λ k. method_of (get_or x.methods k no_raw_method) in
        let q : is_ref (rep_of x.rep) ≡ false = sym (rep-code x.rep) ∙ ne_eqb x.rep 0 (λ y. z (ap (λ (k : Head). k.rep) e ∙ y)) in
        slot-none (table_in b l c) m s t
        (ap (λ (y : Ty). get_or y.methods m no_method) (type-is b l c t low) ∙ ap (λ (y : Bool). get_or (cond y (from c.methods 0 f) []) m no_method) q)

    pub target_is : h.rep ≡ 0 → m < c.methods → (x : Method) → raw_method x ≡ get_or (get_or (types_in b) t no_raw_type).methods m no_raw_method →
        (v : Option ℕ) → v ≡ slot_in (method_of (raw_method x)) s → v ≡ slot_at (table_in b l c) m s t
    target_is z k x w v q =
        q ∙ ap (λ (y : Methodᵐ). slot_in y s) (ap method_of w ∙ sym (method-is b l c t m (sym (ref-is b l c t h low e) ∙ eq-eqb h.rep 0 z) k))
        ∙ sym (slot-of (table_in b l c) m s t)

-- ---- Numbers.
rep-wide : (n : ℕ) → (n ≡ 0 → ⊥) → (n ≡ 1 → ⊥) → rep_of n ≡ w64
rep-wide zero h k = absurd (h refl)
rep-wide (suc zero) h k = absurd (k refl)
rep-wide (suc (suc n)) h k = refl

-- one layer of a number
module _ (b l : List ℕ) (c : Counts) (v : ℤ) (target : Maybe ℕ) (i : ℕ) (r : Result (Unit {0}) Refusal) where
  abbrev Passes : Type 0
  Passes = passed_of r ≡ pass_to (eqb i 0) (table_in b l c) v (option_of target)

  module _ (t : ℕ) (is : target ≡ Some t) where
    pass-as : (k : Rep) → (type_at (table_in b l c) t).rep ≡ k → pass_to (eqb i 0) (table_in b l c) v (option_of target) ≡ pass_as (eqb i 0) v k
    pass-as k w = ap (λ (o : Maybe ℕ). pass_to (eqb i 0) (table_in b l c) v (option_of o)) is ∙ ap (pass_as (eqb i 0) v) w

    pub pass-unknown : c.types ≤ t → passed_of r ≡ width_at v → Passes
    pass-unknown h w = w ∙ sym (pass-as w32 (ap (λ (x : Ty). x.rep) (type-out b l c t h)))

    module _ (low : t < c.types) (h : Head) (z : h ≡ head_of (get_or (types_in b) t no_raw_type)) where
      rep-of : (k : Rep) → rep_of h.rep ≡ k → (type_at (table_in b l c) t).rep ≡ k
      rep-of k w = ap (λ (x : Ty). x.rep) (type-is b l c t low) ∙ ap (λ (x : Head). rep_of x.rep) (sym z) ∙ w

      pub pass-ref : h.rep ≡ 0 → passed_of r ≡ refuse (at_layer (eqb i 0) unrelated) → Passes
      pass-ref y w = w ∙ sym (pass-as ref (rep-of ref (ap rep_of y)))

      pub pass-32 : h.rep ≡ 1 → passed_of r ≡ width_at v → Passes
      pass-32 y w = w ∙ sym (pass-as w32 (rep-of w32 (ap rep_of y)))

      pub pass-64 : (h.rep ≡ 0 → ⊥) → (h.rep ≡ 1 → ⊥) → passed_of r ≡ ok tt → Passes
      pass-64 x y w = w ∙ sym (pass-as w64 (rep-of w64 (rep-wide h.rep x y)))

-- ---- The rest of the layers.
-- the first n targets: what is left from i on
module _ (list : List (Maybe ℕ)) (n : ℕ) (few : n ≤ length list) where
  pub rest-next : (i : ℕ) → i < n → drop i (take n list) ≡ get_or list i None ∷ drop (i + 1) (take n list)
  rest-next i h =
      let k : i < length (take n list) = subst (λ (m : ℕ). i < m) (sym (length-take-le n list few)) h in
      drop-cons (take n list) i None k ∙ ap (λ (x : Maybe ℕ). x ∷ drop (suc i) (take n list)) (get_or-take n list i None h)
      ∙ ap (λ (m : ℕ). get_or list i None ∷ drop m (take n list)) (sym (add-one i))

pub nothing_left : {A : Type 0} (list : List A) (n i : ℕ) → n ≤ i → drop i (take n list) ≡ []
nothing_left list zero i h = drop-nil i
nothing_left [] (suc n) i h = drop-nil i
nothing_left (x ∷ xs) (suc n) zero h = absurd (not-suc-le-zero h)
nothing_left (x ∷ xs) (suc n) (suc i) h = nothing_left xs n i (le_of_suc-le-suc h)

-- what `pass_layers` does at a type of the representation, with what comes after
abbrev onward : Bool → ℤ → Res (Unit {0}) → Rep → Res (Unit {0})
onward first v k r = elim r [ ref ↦ refuse (at_layer first unrelated) | w32 ↦ need (within 2147483648 v) too_wide (λ _. k) | w64 ↦ k ]

abbrev tested : Bool → Res (Unit {0})
tested q = need q too_wide λ _. ok tt

onward-is : (first : Bool) (v : ℤ) (k : Res (Unit {0})) (r : Rep) → onward first v k r ≡ try (pass_as first v r) (λ _. k)
onward-is first v k ref = refl
onward-is first v k w32 = go (within 2147483648 v) where
  go : (q : Bool) → need q too_wide (λ _. k) ≡ try (tested q) (λ _. k)
  go true = refl
  go false = refl
onward-is first v k w64 = refl

pass_step : (first : Bool) (t : Table) (v : ℤ) (o : Option ℕ) (os : List (Option ℕ)) → pass_layers first t v (o ∷ os) ≡ try (pass_to first t v o) (λ _. pass_layers false t v os)
unfolding pass_layers
pass_step first t v none os = refl
pass_step first t v (some a) os = onward-is first v (pass_layers false t v os) (type_at t a).rep

-- all n targets are met as those from i on
abbrev pub PassRest : Table → ℤ → List (Maybe ℕ) → ℕ → ℕ → Type 0
PassRest t v list n i = pass_layers (eqb i 0) t v (map option_of (drop i (take n list))) ≡ pass_layers true t v (map option_of (take n list))

module _ (t : Table) (v : ℤ) (list : List (Maybe ℕ)) (n : ℕ) (few : n ≤ length list) (i : ℕ) (h : i < n) (w : PassRest t v list n i)
    (r : Result (Unit {0}) Refusal) (k : passed_of r ≡ pass_to (eqb i 0) t v (option_of (get_or list i None))) where
  pass_on : pass_layers true t v (map option_of (take n list)) ≡ try (passed_of r) (λ _. pass_layers false t v (map option_of (drop (i + 1) (take n list))))
  pass_on =
      sym w ∙ ap (λ (xs : List (Maybe ℕ)). pass_layers (eqb i 0) t v (map option_of xs)) (rest-next list n few i h)
      ∙ pass_step (eqb i 0) t v (option_of (get_or list i None)) (map option_of (drop (i + 1) (take n list)))
      ∙ ap (λ (x : Res (Unit {0})). try x (λ _. pass_layers false t v (map option_of (drop (i + 1) (take n list))))) (sym k)

  pub pass-stops : (e : Refusal) → r ≡ Err e → passed_of (Err e) ≡ pass_layers true t v (map option_of (take n list))
  pass-stops e z = sym (pass_on ∙ ap (λ (x : Result (Unit {0}) Refusal). try (passed_of x) (λ _. pass_layers false t v (map option_of (drop (i + 1) (take n list))))) z)

  pub pass-next : (x : Unit {0}) → r ≡ Ok x → PassRest t v list n (i + 1)
  pass-next x z = sym (pass_on ∙ ap (λ (y : Result (Unit {0}) Refusal). try (passed_of y) (λ _. pass_layers false t v (map option_of (drop (i + 1) (take n list))))) z
      ∙ ap (λ (q : Bool). pass_layers q t v (map option_of (drop (i + 1) (take n list)))) (sym (ne_eqb (i + 1) 0 (λ y. omega (arith, y)))))

pub pass-ends : (t : Table) (v : ℤ) (list : List (Maybe ℕ)) (n i : ℕ) → n ≤ i → PassRest t v list n i → ok tt ≡ pass_layers true t v (map option_of (take n list))
unfolding pass_layers
pass-ends t v list n i h w = sym (sym w ∙ ap (λ (xs : List (Maybe ℕ)). pass_layers (eqb i 0) t v (map option_of xs)) (nothing_left list n i h))
