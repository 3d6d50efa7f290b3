-- How a derivation begins: the search for a known type, which sheet types are not part of, and what needs no search.
use mathlib.Core.Path.{◌≡◌, refl, sym, ap, ◌∙◌}
use mathlib.Core.Bool.{Bool, true, false, ◌&&◌}
use mathlib.Core.List.{List, ◌∷◌}
use mathlib.Core.Option.{none, some}
use mathlib.Core.Option.{Option as Optionᵐ}
use Rattle.std.specs.Prelude.{Option, None, Some}
use Prim.Native.Nat.{ℕ, zero, suc, ◌+◌, ◌-◌, ◌≤◌, ◌<◌}
use native.Mathlib.Omega.{arith}
use native.Mathlib.Numerals.{add-one}
use lib.Dec.{eqb, ltb}
use lib.ListN.{get_or}
use borrow.Author.Tests.{eq-eqb, ne_eqb, lt-ltb, le-ltb}
use Rattle.spec_model.specs.Basics.{from}
use Rattle.spec_model.specs.Table.{Kind, sub, sup, closed, Ty, Table, type_at, is_ref, max_types}
use Rattle.spec_model.specs.Restriction.{is_key, find, without_new, main_side}
use Rattle.spec_model.specs.Check.{RawType, no_raw_type, rep_of, type_of}
use Rattle.spec_model.proofs.Rules.{second}
use Rattle.table_record.specs.declared.Counts.{Counts}
use Rattle.table_record.specs.declared.Kind.{Kind as Kindᵃ}
use Rattle.table_record.specs.declared.Kind.TheVariants.{Sub, Sup, Closed}
use Rattle.table_record.specs.Store.{kind_is, types_in, types_to, head_of, ref_in}
use Rattle.table_record.proofs.Tables.{ref-type}
use Rattle.derive_slots.specs.Slots.{key_in}
use Rattle.derive_record.specs.Begins.{Derived, tabled, Begins}

-- The search, from type i on.
find-by : (d : Kind) (t s i : ℕ) (x : Ty) (xs : List Ty) (b : Bool) → b ≡ is_key d t s x.key → find d t s i (x ∷ xs) ≡ elim b [ true ↦ some i | false ↦ find d t s (suc i) xs ]
unfolding find
find-by d t s i x xs b e = ap (λ (a : Bool). elim a as (λ _. Optionᵐ ℕ) [ true ↦ some i | false ↦ find d t s (suc i) xs ]) (sym e)

module _ (d : Kind) (t s n : ℕ) (x : ℕ → Ty) where
  abbrev Left : ℕ → Optionᵐ ℕ
  Left i = find d t s i (from (n - i) i x)

  one_more : (i : ℕ) → i < n → from (n - i) i x ≡ x i ∷ from (n - (i + 1)) (suc i) x
  unfolding from
  one_more i h = let l : n - i ≡ suc (n - (i + 1)) = omega arith in rw l

  find-here : (i : ℕ) → i < n → true ≡ is_key d t s (x i).key → Left i ≡ some i
  find-here i h e = ap (find d t s i) (one_more i h) ∙ find-by d t s i (x i) (from (n - (i + 1)) (suc i) x) true e

  find-next : (i : ℕ) → i < n → false ≡ is_key d t s (x i).key → Left i ≡ Left (i + 1)
  find-next i h e = ap (find d t s i) (one_more i h) ∙ find-by d t s i (x i) (from (n - (i + 1)) (suc i) x) false e ∙ rw add-one

  find-end : (i : ℕ) → n ≤ i → Left i ≡ none
  unfolding find from
  find-end i h = let l : n - i ≡ 0 = omega arith in rw l

  -- types without a key are passed over
  find-from : (i : ℕ) → i ≤ n → ((k : ℕ) → k < i → (x k).key ≡ none) → find d t s 0 (from n 0 x) ≡ Left i
  find-from zero h e = let l : n - 0 ≡ n = omega arith in rw l
  find-from (suc i) h e =
      find-from i (omega arith) (λ k l. e k (omega arith)) ∙ find-next i (omega arith) (sym (ap (is_key d t s) (e i (omega arith)))) ∙ rw add-one

-- The search over the first n types of the bytes.
module _ (d : Kind) (t s ms sh n : ℕ) (rs : List RawType) where
  abbrev Type-at : ℕ → Ty
  Type-at i = type_of ms sh i (get_or rs i no_raw_type)

  abbrev pub Rest : ℕ → Optionᵐ ℕ
  Rest i = find d t s i (from (n - i) i Type-at)

  sheet-key : (i : ℕ) → i < sh → (Type-at i).key ≡ none
  sheet-key i h = rw (lt-ltb i sh h)

  derived-key : (i : ℕ) → sh ≤ i → is_key d t s (key_in (head_of (get_or rs i no_raw_type))) ≡ is_key d t s (Type-at i).key
  derived-key i h = rw (le-ltb i sh h)

  pub search-starts : sh ≤ n → find d t s 0 (types_to ms sh n rs) ≡ Rest sh
  unfolding types_to
  search-starts h = find-from d t s n Type-at sh h sheet-key

  module _ (i : ℕ) (low : sh ≤ i) (so : find d t s 0 (types_to ms sh n rs) ≡ Rest i) where
    pub search-hit : i < n → true ≡ is_key d t s (key_in (head_of (get_or rs i no_raw_type))) → some i ≡ find d t s 0 (types_to ms sh n rs)
    search-hit h e = sym (so ∙ find-here d t s n Type-at i h (e ∙ derived-key i low))

    pub search-next : i < n → false ≡ is_key d t s (key_in (head_of (get_or rs i no_raw_type))) → find d t s 0 (types_to ms sh n rs) ≡ Rest (i + 1)
    search-next h e = so ∙ find-next d t s n Type-at i h (e ∙ derived-key i low)

    pub search-end : n ≤ i → none ≡ find d t s 0 (types_to ms sh n rs)
    search-end h = sym (so ∙ find-end d t s n Type-at i h)

-- Reference types.
pub ref-rep : (n t : ℕ) (b : List ℕ) → ref_in n b t ≡ true → is_ref (rep_of (get_or (types_in b) t no_raw_type).rep) ≡ true
ref-rep n t b e = second (ltb t n) _ e

-- What the search comes to.
module _ (o : Table → Optionᵐ ℕ) (n t s : ℕ) (b : List ℕ) where
  pub found-known : (i : ℕ) → ((T : Table) → some i ≡ o T) → i < n → Begins o n t s b (Some (Some (i, n)))
  found-known i is h = (λ T. sym (is T), refl, λ z p q r. omega arith)

  pub found-full : ((T : Table) → none ≡ o T) → max_types ≤ n → Begins o n t s b (Some None)
  found-full is l = (λ T. sym (is T), l)

begins-same : (o u : Table → Optionᵐ ℕ) (n t s : ℕ) (b : List ℕ) (g : Option Derived) → ((T : Table) → u T ≡ o T) → Begins o n t s b g → Begins u n t s b g
begins-same o u n t s b (Some None) e h = (λ T. e T ∙ h.0 T, h.1)
begins-same o u n t s b (Some (Some p)) e h = (λ T. e T ∙ h.0 T, h.1, h.2)
begins-same o u n t s b None e h = (λ T. e T ∙ h.0 T, h.1, h.2, h.3)

pub not-closed : (k : Kindᵃ) → (k ≡ Closed → ⊥) → kind_is k ≡ closed → ⊥
not-closed Sub h e = cc
not-closed Sup h e = cc
not-closed Closed h e = h refl

-- D12 and D13: the same type twice, and numbers.
abbrev Plain : ℕ → ℕ → Kind → Table → Bool → Bool → Optionᵐ ℕ
Plain t s d T same refs = elim same [ true ↦ some t | false ↦ elim refs [ true ↦ find d t s 0 T.types | false ↦ some (main_side d t s) ] ]

plain : (t s : ℕ) (d : Kind) (T : Table) → (d ≡ closed → ⊥) → without_new T d t s ≡ Plain t s d T (eqb t s) (is_ref (type_at T t).rep && is_ref (type_at T s).rep)
unfolding without_new
plain t s sub T h = refl
plain t s sup T h = refl
plain t s closed T h = absurd (h refl)

module _ (d : Kind) (t s : ℕ) (half : d ≡ closed → ⊥) where
  module _ (c : Counts) (n : ℕ) (b : List ℕ) where
    abbrev Without : Table → Optionᵐ ℕ
    Without T = without_new (tabled T c n b) d t s

    refs-are : (T : Table) → (is_ref (type_at (tabled T c n b) t).rep && is_ref (type_at (tabled T c n b) s).rep) ≡ (ref_in n b t && ref_in n b s)
    refs-are T = rw (ref-type n t b c.methods c.sheet, ref-type n s b c.methods c.sheet)

    without : (T : Table) → Without T ≡ Plain t s d (tabled T c n b) (eqb t s) (ref_in n b t && ref_in n b s)
    without T = plain t s d (tabled T c n b) half ∙ ap (Plain t s d (tabled T c n b) (eqb t s)) (refs-are T)

    pub begins-self : t ≡ s → Begins Without n t s b (Some (Some (t, n)))
    begins-self e = (λ T. without T ∙ ap (λ (a : Bool). Plain t s d (tabled T c n b) a (ref_in n b t && ref_in n b s)) (eq-eqb t s e), refl, λ z p q r. q)

    main-below : (k : Kind) (own z : ℕ) → own ≡ main_side k t s → t < z → s < z → own < z
    main-below sub own z e p q = omega arith
    main-below sup own z e p q = omega arith
    main-below closed own z e p q = omega arith

    pub begins-number : (own : ℕ) → own ≡ main_side d t s → (t ≡ s → ⊥) → (ref_in n b t && ref_in n b s) ≡ false → Begins Without n t s b (Some (Some (own, n)))
    begins-number own e ne off = (
      λ T. without T ∙ ap (λ (a : Bool). Plain t s d (tabled T c n b) a (ref_in n b t && ref_in n b s)) (ne_eqb t s ne) ∙ ap (λ (a : Bool). Plain t s d (tabled T c n b) false a) off ∙ ap some
          (sym e),
      refl,
      λ z p q r. main-below d own z e q r,
    )

    pub begins-search : (g : Option Derived) → (t ≡ s → ⊥) → ref_in n b t ≡ true → ref_in n b s ≡ true
        → Begins (λ T. find d t s 0 (types_to c.methods c.sheet n (types_in b))) n t s b g → Begins Without n t s b g
    begins-search g ne p q =
        begins-same (λ T. find d t s 0 (types_to c.methods c.sheet n (types_in b))) Without n t s b g
        (λ T. without T ∙ ap (λ (a : Bool). Plain t s d (tabled T c n b) a (ref_in n b t && ref_in n b s)) (ne_eqb t s ne)
        ∙ ap (λ (a : Bool). Plain t s d (tabled T c n b) false (a && ref_in n b s)) p ∙ ap (λ (a : Bool). Plain t s d (tabled T c n b) false a) q)

pub not_left : (a b : Bool) → a ≡ false → (a && b) ≡ false
not_left a b e = rw e

pub not_right : (a b : Bool) → b ≡ false → (a && b) ≡ false
not_right true b e = e
not_right false b e = refl

-- Closed has only the search.
pub closed-begins : (c : Counts) (n t s : ℕ) (b : List ℕ) (g : Option Derived) → Begins (λ T. find closed t s 0 (types_to c.methods c.sheet n (types_in b))) n t s b g → Begins
    (λ T. without_new (tabled T c n b) closed t s) n t s b g
unfolding without_new
closed-begins c n t s b g h = h
