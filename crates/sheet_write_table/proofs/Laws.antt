-- The lines of a type, by its record, and one method, type or category more behind those before.
use mathlib.Core.Path.{◌≡◌, refl, sym, ap, ◌∙◌}
use mathlib.Core.List.{List, [], ◌∷◌, ◌++◌, append_assoc, append-nil}
use Prim.Native.Nat.{ℕ, zero, suc, ◌+◌}
use native.Mathlib.Nat.{zero-add}
use native.Mathlib.Omega.{arith}
use native.Mathlib.Numerals.{add-one}
use lib.Dec.{eqb}
use lib.ListN.{get_or}
use Rattle.spec_model.specs.Basics.{from}
use Rattle.spec_model.specs.Check.{RawMethod, RawType, RawLinks, no_raw_method, no_raw_type, no_raw_links, rep_of, method_of, type_of, links_of}
use Rattle.table_record.specs.declared.Counts.{Counts}
use Rattle.table_record.specs.declared.Head.{Head}
use Rattle.table_record.specs.declared.Links.{Links}
use Rattle.table_record.specs.declared.Method.{Method}
use Rattle.table_record.specs.Store.{types_in, links_in, raw_method, raw_links, head_of, method_in, broader_of}
use Rattle.spec_sheet.specs.Lines.{bytes}
use Rattle.spec_sheet.specs.Text.{number_text, under_text, rep_text, own_text, method_text, each, member_lines, type_lines}
use Rattle.sheet_write_table.specs.Parts.{type_in, method_lines, type_lines_to, under_lines}

-- ---- a type: x is its record and h its head
module _ (i m s : ℕ) (x : RawType) where
  abbrev first_three : ℕ → ℕ → List (List ℕ)
  first_three r k = number_text (bytes "type=") i ∷ rep_text (rep_of r) ∷ number_text (bytes "cat=") k ∷ []

  pub ref-lines : x.rep ≡ 0 → first_three x.rep x.cat ++ (own_text (eqb x.own 1) ∷ each (λ j m. method_text m ∷ []) 0 (from m 0 (λ j. method_of (get_or x.methods j no_raw_method))))
      ≡ type_lines i (type_of m s i x)
  unfolding type_lines member_lines
  ref-lines e = rw e

  pub number-lines : (x.rep ≡ 0 → ⊥) → first_three x.rep x.cat ≡ type_lines i (type_of m s i x)
  unfolding type_lines member_lines
  number-lines h = ap (λ z. number_text (bytes "type=") i ∷ rep_text (rep_of x.rep) ∷ number_text (bytes "cat=") x.cat ∷ z) (sym (go x.rep h))
    where
      go : (r : ℕ) → (r ≡ 0 → ⊥) → member_lines (rep_of r) (type_of m s i x) ≡ []
      go zero h = absurd (h refl)
      go (suc zero) h = refl
      go (suc (suc r)) h = refl

-- the same, as the code has it
pub ref-type : (b : List ℕ) (c : Counts) (i : ℕ) (h : Head) → h ≡ head_of (get_or (types_in b) i no_raw_type) → h.rep ≡ 0
    → (number_text (bytes "type=") i ∷ rep_text (rep_of h.rep) ∷ number_text (bytes "cat=") h.cat ∷ []) ++ (own_text (eqb h.own 1) ∷ method_lines b i c.methods) ≡ type_lines i
    (type_in b c i)
unfolding method_lines
ref-type b c i h e z =
    let x : RawType = get_or (types_in b) i no_raw_type in
    let q : x.rep ≡ 0 = sym (ap (λ (y : Head). y.rep) e) ∙ z in
    ap (λ (y : Head). (number_text (bytes "type=") i ∷ rep_text (rep_of y.rep) ∷ number_text (bytes "cat=") y.cat ∷ []) ++ (own_text (eqb y.own 1) ∷ method_lines b i c.methods)) e
    ∙ ref-lines i c.methods c.sheet x q

pub number-type : (b : List ℕ) (c : Counts) (i : ℕ) (h : Head) → h ≡ head_of (get_or (types_in b) i no_raw_type) → (h.rep ≡ 0 → ⊥)
    → number_text (bytes "type=") i ∷ rep_text (rep_of h.rep) ∷ number_text (bytes "cat=") h.cat ∷ [] ≡ type_lines i (type_in b c i)
number-type b c i h e z =
    let x : RawType = get_or (types_in b) i no_raw_type in
    ap (λ (y : Head). number_text (bytes "type=") i ∷ rep_text (rep_of y.rep) ∷ number_text (bytes "cat=") y.cat ∷ []) e
    ∙ number-lines i c.methods c.sheet x (λ q. z (ap (λ (y : Head). y.rep) e ∙ q))

-- ---- one more
each_last : {A : Type 0} (f : ℕ → A → List (List ℕ)) (g : ℕ → A) (c i k : ℕ) → each f i (from c k g) ++ f (i + c) (g (k + c)) ≡ each f i (from (suc c) k g)
unfolding each from
each_last f g zero i k =
    let p : i + 0 ≡ i = omega arith in
    let q : k + 0 ≡ k = omega arith in
    ap (λ z. f z (g (k + 0))) p ∙ ap (λ z. f i (g z)) q ∙ sym (append-nil (f i (g k)))
each_last f g (suc c) i k =
    let p : i + suc c ≡ suc i + c = omega arith in
    let q : k + suc c ≡ suc k + c = omega arith in
    append_assoc (f i (g k)) (each f (suc i) (from c (suc k) g)) (f (i + suc c) (g (k + suc c)))
    ∙ ap (λ z. f i (g k) ++ (each f (suc i) (from c (suc k) g) ++ f z (g (k + suc c)))) p
    ∙ ap (λ z. f i (g k) ++ (each f (suc i) (from c (suc k) g) ++ f (suc i + c) (g z))) q
    ∙ ap (λ z. f i (g k) ++ z) (each_last f g c (suc i) (suc k))

pub method-next : (b : List ℕ) (i j : ℕ) (m : Method) → raw_method m ≡ get_or (get_or (types_in b) i no_raw_type).methods j no_raw_method
    → method_lines b i j ++ (method_text (method_of (raw_method m)) ∷ []) ≡ method_lines b i (j + 1)
unfolding method_lines
method-next b i j m e =
    ap (λ (z : RawMethod). method_lines b i j ++ (method_text (method_of z) ∷ [])) e
    ∙ ap (λ z. method_lines b i j ++ (method_text (method_in b i z) ∷ [])) (sym (zero-add j))
    ∙ each_last (λ j m. method_text m ∷ []) (method_in b i) j 0 0
    ∙ ap (λ z. method_lines b i z) (sym (add-one j))

pub type-next : (b : List ℕ) (c : Counts) (i : ℕ) → type_lines_to b c i ++ type_lines i (type_in b c i) ≡ type_lines_to b c (i + 1)
unfolding type_lines_to
type-next b c i =
    ap (λ z. type_lines_to b c i ++ type_lines z (type_in b c z)) (sym (zero-add i))
    ∙ each_last type_lines (type_in b c) i 0 0
    ∙ ap (λ z. type_lines_to b c z) (sym (add-one i))

pub under_next : (l : List ℕ) (i : ℕ) (x : Links) → raw_links x ≡ get_or (links_in l) (i + 1) no_raw_links → under_lines l i ++ (under_text (links_of (raw_links x)) ∷ []) ≡ under_lines l (i + 1)
unfolding under_lines
under_next l i x e =
    let p : i + 1 ≡ 1 + i = omega arith in
    ap (λ (z : RawLinks). under_lines l i ++ (under_text (links_of z) ∷ [])) e
    ∙ ap (λ z. under_lines l i ++ (under_text (broader_of l z) ∷ [])) p
    ∙ each_last (λ k links. under_text links ∷ []) (broader_of l) i 1 1
    ∙ ap (λ z. under_lines l z) (sym (add-one i))

-- none yet
pub methods-none : (b : List ℕ) (i : ℕ) → [] ≡ method_lines b i 0
unfolding method_lines from each
methods-none b i = refl

pub types-none : (b : List ℕ) (c : Counts) → [] ≡ type_lines_to b c 0
unfolding type_lines_to from each
types-none b c = refl

pub unders-none : (l : List ℕ) → [] ≡ under_lines l 0
unfolding under_lines from each
unders-none l = refl
