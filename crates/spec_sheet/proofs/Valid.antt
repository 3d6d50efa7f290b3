-- What the reader tests, line by line and the types in signatures last, is what the model asks of a sheet's table (`valid_sheet`).
use mathlib.Core.Path.{◌≡◌, refl, sym, ap, ◌∙◌, subst}
use mathlib.Core.Bool.{Bool, true, false, ◌&&◌, So, cond}
use mathlib.Core.List.{List, [], ◌∷◌}
use mathlib.Core.Option.{Option, none, some}
use Prim.Native.Nat.{ℕ, zero, suc, ◌+◌, ◌≤◌, ◌<◌}
use native.Mathlib.Decide.{dec_lt}
use native.Mathlib.Omega.{arith}
use lib.Dec.{eqb, ltb, leb}
use lib.ListN.{length, get_or, take}
use lib.Seq.{take_all, length-take-le, get_or-take}
use borrow.Author.Tests.{leb-true, eqb-true, lt-ltb, le-leb, lt-leb, eq-eqb}
use Rattle.spec_model.specs.Basics.{◌⇒◌, all, every, unless_missing}
use Rattle.spec_model.specs.Table.{Key, Method, Ty, Table, no_type, size, type_at, with_types, is_ref, permit, is_nil, is_none, between, counts_fit, links_fit, may_stand, stands_in, signature_fits}
use Rattle.spec_model.specs.Table.{method_count, key_fits, type_fits, table_fits, valid_sheet, max_subjects, max_methods, max_categories, max_sheet_types, max_types, max_arguments}
use Rattle.spec_model.proofs.Rules.{both, first, second}
use Rattle.spec_sheet.specs.Text.{without_derived}
use Rattle.spec_sheet.specs.Sheet.{below, stands, signatures_stand}
use Rattle.spec_sheet.proofs.LineKinds.{between-high, signature_in, all-weaken, missing-weaken}
use Rattle.spec_sheet.proofs.Types.{type_right, LinesRight, every-all}

-- the test of signatures taken out of a conjunction
pair-out : (a b c d : Bool) → (a && b) && (c && d) ≡ (a && c) && (b && d)
pair-out false b c d = refl
pair-out true false true d = refl
pair-out true false false d = refl
pair-out true true c d = refl

type-out : (a b c d k o : Bool) → a && (b && (c && ((d && o) && k))) ≡ (a && (b && (c && (d && k)))) && o
type-out false b c d k o = refl
type-out true false c d k o = refl
type-out true true false d k o = refl
type-out true true true false k o = refl
type-out true true true true true true = refl
type-out true true true true true false = refl
type-out true true true true false true = refl
type-out true true true true false false = refl

behind-out : (a b o : Bool) → a && (b && o) ≡ (a && b) && o
behind-out true b o = refl
behind-out false b o = refl

module _ {A : Type 0} (g : ℕ → A → Bool) (f o : A → Bool) (end : ℕ) (e : (i : ℕ) (x : A) → i < end → g i x ≡ f x && o x) where
  every-out : (i : ℕ) (xs : List A) → i + length xs ≤ end → every g i xs ≡ all f xs && all o xs
  every-out i [] h = refl
  every-out i (x ∷ xs) h = ap (λ z. z && every g (suc i) xs) (e i x (omega arith)) ∙ ap (λ z. (f x && o x) && z) (every-out (suc i) xs (omega arith))
      ∙ pair-out (f x) (o x) (all f xs) (all o xs)

all-out : {A : Type 0} (g f o : A → Bool) → ((x : A) → g x ≡ f x && o x) → (xs : List A) → all g xs ≡ all f xs && all o xs
all-out g f o e [] = refl
all-out g f o e (x ∷ xs) = ap (λ z. z && all g xs) (e x) ∙ ap (λ z. (f x && o x) && z) (all-out g f o e xs) ∙ pair-out (f x) (o x) (all f xs) (all o xs)

module _ (t : Table) where
  abbrev may : ℕ → Bool
  may a = may_stand (type_at t a)

  answer-out : (n : ℕ) (o : Option ℕ) → unless_missing o (stands_in t n) ≡ unless_missing o (below n) && unless_missing o may
  answer-out n none = refl
  answer-out n (some a) = refl

  unsigned-out : (xs : List ℕ) (o : Option ℕ) → is_nil xs && is_none o ≡ (is_nil xs && is_none o) && (all may xs && unless_missing o may)
  unsigned-out [] none = refl
  unsigned-out [] (some a) = refl
  unsigned-out (x ∷ xs) o = refl

  signed-out : (n : ℕ) (m : Method) → leb (length m.args) max_arguments && (all (stands_in t n) m.args && unless_missing m.answer (stands_in t n))
      ≡ (leb (length m.args) max_arguments && (all (below n) m.args && unless_missing m.answer (below n))) && stands may m
  signed-out n m =
      ap (λ z. leb (length m.args) max_arguments && z) (ap (λ z. z && unless_missing m.answer (stands_in t n)) (all-out (stands_in t n) (below n) may (λ a. refl) m.args)
      ∙ ap (λ z. (all (below n) m.args && all may m.args) && z) (answer-out n m.answer)
      ∙ pair-out (all (below n) m.args) (all may m.args) (unless_missing m.answer (below n)) (unless_missing m.answer may))
      ∙ behind-out (leb (length m.args) max_arguments) (all (below n) m.args && unless_missing m.answer (below n)) (stands may m)

  signature-out : (n : ℕ) (m : Method) → signature_fits t n m ≡ signature_in n m && stands may m
  signature-out n m = go (permit m.state)
    where
      go : (b : Bool) → elim b [
        | true ↦ leb (length m.args) max_arguments && (all (stands_in t n) m.args && unless_missing m.answer (stands_in t n))
        | false ↦ is_nil m.args && is_none m.answer
      ]
          ≡ cond b (leb (length m.args) max_arguments && (all (below n) m.args && unless_missing m.answer (below n))) (is_nil m.args && is_none m.answer) && stands may m
      go true = signed-out n m
      go false = unsigned-out m.args m.answer

  key-none : (i : ℕ) (k : Option Key) → i < t.sheet → key_fits t i k ≡ is_none k
  key-none i none h = lt-ltb i t.sheet h
  key-none i (some k) h = ap (λ z. z && (ltb k.left (size t) && ltb k.right (size t))) (lt-leb t.sheet i h)

  abbrev right_at : Ty → Bool
  right_at x = type_right t.methods (length t.cats) t.sheet x

  abbrev type_stands : Ty → Bool
  type_stands x = all (stands may) x.methods

  type-fits-out : (i : ℕ) (x : Ty) → i < t.sheet → type_fits t i x ≡ right_at x && type_stands x
  unfolding type_right
  type-fits-out i x h =
      let A : Bool = leb x.cat (length t.cats) in
      let B : Bool = x.own ⇒ is_ref x.rep in
      let C : Bool = eqb (length x.methods) (method_count x.rep t.methods) in
      ap (λ z. A && (B && (C && (all (signature_fits t (cond z t.sheet (size t))) x.methods && key_fits t i x.key)))) (lt-ltb i t.sheet h)
      ∙ ap (λ z. A && (B && (C && (z && key_fits t i x.key)))) (all-out (signature_fits t t.sheet) (signature_in t.sheet) (stands may) (signature-out t.sheet) x.methods)
      ∙ ap (λ z. A && (B && (C && ((all (signature_in t.sheet) x.methods && type_stands x) && z)))) (key-none i x.key h)
      ∙ type-out A B C (all (signature_in t.sheet) x.methods) (is_none x.key) (type_stands x)

  types-fit-out : (xs : List Ty) → length xs ≤ t.sheet → every (type_fits t) 0 xs ≡ all right_at xs && all type_stands xs
  types-fit-out xs h = every-out (type_fits t) right_at type_stands t.sheet type-fits-out 0 xs (omega arith)

-- a table without derived types is its own
pub without-none : (t : Table) → length t.types ≡ t.sheet → without_derived t ≡ t
without-none t h = ap (with_types t) (take_all t.sheet t.types (omega (arith, h)))

-- from the lines and the test of signatures to the model's test
pub valid-test : (t : Table) → LinesRight t → So (signatures_stand t) → So (valid_sheet t)
unfolding valid_sheet table_fits signatures_stand
valid-test t r o =
    let n : t.sheet ≤ max_sheet_types = between-high 1 max_sheet_types t.sheet r.sheet in
    let e : length t.types ≡ t.sheet = r.count in
    both
    (both
    (both r.subjects
    (both r.methods (both (le-leb (length t.cats) max_categories r.cats) (both r.sheet (both (le-leb t.sheet (size t) (omega arith)) (le-leb (size t) max_types (omega arith)))))))
    (both r.links (types-fit-out t t.types (omega arith) ∙ both (sym (every-all (right_at t) 0 t.types) ∙ r.types) o)))
    (eq-eqb t.sheet (size t) (sym e))

every_take : {A : Type 0} (f : ℕ → A → Bool) (n i : ℕ) (xs : List A) → So (every f i xs) → So (every f i (take n xs))
every_take f zero i xs h = refl
every_take f (suc n) i [] h = refl
every_take f (suc n) i (x ∷ xs) h = both (first (f i x) _ h) (every_take f n (suc i) xs (second (f i x) _ h))

-- a type that may stand in the table's signatures may stand in the sheet's
stands-kept : (t : Table) (a : ℕ) → So (may t a) → So (may (without_derived t) a)
stands-kept t a h = go (dec_lt a t.sheet)
  where
    go : Dec (a < t.sheet) → So (may (without_derived t) a)
    go (yes l) = ap may_stand (get_or-take t.sheet t.types a no_type l) ∙ h
    go (no l) = ap may_stand (out t.sheet a t.types (omega arith))
      where
        out : (n a : ℕ) (xs : List Ty) → n ≤ a → get_or (take n xs) a no_type ≡ no_type
        out zero a xs h = refl
        out (suc n) a [] h = refl
        out (suc n) zero (x ∷ xs) h = absurd (omega arith)
        out (suc n) (suc a) (x ∷ xs) h = out n a xs (omega arith)

-- from the model's test of any table to its sheet's lines and the test of signatures
pub fits-says : (t : Table) → So (table_fits t) → LinesRight (without_derived t) × So (signatures_stand (without_derived t))
unfolding table_fits signatures_stand
fits-says t h =
    let counts = first (counts_fit t) _ h in
    let c₁ = second (between 1 max_subjects t.subjects) _ counts in
    let c₂ = second (between 1 max_methods t.methods) _ c₁ in
    let c₃ = second (leb (length t.cats) max_categories) _ c₂ in
    let c₄ = second (between 1 max_sheet_types t.sheet) _ c₃ in
    let rest = second (counts_fit t) _ h in
    let short : t.sheet ≤ length t.types = leb-true t.sheet (size t) (first (leb t.sheet (size t)) _ c₄) in
    let ts : List Ty = take t.sheet t.types in
    let n : length ts ≡ t.sheet = length-take-le t.sheet t.types short in
    let q : So (all (right_at t) ts && all (type_stands t) ts) = sym (types-fit-out t ts (omega arith))
    ∙ every_take (type_fits t) t.sheet 0 t.types (second (every links_fit 1 t.cats) _ rest) in (
      record {
        subjects = first (between 1 max_subjects t.subjects) _ counts;
        methods = first (between 1 max_methods t.methods) _ c₁;
        cats = leb-true (length t.cats) max_categories (first (leb (length t.cats) max_categories) _ c₂);
        links = first (every links_fit 1 t.cats) _ rest;
        sheet = first (between 1 max_sheet_types t.sheet) _ c₃;
        count = n;
        types = every-all (right_at t) 0 ts ∙ first (all (right_at t) ts) _ q;
      },
      all-weaken (type_stands t) (type_stands (without_derived t)) ts
          (λ x. all-weaken (stands (may t)) (stands (may (without_derived t))) x.methods
          (λ m k. both (all-weaken (may t) (may (without_derived t)) m.args (stands-kept t) (first (all (may t) m.args) _ k))
          (missing-weaken (may t) (may (without_derived t)) m.answer (stands-kept t) (second (all (may t) m.args) _ k))))
          (second (all (right_at t) ts) _ q),
    )

-- The sheet of a table that keeps the rules is a valid one.
pub sheet-valid : (t : Table) → So (table_fits t) → So (valid_sheet (without_derived t))
sheet-valid t h = let i = fits-says t h in valid-test (without_derived t) i.0 i.1

pub valid-whole : (t : Table) → So (valid_sheet t) → without_derived t ≡ t
unfolding valid_sheet
valid-whole t h = without-none t (sym (eqb-true t.sheet (size t) (second (table_fits t) _ h)))

pub valid-says : (t : Table) → So (valid_sheet t) → LinesRight t × So (signatures_stand t)
unfolding valid_sheet
valid-says t h = subst (λ z. LinesRight z × So (signatures_stand z)) (valid-whole t h) (fits-says t (first (table_fits t) _ h))
