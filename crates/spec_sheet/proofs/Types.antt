-- The lines of a type, and all lines of a sheet but the last, are read exactly.
use mathlib.Core.Path.{◌≡◌, refl, sym, ap, ◌∙◌, subst}
use mathlib.Core.Bool.{Bool, true, false, ◌&&◌, So}
use mathlib.Core.List.{List, [], ◌∷◌, append-nil}
use mathlib.Core.Option.{Option, none, some}
use Prim.Native.Nat.{ℕ, suc, ◌+◌, ◌≤◌, ◌<◌}
use native.Mathlib.Omega.{arith}
use lib.Dec.{eqb, leb}
use lib.ListN.{length}
use borrow.Author.Tests.{le-leb, eqb-true, eq-eqb}
use Rattle.spec_model.specs.Basics.{◌⇒◌, all, every}
use Rattle.spec_model.specs.Table.{Rep, ref, w32, w64, Key, Method, Ty, Table, is_ref, is_none, between, links_fit, method_count, max_subjects, max_methods, max_categories, max_sheet_types}
use Rattle.spec_model.proofs.Rules.{both, first, second, never}
use Rattle.spec_sheet.specs.Lines.{bytes, pure, line}
use Rattle.spec_sheet.specs.Text.{newest_form, under_text, method_text, each, member_lines, type_lines, sheet_lines}
use Rattle.spec_sheet.specs.Numbers.{top}
use Rattle.spec_sheet.specs.Sheet.{under_line, method_line, sheet_type, members, one_type, body}
use Rattle.spec_sheet.proofs.LineKinds.{between-low, between-high, in_between, number-exact, under-exact, rep-exact, own-exact, signature_in, method-exact}
use Rattle.spec_sheet.proofs.Readers.{Exact, line-exact, pure-exact, bind-exact, exact-lines, times-exact}

-- What the lines of a type say where there are m methods, c categories and n types.
unfoldable pub type_right : ℕ → ℕ → ℕ → Ty → Bool
type_right m c n x = leb x.cat c && ((x.own ⇒ is_ref x.rep) && (eqb (length x.methods) (method_count x.rep m) && (all (signature_in n) x.methods && is_none x.key)))

-- the same, part by part
record TypeParts (m c n : ℕ) (x : Ty) : Type 0 where
  cat : So (leb x.cat c)
  own : So (x.own ⇒ is_ref x.rep)
  count : length x.methods ≡ method_count x.rep m
  methods : So (all (signature_in n) x.methods)
  key : x.key ≡ none

is-none : (k : Option Key) → So (is_none k) → k ≡ none
is-none none h = refl
is-none (some k) h = never h

type-parts : (m c n : ℕ) (x : Ty) → So (type_right m c n x) → TypeParts m c n x
unfolding type_right
type-parts m c n x h =
    let h₁ = second (leb x.cat c) _ h in
    let h₂ = second (x.own ⇒ is_ref x.rep) _ h₁ in
    let h₃ = second (eqb (length x.methods) (method_count x.rep m)) _ h₂ in
    record {
      cat = first (leb x.cat c) _ h;
      own = first (x.own ⇒ is_ref x.rep) _ h₁;
      count = eqb-true (length x.methods) (method_count x.rep m) (first (eqb (length x.methods) (method_count x.rep m)) _ h₂);
      methods = first (all (signature_in n) x.methods) _ h₃;
      key = is-none x.key (second (all (signature_in n) x.methods) _ h₃);
    }

from_parts : (m c n : ℕ) (x : Ty) → TypeParts m c n x → So (type_right m c n x)
unfolding type_right
from_parts m c n x p = both p.cat (both p.own (both (eq-eqb (length x.methods) (method_count x.rep m) p.count) (both p.methods (ap is_none p.key))))

type-is : {r : Rep} {c : ℕ} {o : Bool} {ms : List Method} (y : Ty) → y.rep ≡ r → y.cat ≡ c → y.own ≡ o → y.methods ≡ ms → y.key ≡ none → sheet_type r c o ms ≡ y
type-is y p q s u v = sym (λ i. record { rep = p i; cat = q i; own = s i; methods = u i; key = v i })

no_own : (b : Bool) → So (b ⇒ false) → b ≡ false
no_own true h = sym h
no_own false h = refl

imply-true : (b : Bool) → So (b ⇒ true)
imply-true true = refl
imply-true false = refl

nil-methods : (ms : List Method) → length ms ≡ 0 → ms ≡ []
nil-methods [] h = refl
nil-methods (x ∷ ms) h = absurd (omega arith)

pub every-all {ℓ} : {A : Type ℓ} (f : A → Bool) (i : ℕ) (xs : List A) → every (λ j. f) i xs ≡ all f xs
every-all f i [] = refl
every-all f i (x ∷ xs) = ap (λ z. f x && z) (every-all f (suc i) xs)

module _ (m c n : ℕ) (hm : m ≤ max_methods) (hc : c ≤ max_categories) (hn : n ≤ max_sheet_types) where
  -- what fits once representation and category are read; Q is what was found before
  abbrev Rest : Type 0 → Rep → ℕ → Ty → Type 0
  Rest Q r k y = (y.cat ≡ k) × ((y.rep ≡ r) × (Q × So (type_right m c n y)))

  one-method : (j : ℕ) → j < top → Exact (line (method_line n)) (λ x. So (signature_in n x)) (λ x. method_text x ∷ [])
  one-method j h = line-exact (method-exact n (omega arith))

  ref-exact : (Q : Type 0) → Q → (k : ℕ) → So (leb k c) → Exact (members m n ref k) (Rest Q ref k) (member_lines ref)
  unfolding members member_lines
  ref-exact Q q k hk = bind-exact (λ y. y.own) (line-exact own-exact) (λ y o. tt) λ o u.
      exact-lines (λ y f. append-nil (each (λ j x. method_text x ∷ []) 0 y.methods))
      (bind-exact (λ y. y.methods) (times-exact (λ j. line (method_line n)) (λ j. signature_in n) (λ j x. method_text x ∷ []) top one-method m 0 (omega arith))
      (λ y f. let p = type-parts m c n y f.1.1.1.1 in (p.count ∙ ap (λ z. method_count z m) f.1.1.0, every-all (signature_in n) 0 y.methods ∙ p.methods))
      λ ms g. pure-exact (
        refl,
        (
          refl,
          (
            refl,
            (
              refl,
              (
                q,
                from_parts m c n (sheet_type ref k o ms)
                    (record { cat = hk; own = imply-true o; count = g.0; methods = sym (every-all (signature_in n) 0 ms) ∙ g.1; key = refl }),
              ),
            ),
          ),
        ),
      )
      λ y f. type-is y f.1.1.1.0 f.1.1.0 f.1.0 f.0 (type-parts m c n y f.1.1.1.1.1).key)

  number-type : (r : Rep) → is_ref r ≡ false → method_count r m ≡ 0 → (Q : Type 0) → Q → (k : ℕ) → So (leb k c) → Exact (pure (sheet_type r k false [])) (Rest Q r k) (λ y. [])
  number-type r er em Q q k hk = pure-exact
      (refl, (refl, (q, from_parts m c n (sheet_type r k false []) (record { cat = hk; own = refl; count = sym em; methods = refl; key = refl }))))
      λ y f. let p = type-parts m c n y f.1.1.1 in
      type-is y f.1.0 f.0 (no_own y.own (subst (λ z. So (y.own ⇒ z)) (ap is_ref f.1.0 ∙ er) p.own))
      (nil-methods y.methods (p.count ∙ ap (λ z. method_count z m) f.1.0 ∙ em)) p.key

  members-exact : (Q : Type 0) → Q → (r : Rep) (k : ℕ) → So (leb k c) → Exact (members m n r k) (Rest Q r k) (λ y. member_lines y.rep y)
  unfolding members member_lines
  members-exact Q q ref k hk = exact-lines (λ y f. ap (λ z. member_lines z y) (sym f.1.0)) (ref-exact Q q k hk)
  members-exact Q q w32 k hk = exact-lines (λ y f. ap (λ z. member_lines z y) (sym f.1.0)) (number-type w32 refl refl Q q k hk)
  members-exact Q q w64 k hk = exact-lines (λ y f. ap (λ z. member_lines z y) (sym f.1.0)) (number-type w64 refl refl Q q k hk)

  only : (i x : ℕ) → So (between i i x) → i ≡ x
  only i x h = let l : i ≤ x = between-low i i x h in let u : x ≤ i = between-high i i x h in omega arith

  pub type-exact : (i : ℕ) → i < top → Exact (one_type m c n i) (λ y. So (type_right m c n y)) (type_lines i)
  unfolding one_type type_lines
  type-exact i hi = bind-exact (λ y. i) (line-exact (number-exact (bytes "type=") i i hi refl)) (λ y f. in_between i i i (omega arith) (omega arith)) λ x hx.
      bind-exact (λ y. y.rep) (line-exact rep-exact) (λ y f. tt) λ r u.
      bind-exact (λ y. y.cat) (line-exact (number-exact (bytes "cat=") 0 c (omega arith) refl)) (λ y f. both (le-leb 0 y.cat (omega arith)) (type-parts m c n y f.1.1).cat) λ k hk.
      members-exact (i ≡ x) (only i x hx) r k (second (leb 0 k) _ hk)

-- What the lines of a sheet say, own in signatures aside.
pub record LinesRight (t : Table) : Type 0 where
  pub subjects : So (between 1 max_subjects t.subjects)
  pub methods : So (between 1 max_methods t.methods)
  pub cats : length t.cats ≤ max_categories
  pub links : So (every links_fit 1 t.cats)
  pub sheet : So (between 1 max_sheet_types t.sheet)
  pub count : length t.types ≡ t.sheet
  pub types : So (every (λ i. type_right t.methods (length t.cats) t.sheet) 0 t.types)

table_is : {s m n : ℕ} {us : List (List ℕ)} {ts : List Ty} (t : Table) → t.subjects ≡ s → t.methods ≡ m → t.cats ≡ us → t.sheet ≡ n → t.types ≡ ts
    → record { subjects = s; methods = m; cats = us; sheet = n; types = ts } ≡ t
table_is t p q u v w = sym (λ i. record { subjects = p i; methods = q i; cats = u i; sheet = v i; types = w i })

one-under : (c : ℕ) → c ≤ max_categories → (k : ℕ) → k < suc c → Exact (line (under_line c k)) (λ us. So (links_fit k us)) (λ us. under_text us ∷ [])
one-under c h k l = line-exact (under-exact c k (omega arith) (omega arith))

right-at : {m c n : ℕ} (t : Table) → t.methods ≡ m → length t.cats ≡ c → t.sheet ≡ n → So (every (λ i. type_right t.methods (length t.cats) t.sheet) 0 t.types)
    → So (every (λ i. type_right m c n) 0 t.types)
right-at t p q r h = rw (p, q, r) at h

pub body-exact : Exact body LinesRight sheet_lines
unfolding body sheet_lines
body-exact = bind-exact (λ t. newest_form) (line-exact (number-exact (bytes "guide=") 1 newest_form (omega arith) refl)) (λ t f. refl) λ g hg.
    bind-exact (λ t. t.subjects) (line-exact (number-exact (bytes "subjects=") 1 max_subjects (omega arith) refl)) (λ t f. f.1.subjects) λ s hs.
    bind-exact (λ t. t.methods) (line-exact (number-exact (bytes "methods=") 1 max_methods (omega arith) refl)) (λ t f. f.1.1.methods) λ m hm.
    bind-exact (λ t. length t.cats) (line-exact (number-exact (bytes "cats=") 0 max_categories (omega arith) refl))
    (λ t f. in_between 0 max_categories (length t.cats) (omega arith) f.1.1.1.cats) λ c hc.
    bind-exact (λ t. t.cats) (times-exact (λ k. line (under_line c k)) links_fit (λ k us. under_text us ∷ []) (suc c) (one-under c (between-high 0 max_categories c hc)) c 1 (omega arith))
    (λ t f. (f.0, f.1.1.1.1.links)) λ us hu.
    bind-exact (λ t. t.sheet) (line-exact (number-exact (bytes "types=") 1 max_sheet_types (omega arith) refl)) (λ t f. f.1.1.1.1.1.sheet) λ n hn.
    exact-lines (λ t f. append-nil (each type_lines 0 t.types))
    (bind-exact (λ t. t.types)
    (times-exact (one_type m c n) (λ i. type_right m c n) type_lines top
    (type-exact m c n (between-high 1 max_methods m hm) (between-high 0 max_categories c hc) (between-high 1 max_sheet_types n hn)) n 0 (small n hn))
    (λ t f. (
      f.1.1.1.1.1.1.count ∙ f.0,
      right-at t f.1.1.1.0 f.1.1.0 f.0 f.1.1.1.1.1.1.types,
    ))
    λ ts ht. pure-exact (
      refl,
      (
        refl,
        (
          refl,
          (
            hu.0,
            (
              refl,
              (
                refl,
                (
                  only-form g hg,
                  record {
                    subjects = hs;
                    methods = hm;
                    cats = subst (λ z. z ≤ max_categories) (sym hu.0) (between-high 0 max_categories c hc);
                    links = hu.1;
                    sheet = hn;
                    count = ht.0;
                    types = subst (λ z. So (every (λ i. type_right m z n) 0 ts)) (sym hu.0) ht.1;
                  },
                ),
              ),
            ),
          ),
        ),
      ),
    )
    λ t f. table_is t f.1.1.1.1.1.0 f.1.1.1.1.0 f.1.1.0 f.1.0 f.0)
  where
    small : (n : ℕ) → So (between 1 max_sheet_types n) → 0 + n ≤ top
    small n h = let q : n ≤ max_sheet_types = between-high 1 max_sheet_types n h in omega arith

    only-form : (g : ℕ) → So (between 1 newest_form g) → newest_form ≡ g
    only-form g h = let l : 1 ≤ g = between-low 1 newest_form g h in let u : g ≤ 1 = between-high 1 newest_form g h in omega arith
