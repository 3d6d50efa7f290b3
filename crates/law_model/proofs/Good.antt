-- Good tables: every derived type is what its key says. A derivation from a good table gives a good table.
use mathlib.Core.Path.{◌≡◌, refl, ap, sym, subst, ◌∙◌}
use mathlib.Core.Logic.{◌⊎◌, inl, inr}
use mathlib.Core.Bool.{Bool, true, false, So}
use mathlib.Core.List.{List, [], ◌∷◌}
use mathlib.Core.Option.{Option, none, some, none-ne-some}
use Prim.Native.Nat.{ℕ, zero, suc, ◌≤◌, ◌<◌}
use native.Mathlib.Omega.{arith}
use native.Mathlib.Decide.{dec_lt}
use lib.Dec.{leb}
use lib.ListN.{length, get_or-eq_default}
use Rattle.spec_model.specs.Basics.{AllBelow}
use Rattle.spec_model.specs.Table.{max_arguments, max_subjects, max_methods, max_categories, max_sheet_types, between, counts_fit, max_types, Rep, ref, w32, w64, sub, sup, closed, permit, method_count}
use Rattle.spec_model.specs.Table.{Method, Key, Kind, Table, no_type, size, type_at, method_at, is_ref}
use Rattle.spec_model.specs.Relations.{free, related}
use Rattle.spec_model.specs.Restriction.{main_side, derive, arg_kind, answer_kind}
use Rattle.spec_model.proofs.Tests.{leb-so, so-leb}
use Rattle.spec_model.proofs.Rules.{never, both, first, second}
use Rattle.spec_model.proofs.Derived.{Known, itself, of_number, made, ArgsFrom, AnswerFrom, DerivedMethod, past, here, AnswerBelow, SignaturesIn, CategoryOrder, Complete}
use Rattle.spec_model.proofs.Growth.{Grown, grown-refl, cats-grow, method-same}
use Rattle.law_model.proofs.Unowned.{AllUnowned, AnswerUnowned, UnownedSignatures}
use Rattle.law_model.proofs.Deriving.{derive-roomy, IfSome}
use Rattle.law_model.proofs.Completes.{Inv, Got, signature-below-more, grown-keys, method-keys, Fresh, main-in, EvenMethods, derive-ok}

-- Every type has as many methods as T10 and T11 say: a ref type one for each method, a number type none.
abbrev pub MethodCounts : Table → Type 0
MethodCounts t = (i : ℕ) → i < size t → length (type_at t i).methods ≡ method_count (type_at t i).rep t.methods

count-sort : (a b : Rep) (n : ℕ) → is_ref a ≡ is_ref b → method_count a n ≡ method_count b n
count-sort ref ref n e = refl
count-sort ref w32 n e = never (sym e)
count-sort ref w64 n e = never (sym e)
count-sort w32 ref n e = never e
count-sort w32 w32 n e = refl
count-sort w32 w64 n e = refl
count-sort w64 ref n e = never e
count-sort w64 w32 n e = refl
count-sort w64 w64 n e = refl

pub even-methods : (t : Table) → MethodCounts t → EvenMethods t
even-methods t c i j a b e = c i a ∙ count-sort (type_at t i).rep (type_at t j).rep t.methods e ∙ sym (c j b)

-- no signature has more arguments than T13 allows
abbrev pub ShortSignatures : Table → Type 0
ShortSignatures t = (a m : ℕ) → length (method_at t a m).args ≤ max_arguments

-- no type has a category above the last
abbrev pub CategoriesIn : Table → Type 0
CategoriesIn t = (i : ℕ) → (type_at t i).cat ≤ length t.cats

-- a key names types of the table
abbrev pub KeyBelow : ℕ → Option Key → Type 0
KeyBelow n none = Unit
KeyBelow n (some k) = (k.left < n) × (k.right < n)

-- What a table keeps to whatever its derived types hold: counts within limits, and every number below its count
pub record Sound (t : Table) : Type 0 where
  pub counts : So (counts_fit t)
  pub sigs : SignaturesIn t
  pub methods : MethodCounts t
  pub short : ShortSignatures t
  pub cat_in : CategoriesIn t
  pub key_in : (i : ℕ) → i < size t → KeyBelow (size t) (type_at t i).key
  pub sheet_sigs : (a m : ℕ) → a < t.sheet → AllBelow t.sheet (method_at t a m).args × AnswerBelow t.sheet (method_at t a m).answer

-- every type after the sheet's has a key
abbrev pub Keyed : Table → Type 0
Keyed t = (i : ℕ) → t.sheet ≤ i → i < size t → (k : Key) × ((type_at t i).key ≡ some k)

-- A table in which every derived type is what its key says, and signatures are sound
pub record Good (t : Table) : Type 0 where
  pub cats : CategoryOrder t
  pub sigs : SignaturesIn t
  pub counts : MethodCounts t
  pub complete : Complete t
  pub unowned : UnownedSignatures t
  pub short : ShortSignatures t
  pub cat_in : CategoriesIn t
  pub keyed : Keyed t
  pub room : size t ≤ max_types

pub out : (t : Table) (i : ℕ) → size t ≤ i → type_at t i ≡ no_type
out t i l = get_or-eq_default t.types no_type l

-- what a derivation gives has no own flag if the two sides have none
known-unowned : (t : Table) → Complete t → (d : Kind) (l r i : ℕ) → Known t d l r i → (type_at t l).own ≡ false → (type_at t r).own ≡ false → (type_at t i).own ≡ false
known-unowned t c d l r i (itself o e f) p q = rw f p
known-unowned t c sub l r i (of_number u o e f) p q = rw f p
known-unowned t c sup l r i (of_number u o e f) p q = rw f q
known-unowned t c closed l r i (of_number u o e f) p q = rw f p
known-unowned t c d l r i (made u e) p q = (c i _ e).own

args-unowned : (t : Table) → Complete t → (d : Kind) (xs ys zs : List ℕ) → ArgsFrom (Known t d) xs ys zs → AllUnowned t xs → AllUnowned t ys → AllUnowned t zs
args-unowned t c d [] ys [] h p q = tt
args-unowned t c d [] ys (z ∷ zs) h p q = absurd h
args-unowned t c d (x ∷ xs) [] [] h p q = tt
args-unowned t c d (x ∷ xs) [] (z ∷ zs) h p q = absurd h
args-unowned t c d (x ∷ xs) (y ∷ ys) [] h p q = tt
args-unowned t c d (x ∷ xs) (y ∷ ys) (z ∷ zs) h p q = (known-unowned t c d y x z h.0 q.0 p.0, args-unowned t c d xs ys zs h.1 p.1 q.1)

answer-unowned : (t : Table) → Complete t → (d : Kind) (x y z : Option ℕ) → AnswerFrom (Known t d) x y z → AnswerUnowned t x → AnswerUnowned t y → AnswerUnowned t z
answer-unowned t c d none y none h p q = tt
answer-unowned t c d none y (some z) h p q = absurd h
answer-unowned t c d (some x) none none h p q = tt
answer-unowned t c d (some x) none (some z) h p q = absurd h
answer-unowned t c d (some x) (some y) none h p q = tt
answer-unowned t c d (some x) (some y) (some z) h p q = known-unowned t c d x y z h p q

abbrev Unowned : Table → Method → Type 0
Unowned t x = AllUnowned t x.args × AnswerUnowned t x.answer

method-unowned : (t : Table) → Complete t → (d : Kind) (x y z : Method) → DerivedMethod t d x y z → Unowned t x → Unowned t y → Unowned t z
method-unowned t c d x y z (past e f g) p q = rw g (tt, tt)
method-unowned t c d x y z (here e s n) p q = go (permit z.state) refl
  where
    go : (b : Bool) → permit z.state ≡ b → Unowned t z
    go true h =
        let k = s h in
        (args-unowned t c (arg_kind d) x.args y.args z.args k.args p.0 q.0, answer-unowned t c (answer_kind d) x.answer y.answer z.answer k.answer p.1 q.1)
    go false h = let k = n h in rw (k.0, k.1) (tt, tt)

-- what counts within their limits say
pub record Counted (t : Table) : Type 0 where
  pub subjects : t.subjects ≤ max_subjects
  pub methods : t.methods ≤ max_methods
  pub cats : length t.cats ≤ max_categories
  pub sheet : t.sheet ≤ size t
  pub types : size t ≤ max_types

pub counted_of : (t : Table) → So (counts_fit t) → Counted t
counted_of t c =
    let a₁ = between 1 max_subjects t.subjects in
    let a₂ = between 1 max_methods t.methods in
    let a₃ = leb (length t.cats) max_categories in
    let a₄ = between 1 max_sheet_types t.sheet in
    let a₅ = leb t.sheet (size t) in let c₂ = second a₁ _ c in let c₃ = second a₂ _ c₂ in let c₅ = second a₄ _ (second a₃ _ c₃) in
    record {
      subjects = leb-so (second (leb 1 t.subjects) _ (first a₁ _ c));
      methods = leb-so (second (leb 1 t.methods) _ (first a₂ _ c₂));
      cats = leb-so (first a₃ _ c₃);
      sheet = leb-so (first a₅ _ c₅);
      types = leb-so (second a₅ _ c₅);
    }

-- the sheet's types are types of the table
pub sheet-within : (t : Table) → So (counts_fit t) → t.sheet ≤ size t
sheet-within t c = (counted_of t c).sheet

-- limits and the signatures of sheet types stay as the table grows
pub grown-counts : (t u : Table) → Grown t u → So (counts_fit t) → size u ≤ max_types → So (counts_fit u)
grown-counts t u x c r =
    let a₁ = between 1 max_subjects t.subjects in
    let a₂ = between 1 max_methods t.methods in
    let a₃ = leb (length t.cats) max_categories in
    let a₄ = between 1 max_sheet_types t.sheet in
    let c₂ = second a₁ _ c in let c₃ = second a₂ _ c₂ in let c₄ = second a₃ _ c₃ in
    let l : u.sheet ≤ size u = subst (λ n. n ≤ size u) (sym x.sheet) (let p = sheet-within t c in omega (arith, x.more)) in
    let b₁ : So (between 1 max_subjects u.subjects) = rw x.subjects (first a₁ _ c) in
    let b₂ : So (between 1 max_methods u.methods) = rw x.methods (first a₂ _ c₂) in
    let b₃ : So (leb (length u.cats) max_categories) = rw x.cats (first a₃ _ c₃) in
    let b₄ : So (between 1 max_sheet_types u.sheet) = rw x.sheet (first a₄ _ c₄) in
    both b₁ (both b₂ (both b₃ (both b₄ (both (so-leb l) (so-leb r)))))

pub grown-sheet_sigs : (t u : Table) → Grown t u → t.sheet ≤ size t
    → ((a m : ℕ) → a < t.sheet → AllBelow t.sheet (method_at t a m).args × AnswerBelow t.sheet (method_at t a m).answer)
    → (a m : ℕ) → a < u.sheet → AllBelow u.sheet (method_at u a m).args × AnswerBelow u.sheet (method_at u a m).answer
grown-sheet_sigs t u x l g a m b = let p : a < t.sheet = subst (λ n. a < n) x.sheet b in
    rw (x.sheet, method-same t u x a m (omega arith)) (g a m p)

args-short : (P : ℕ → ℕ → ℕ → Type 0) (n : ℕ) (xs ys zs : List ℕ) → ArgsFrom P xs ys zs → length xs ≤ n → length zs ≤ n
args-short P n [] ys [] h l = l
args-short P n [] ys (z ∷ zs) h l = absurd h
args-short P n (x ∷ xs) [] [] h l = omega arith
args-short P n (x ∷ xs) [] (z ∷ zs) h l = absurd h
args-short P n (x ∷ xs) (y ∷ ys) [] h l = omega arith
args-short P zero (x ∷ xs) (y ∷ ys) (z ∷ zs) h l = absurd (omega arith)
args-short P (suc n) (x ∷ xs) (y ∷ ys) (z ∷ zs) h l = let k = args-short P n xs ys zs h.1 (omega arith) in omega arith

method-short : (t : Table) (d : Kind) (x y z : Method) → DerivedMethod t d x y z → length x.args ≤ max_arguments → length z.args ≤ max_arguments
method-short t d x y z (past e f g) l = rw g (omega arith)
method-short t d x y z (here e s n) l = go (permit z.state) refl
  where
    go : (b : Bool) → permit z.state ≡ b → length z.args ≤ max_arguments
    go true h = args-short (Known t (arg_kind d)) max_arguments x.args y.args z.args (s h).args l
    go false h = rw (n h).0 (omega arith)

-- A table u that a derivation from t has left with no type under work
module _ (t u : Table) (v : Inv t u (λ j. ⊥)) where
  done : (j : ℕ) → size t ≤ j → j < size u → Fresh t u j
  done j a b = go (v.fresh j a b)
    where
      go : ⊥ ⊎ Fresh t u j → Fresh t u j
      go (inl w) = absurd w
      go (inr w) = w

  -- by where a number lies
  three : {P : Type 0} (i : ℕ) → (i < size t → P) → (Fresh t u i → P) → (size u ≤ i → P) → P
  three {P} i a b c = go (dec_lt i (size t)) (dec_lt i (size u))
    where
      go : Dec (i < size t) → Dec (i < size u) → P
      go (yes l) k = a l
      go (no l) (yes k) = b (done i (omega arith) k)
      go (no l) (no k) = c (omega arith)

  pub new-sigs : SignaturesIn t → SignaturesIn u
  new-sigs g i m = three i (λ l. rw (method-same t u v.ext i m l) (signature-below-more v.ext.more (method_at t i m) (g i m)))
      (λ f. (f.key f.keyed.0 f.keyed.1).inside m) (λ l. rw (out u i l) (tt, tt))

  main-same : (d : Kind) (l r : ℕ) → l < size t → r < size t → type_at u (main_side d l r) ≡ type_at t (main_side d l r)
  main-same d l r a b = v.ext.same (main_side d l r) (main-in t l r a b d)

  new-complete : Complete t → Complete u
  new-complete g i k e = three i
      (λ l. let c = g i k (sym (ap (λ y. y.key) (v.ext.same i l)) ∙ e) in let w = main-same k.kind k.left k.right c.low c.high in
      record {
        low = omega (arith, c.low, v.ext.more);
        high = omega (arith, c.high, v.ext.more);
        rep = ap (λ y. y.rep) (v.ext.same i l) ∙ c.rep ∙ sym (ap (λ y. y.rep) w);
        cat = ap (λ y. y.cat) (v.ext.same i l) ∙ c.cat ∙ sym (ap (λ y. y.cat) w);
        own = ap (λ y. y.own) (v.ext.same i l) ∙ c.own;
        at = λ m. rw (method-same t u v.ext i m l, method-same t u v.ext k.left m c.low, method-same t u v.ext k.right m c.high)
            (method-keys (grown-keys v.ext) k.kind _ _ _ (c.at m));
      })
      (λ f. let c = f.key k e in let w = main-same k.kind k.left k.right c.low c.high in
      record {
        low = omega (arith, c.low, v.ext.more);
        high = omega (arith, c.high, v.ext.more);
        rep = c.rep ∙ sym (ap (λ y. y.rep) w);
        cat = c.cat ∙ sym (ap (λ y. y.cat) w);
        own = c.own;
        at = λ m. rw (method-same t u v.ext k.left m c.low, method-same t u v.ext k.right m c.high) (c.at m);
      })
      (λ l. absurd (none-ne-some k (sym (ap (λ y. y.key) (out u i l)) ∙ e)))

  -- each type has the shape of one of t
  record Shade (i : ℕ) : Type 0 where
    at : ℕ
    old : at < size t
    rep : (type_at u i).rep ≡ (type_at t at).rep
    long : length (type_at u i).methods ≡ length (type_at t at).methods

  shade : (i : ℕ) → i < size u → Shade i
  shade i l = three i (λ a. record { at = i; old = a; rep = ap (λ y. y.rep) (v.ext.same i a); long = ap (λ y. length y.methods) (v.ext.same i a) })
      (λ f. let k = f.keyed.0 in let c = f.key k f.keyed.1 in
      record { at = main_side k.kind k.left k.right; old = main-in t k.left k.right c.low c.high k.kind; rep = c.rep; long = c.long })
      (λ a. absurd (omega arith))

  pub new-counts : MethodCounts t → MethodCounts u
  new-counts g i l = let x = shade i l in x.long ∙ g x.at x.old ∙ ap (λ r. method_count r t.methods) (sym x.rep) ∙ ap (λ n. method_count (type_at u i).rep n) (sym v.ext.methods)

  all-unowned-grow : (xs : List ℕ) → AllBelow (size t) xs → AllUnowned t xs → AllUnowned u xs
  all-unowned-grow [] l h = tt
  all-unowned-grow (x ∷ xs) l h = (ap (λ y. y.own) (v.ext.same x l.0) ∙ h.0, all-unowned-grow xs l.1 h.1)

  answer-unowned-grow : (o : Option ℕ) → AnswerBelow (size t) o → AnswerUnowned t o → AnswerUnowned u o
  answer-unowned-grow none l h = tt
  answer-unowned-grow (some x) l h = ap (λ y. y.own) (v.ext.same x l) ∙ h

  unowned-grow : SignaturesIn t → UnownedSignatures t → (i m : ℕ) → Unowned u (method_at t i m)
  unowned-grow g p i m = (all-unowned-grow (method_at t i m).args (g i m).0 (p i m).0, answer-unowned-grow (method_at t i m).answer (g i m).1 (p i m).1)

  new-unowned : SignaturesIn t → Complete t → UnownedSignatures t → UnownedSignatures u
  new-unowned g c p i m = three i (λ l. rw (method-same t u v.ext i m l) (unowned-grow g p i m))
      (λ f. let k = f.keyed.0 in let r = f.key k f.keyed.1 in
      method-unowned u (new-complete c) k.kind _ _ _ (r.at m) (unowned-grow g p k.left m) (unowned-grow g p k.right m))
      (λ l. rw (out u i l) (tt, tt))

  new-keyed : Keyed t → Keyed u
  new-keyed g i a b = go (dec_lt i (size t))
    where
      go : Dec (i < size t) → (k : Key) × ((type_at u i).key ≡ some k)
      go (yes l) = let k = g i (subst (λ n. n ≤ i) v.ext.sheet a) l in (k.0, ap (λ y. y.key) (v.ext.same i l) ∙ k.1)
      go (no l) = (done i (omega arith) b).keyed

  pub new-short : ShortSignatures t → ShortSignatures u
  new-short g i m = three i (λ l. rw (method-same t u v.ext i m l) (g i m))
      (λ f. let k = f.keyed.0 in let r = f.key k f.keyed.1 in method-short u k.kind _ _ _ (r.at m) (g k.left m))
      (λ l. rw (out u i l) (omega arith))

  pub new-cat_in : CategoriesIn t → CategoriesIn u
  new-cat_in g i = rw v.ext.cats (three i (λ l. rw (v.ext.same i l) (g i))
      (λ f. let k = f.keyed.0 in let r = f.key k f.keyed.1 in rw r.cat (g (main_side k.kind k.left k.right)))
      (λ l. rw (out u i l) (omega arith)))

  key_more : (o : Option Key) → KeyBelow (size t) o → KeyBelow (size u) o
  key_more none h = tt
  key_more (some k) h = (omega (arith, h.0, v.ext.more), omega (arith, h.1, v.ext.more))

  new-key_in : ((i : ℕ) → i < size t → KeyBelow (size t) (type_at t i).key) → (i : ℕ) → i < size u → KeyBelow (size u) (type_at u i).key
  new-key_in g i a = three i (λ l. rw (v.ext.same i l) (key_more (type_at t i).key (g i l)))
      (λ f. let k = f.keyed.0 in let r = f.key k f.keyed.1 in rw f.keyed.1 (omega (arith, r.low, v.ext.more), omega (arith, r.high, v.ext.more)))
      (λ l. absurd (omega arith))

  pub new-sound : Sound t → size u ≤ max_types → Sound u
  new-sound g r = record {
    counts = grown-counts t u v.ext g.counts r;
    sigs = new-sigs g.sigs;
    methods = new-counts g.methods;
    short = new-short g.short;
    cat_in = new-cat_in g.cat_in;
    key_in = new-key_in g.key_in;
    sheet_sigs = grown-sheet_sigs t u v.ext (sheet-within t g.counts) g.sheet_sigs;
  }

  new-good : Good t → size u ≤ max_types → Good u
  new-good g r = record {
    cats = cats-grow t u v.ext g.cats;
    sigs = new-sigs g.sigs;
    counts = new-counts g.counts;
    complete = new-complete g.complete;
    unowned = new-unowned g.sigs g.complete g.unowned;
    short = new-short g.short;
    cat_in = new-cat_in g.cat_in;
    keyed = new-keyed g.keyed;
    room = r;
  }

-- What a derivation from a good table gives: a good table that has grown, and the number of the derived type
pub record Derived (t : Table) (d : Kind) (l r : ℕ) (x : Table × ℕ) : Type 0 where
  pub good : Good x.0
  pub grow : Grown t x.0
  pub is : Known x.0 d l r x.1
  pub inside : x.1 < size x.0

-- a derivation from any table whose types have the right number of methods
pub derive-inv : (t : Table) → MethodCounts t → (f : ℕ) (d : Kind) (l r : ℕ) → So (related free t l r) → IfSome (derive f t d l r) (Got t t (λ j. ⊥) d l r)
derive-inv t g f d l r h = derive-ok t (even-methods t g) f t (λ j. ⊥) (record { ext = grown-refl t; fresh = λ j a b. absurd (omega arith) }) d l r h

-- from a table handed in, whatever its derived types hold
pub derive-sound : (t : Table) → Sound t → (f : ℕ) (d : Kind) (l r : ℕ) → So (related free t l r) → size t ≤ max_types
    → IfSome (derive f t d l r) (λ x. Sound x.0 × Grown t x.0 × (x.1 < size x.0))
derive-sound t g f d l r h m = go (derive f t d l r) (derive-inv t g.methods f d l r h) (derive-roomy f t d l r)
  where
    go : (o : Option (Table × ℕ)) → IfSome o (Got t t (λ j. ⊥) d l r) → IfSome o (λ x. size t ≤ max_types → size x.0 ≤ max_types)
        → IfSome o (λ x. Sound x.0 × Grown t x.0 × (x.1 < size x.0))
    go none w q = tt
    go (some x) w q = (new-sound t x.0 w.inv g (q m), w.grow, w.inside)

pub derive-good : (t : Table) → Good t → (f : ℕ) (d : Kind) (l r : ℕ) → So (related free t l r) → IfSome (derive f t d l r) (Derived t d l r)
derive-good t g f d l r h = go (derive f t d l r) (derive-inv t g.counts f d l r h) (derive-roomy f t d l r)
  where
    go : (o : Option (Table × ℕ)) → IfSome o (Got t t (λ j. ⊥) d l r) → IfSome o (λ x. size t ≤ max_types → size x.0 ≤ max_types) → IfSome o (Derived t d l r)
    go none w q = tt
    go (some x) w q = record { good = new-good t x.0 w.inv g (q g.room); grow = w.grow; is = w.is; inside = w.inside }
