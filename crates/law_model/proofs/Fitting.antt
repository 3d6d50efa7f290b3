-- What it says of a table that it fits (Table): the order of its categories, and each of its types.
use mathlib.Core.Path.{◌≡◌, refl, ap, subst}
use mathlib.Core.Bool.{Bool, true, false, not, ◌&&◌, ◌||◌, So, cond}
use mathlib.Core.List.{List, [], ◌∷◌}
use mathlib.Core.Option.{Option, none, some}
use Prim.Native.Nat.{ℕ, zero, suc, ◌+◌, ◌≤◌, ◌<◌}
use native.Mathlib.Nat.{not-suc-le-zero, le_of_suc-le-suc}
use native.Mathlib.Omega.{arith}
use native.Mathlib.Decide.{dec_lt}
use lib.Dec.{eqb, ltb, leb}
use lib.ListN.{length, get_or, get_or-eq_default}
use Rattle.spec_model.specs.Basics.{◌⇒◌, any, all, every, unless_missing, AllBelow}
use Rattle.spec_model.specs.Table.{Key, Method, Ty, Table, no_method, no_type, size, type_at, method_at, is_ref, permit, max_arguments, max_types, between, counts_fit, links_fit, stands_in, is_none, is_nil}
use Rattle.spec_model.specs.Table.{signature_fits, method_count, key_fits, signature_bound, type_fits, table_fits, max_categories}
use Rattle.spec_model.specs.Relations.{reaches, broader, cat_le}
use Rattle.spec_model.proofs.Tests.{eqb-so, eqb-self, ltb-so, leb-so, so-ltb}
use Rattle.spec_model.proofs.Rules.{never, both, first, second}
use Rattle.spec_model.proofs.Derived.{AnswerBelow, CategoryOrder, SignaturesIn}
use Rattle.law_model.proofs.Unowned.{AllUnowned, AnswerUnowned, UnownedSignatures}
use Rattle.law_model.proofs.Good.{MethodCounts, ShortSignatures, CategoriesIn, KeyBelow, Sound, counted_of, out}

or_left : {a : Bool} (b : Bool) → So a → So (a || b)
or_left b h = rw h

pub or_right : (a : Bool) {b : Bool} → So b → So (a || b)
or_right true h = refl
or_right false h = h

pub or_cases : {C : Type 0} (a b : Bool) → So (a || b) → (So a → C) → (So b → C) → C
or_cases true b h f g = f refl
or_cases false b h f g = g h

-- ---- the order of categories
any-in : (f g : ℕ → Bool) (n : ℕ) (xs : List ℕ) → AllBelow n xs → ((c : ℕ) → c < n → So (f c) → So (g c)) → So (any f xs) → So (any g xs)
any-in f g n [] i h k = k
any-in f g n (x ∷ xs) i h k = or_cases (f x) (any f xs) k (λ p. or_left (any g xs) (h x i.0 p)) (λ p. or_right (g x) (any-in f g n xs i.1 h p))

any_none : {C : Type 0} (f : ℕ → Bool) (n : ℕ) (xs : List ℕ) → AllBelow n xs → n ≤ 0 → So (any f xs) → C
any_none f n [] i l h = never h
any_none f n (x ∷ xs) i l h = absurd (omega (arith, i.0))

-- links that fall: category k names only categories below k
module _ (cs : List (List ℕ)) (descends : (k : ℕ) → AllBelow k (get_or cs k [])) where
  W : ℕ → ℕ → ℕ → Type 0
  W f a b = So (reaches f cs a b)

  near : (f a b : ℕ) → So (eqb a 0 || eqb a b) → W f a b
  unfolding W reaches
  near zero a b h = h
  near (suc f) a b h = or_cases (eqb a 0) (eqb a b) h (λ p. or_left _ p) (λ p. or_right (eqb a 0) (or_left _ p))

  far : (f a b : ℕ) → So (any (λ c. reaches f cs a c) (get_or cs b [])) → W (suc f) a b
  unfolding W reaches
  far f a b h = or_right (eqb a 0) (or_right (eqb a b) h)

  reach-cases : {C : Type 0} (f a b : ℕ) → W (suc f) a b → (So (eqb a 0 || eqb a b) → C) → (So (any (λ c. reaches f cs a c) (get_or cs b [])) → C) → C
  unfolding W reaches
  reach-cases f a b h u v = or_cases (eqb a 0) _ h (λ p. u (or_left (eqb a b) p)) (λ q. or_cases (eqb a b) _ q (λ p. u (or_right (eqb a 0) p)) v)

  -- as many steps as the number of the category are enough
  cut : (f g a b : ℕ) → b ≤ g → W f a b → W g a b
  unfolding W reaches
  cut zero g a b l h = near g a b h
  cut (suc f) zero a b l h = reach-cases f a b h (near zero a b) (λ k. any_none (λ c. reaches f cs a c) b (get_or cs b []) (descends b) l k)
  cut (suc f) (suc g) a b l h = reach-cases f a b h (near (suc g) a b) (λ k. far g a b (any-in _ _ b (get_or cs b []) (descends b) (λ c u. cut f g a c (omega arith)) k))

  -- below none there is none
  zero-below : (a : ℕ) (f : ℕ) → W f a 0 → So (eqb a 0)
  unfolding W reaches
  zero-below a zero h = or_cases (eqb a 0) (eqb a 0) h (λ p. p) (λ p. p)
  zero-below a (suc f) h = reach-cases f a 0 h (λ h. or_cases (eqb a 0) (eqb a 0) h (λ p. p) (λ p. p)) (λ k. any_none (λ c. reaches f cs a c) 0 (get_or cs 0 []) (descends 0) (omega arith) k)

  trans-near : (a b c : ℕ) → W b a b → So (eqb b 0 || eqb b c) → W c a c
  trans-near a b c h k = or_cases (eqb b 0) (eqb b c) k
      (λ p. let e : b ≡ 0 = eqb-so p in near c a c (or_left (eqb a c) (zero-below a 0 (subst (λ z. W z a z) e h))))
      (λ p. let e : b ≡ c = eqb-so p in subst (λ z. W z a z) e h)

  trans : (g a b c : ℕ) → W b a b → W g b c → W c a c
  unfolding W reaches
  trans zero a b c h k = trans-near a b c h k
  trans (suc g) a b zero h k = reach-cases g b zero k (trans-near a b zero h) (λ q. any_none (λ c. reaches g cs b c) 0 (get_or cs 0 []) (descends 0) (omega arith) q)
  trans (suc g) a b (suc c) h k = reach-cases g b (suc c) k (trans-near a b (suc c) h)
      (λ q. far c a (suc c) (any-in (λ d. reaches g cs b d) (λ d. reaches c cs a d) (suc c) (get_or cs (suc c) []) (descends (suc c)) (λ d u p. cut d c a d (omega arith) (trans g a b d h p)) q))

  -- any fuel that is not below the number of categories will do
  enough : (n f a b : ℕ) → length cs ≤ n → W f a b → W n a b
  enough n f a b l h = go (dec_lt n b) f h
    where
      go : Dec (n < b) → (f : ℕ) → W f a b → W n a b
      go (yes u) zero h = near n a b (unfold W reaches in h)
      go (yes u) (suc f) h = reach-cases f a b h (near n a b) (λ k. never (rw (get_or-eq_default cs [] {n = b} (omega arith)) at k))
      go (no u) f h = cut f n a b (omega arith) h

category-order : (t : Table) → ((k : ℕ) → AllBelow k (get_or (broader t) k [])) → length (broader t) ≤ suc max_categories → CategoryOrder t
unfolding W cat_le
category-order t descends l = let cs = broader t in record {
  self = λ a. near cs descends (suc max_categories) a a (or_right (eqb a 0) (eqb-self a));
  through = λ a b c h k. enough cs descends (suc max_categories) c a c l (trans cs descends (suc max_categories) a b c (cut cs descends (suc max_categories) b a b (omega arith) h) k);
}

-- ---- tests over lists
pub all-at : {A : Type 0} (f : A → Bool) (d : A) (xs : List A) → So (all f xs) → (i : ℕ) → i < length xs → So (f (get_or xs i d))
all-at f d [] h i l = absurd (not-suc-le-zero l)
all-at f d (x ∷ xs) h zero l = first (f x) _ h
all-at f d (x ∷ xs) h (suc i) l = all-at f d xs (second (f x) _ h) i (le_of_suc-le-suc l)

pub every-at : {A : Type 0} (f : ℕ → A → Bool) (d : A) (k : ℕ) (xs : List A) → So (every f k xs) → (i : ℕ) → i < length xs → So (f (k + i) (get_or xs i d))
every-at f d k [] h i l = absurd (not-suc-le-zero l)
every-at f d k (x ∷ xs) h zero l = subst (λ n. So (f n x)) (omega arith) (first (f k x) _ h)
every-at f d k (x ∷ xs) h (suc i) l = subst (λ n. So (f n (get_or xs i d))) (omega arith) (every-at f d (suc k) xs (second (f k x) _ h) i (le_of_suc-le-suc l))

pub at_all : {A : Type 0} (f : A → Bool) (d : A) (xs : List A) → ((i : ℕ) → i < length xs → So (f (get_or xs i d))) → So (all f xs)
at_all f d [] h = refl
at_all f d (x ∷ xs) h = both (h 0 (omega arith)) (at_all f d xs (λ i l. h (suc i) (omega arith)))

pub at_every : {A : Type 0} (f : ℕ → A → Bool) (d : A) (k : ℕ) (xs : List A) → ((i : ℕ) → i < length xs → So (f (k + i) (get_or xs i d))) → So (every f k xs)
at_every f d k [] h = refl
at_every f d k (x ∷ xs) h = both (subst (λ n. So (f n x)) (omega arith) (h 0 (omega arith)))
    (at_every f d (suc k) xs (λ i l. subst (λ n. So (f n (get_or xs i d))) (omega arith) (h (suc i) (omega arith))))

pub all-below : (n : ℕ) (xs : List ℕ) → So (all (λ c. ltb c n) xs) → AllBelow n xs
all-below n [] h = tt
all-below n (x ∷ xs) h = (ltb-so (first (ltb x n) _ h), all-below n xs (second (ltb x n) _ h))

-- ---- signatures
not_so : (b : Bool) → So (not b) → b ≡ false
not_so true h = never h
not_so false h = refl

pub nil_is : (xs : List ℕ) → So (is_nil xs) → xs ≡ []
nil_is [] h = refl
nil_is (x ∷ xs) h = never h

pub none_is : (o : Option ℕ) → So (is_none o) → o ≡ none
none_is none h = refl
none_is (some x) h = never h

module _ (t : Table) (n : ℕ) where
  stands-below : (xs : List ℕ) → So (all (stands_in t n) xs) → AllBelow n xs
  stands-below [] h = tt
  stands-below (x ∷ xs) h = (ltb-so (first (ltb x n) _ (first (stands_in t n x) _ h)), stands-below xs (second (stands_in t n x) _ h))

  stands-unowned : (xs : List ℕ) → So (all (stands_in t n) xs) → AllUnowned t xs
  stands-unowned [] h = tt
  stands-unowned (x ∷ xs) h = (not_so (type_at t x).own (second (ltb x n) _ (first (stands_in t n x) _ h)), stands-unowned xs (second (stands_in t n x) _ h))

  answer-stands-below : (o : Option ℕ) → So (unless_missing o (stands_in t n)) → AnswerBelow n o
  answer-stands-below none h = tt
  answer-stands-below (some x) h = ltb-so (first (ltb x n) _ h)

  answer-stands-unowned : (o : Option ℕ) → So (unless_missing o (stands_in t n)) → AnswerUnowned t o
  answer-stands-unowned none h = tt
  answer-stands-unowned (some x) h = not_so (type_at t x).own (second (ltb x n) _ h)

  -- a signature that fits: its numbers are below n and have no own flag
  pub signature-below : (m : Method) → So (signature_fits t n m) → AllBelow n m.args × AnswerBelow n m.answer
  signature-below m h = go (permit m.state) h
    where
      go : (b : Bool) → So
          (elim b [ true ↦ leb (length m.args) max_arguments && (all (stands_in t n) m.args && unless_missing m.answer (stands_in t n)) | false ↦ is_nil m.args && is_none m.answer ])
          → AllBelow n m.args × AnswerBelow n m.answer
      go true h =
          let k = second (leb (length m.args) max_arguments) _ h in
          (stands-below m.args (first (all (stands_in t n) m.args) _ k), answer-stands-below m.answer (second (all (stands_in t n) m.args) _ k))
      go false h = rw (nil_is m.args (first (is_nil m.args) _ h), none_is m.answer (second (is_nil m.args) _ h)) (tt, tt)

  pub signature-unowned : (m : Method) → So (signature_fits t n m) → AllUnowned t m.args × AnswerUnowned t m.answer
  signature-unowned m h = go (permit m.state) h
    where
      go : (b : Bool) → So
          (elim b [ true ↦ leb (length m.args) max_arguments && (all (stands_in t n) m.args && unless_missing m.answer (stands_in t n)) | false ↦ is_nil m.args && is_none m.answer ])
          → AllUnowned t m.args × AnswerUnowned t m.answer
      go true h =
          let k = second (leb (length m.args) max_arguments) _ h in
          (stands-unowned m.args (first (all (stands_in t n) m.args) _ k), answer-stands-unowned m.answer (second (all (stands_in t n) m.args) _ k))
      go false h = rw (nil_is m.args (first (is_nil m.args) _ h), none_is m.answer (second (is_nil m.args) _ h)) (tt, tt)

pub below_more : (n k : ℕ) → n ≤ k → (m : Method) → AllBelow n m.args × AnswerBelow n m.answer → AllBelow k m.args × AnswerBelow k m.answer
below_more n k l m h = (args m.args h.0, ans m.answer h.1)
  where
    args : (xs : List ℕ) → AllBelow n xs → AllBelow k xs
    args [] h = tt
    args (x ∷ xs) h = let p = h.0 in (omega arith, args xs h.1)

    ans : (o : Option ℕ) → AnswerBelow n o → AnswerBelow k o
    ans none h = tt
    ans (some x) h = omega arith

-- ---- one type that fits, by its parts
pub record TypeFitting (t : Table) (i : ℕ) (x : Ty) : Type 0 where
  pub cat : x.cat ≤ length t.cats
  pub own : So (x.own ⇒ is_ref x.rep)
  pub counts : length x.methods ≡ method_count x.rep t.methods
  pub signatures : So (all (signature_fits t (signature_bound t i)) x.methods)
  pub key : So (key_fits t i x.key)

pub type-fitting : (t : Table) (i : ℕ) (x : Ty) → So (type_fits t i x) → TypeFitting t i x
type-fitting t i x h =
    let a = leb x.cat (length t.cats) in let b = x.own ⇒ is_ref x.rep in let c = eqb (length x.methods) (method_count x.rep t.methods) in
    let d = all (signature_fits t (signature_bound t i)) x.methods in
    let h₁ = second a _ h in let h₂ = second b _ h₁ in let h₃ = second c _ h₂ in
    record { cat = leb-so (first a _ h); own = first b _ h₁; counts = eqb-so (first c _ h₂); signatures = first d _ h₃; key = second d _ h₃ }

-- the bound on a type's signatures lies within the table
bound-within : (t : Table) (i : ℕ) → t.sheet ≤ size t → signature_bound t i ≤ size t
bound-within t i l = go (ltb i t.sheet)
  where
    go : (b : Bool) → cond b t.sheet (size t) ≤ size t
    go true = l
    go false = omega arith

-- ---- a table that fits, by its parts
pub record TableFitting (t : Table) : Type 0 where
  pub counts : So (counts_fit t)
  pub sheet : t.sheet ≤ size t
  pub room : size t ≤ max_types
  pub cats : CategoryOrder t
  pub types : (i : ℕ) → i < size t → TypeFitting t i (type_at t i)
  pub links : So (every links_fit 1 t.cats)

descends-of : (cs : List (List ℕ)) → So (every links_fit 1 cs) → (k : ℕ) → AllBelow k (get_or ([] ∷ cs) k [])
descends-of cs h zero = tt
descends-of cs h (suc k) = go (dec_lt k (length cs))
  where
    go : Dec (k < length cs) → AllBelow (suc k) (get_or cs k [])
    go (yes l) = all-below (suc k) (get_or cs k []) (second (between 1 2 (length (get_or cs k []))) _ (subst (λ n. So (links_fit n (get_or cs k []))) (omega arith) (every-at links_fit [] 1 cs h k l)))
    go (no l) = rw (get_or-eq_default cs [] {n = k} (omega arith)) tt

pub table-fitting : (t : Table) → So (table_fits t) → TableFitting t
unfolding table_fits
table-fitting t h =
    let c = first (counts_fit t) _ h in let r = second (counts_fit t) _ h in
    let k = counted_of t c in
    record {
      counts = c;
      sheet = k.sheet;
      room = k.types;
      links = first (every links_fit 1 t.cats) _ r;
      cats = category-order t (descends-of t.cats (first (every links_fit 1 t.cats) _ r)) (omega (arith, k.cats));
      types = λ i l.
          type-fitting t i (type_at t i) (subst (λ n. So (type_fits t n (type_at t i))) (omega arith) (every-at (type_fits t) no_type 0 t.types (second (every links_fit 1 t.cats) _ r) i l));
    }

module _ (t : Table) (f : TableFitting t) where
  pub fitting-counts : MethodCounts t
  fitting-counts i l = (f.types i l).counts

  -- a fact of every method of every type, from that of each that fits
  each-method : (P : Method → Type 0) → P no_method → ((i : ℕ) (m : Method) → So (signature_fits t (signature_bound t i) m) → P m) → (a m : ℕ) → P (method_at t a m)
  each-method P z h a m = go (dec_lt a (size t)) (dec_lt m (length (type_at t a).methods))
    where
      go : Dec (a < size t) → Dec (m < length (type_at t a).methods) → P (method_at t a m)
      go (yes l) (yes k) = h a (method_at t a m) (all-at (signature_fits t (signature_bound t a)) no_method (type_at t a).methods (f.types a l).signatures m k)
      go (yes l) (no k) = rw (get_or-eq_default (type_at t a).methods no_method {n = m} (omega arith)) z
      go (no l) k = rw (out t a (omega arith)) z

  pub fitting-sigs : SignaturesIn t
  fitting-sigs = each-method (λ m. AllBelow (size t) m.args × AnswerBelow (size t) m.answer) (tt, tt)
      (λ i m h. below_more (signature_bound t i) (size t) (bound-within t i f.sheet) m (signature-below t (signature_bound t i) m h))

  pub fitting-unowned : UnownedSignatures t
  fitting-unowned = each-method (λ m. AllUnowned t m.args × AnswerUnowned t m.answer) (tt, tt) (λ i m h. signature-unowned t (signature_bound t i) m h)

  -- a signature that fits is short
  short-signature : (i : ℕ) (m : Method) → So (signature_fits t (signature_bound t i) m) → length m.args ≤ max_arguments
  short-signature i m h = go (permit m.state) h
    where
      go : (b : Bool)
          → So
          (elim b [
            | true ↦ leb (length m.args) max_arguments && (all (stands_in t (signature_bound t i)) m.args && unless_missing m.answer (stands_in t (signature_bound t i)))
            | false ↦ is_nil
                m.args && is_none m.answer
          ])
          → length m.args ≤ max_arguments
      go true h = leb-so (first (leb (length m.args) max_arguments) _ h)
      go false h = rw (nil_is m.args (first (is_nil m.args) _ h)) (omega arith)

  pub fitting-short : ShortSignatures t
  fitting-short = each-method (λ m. length m.args ≤ max_arguments) (omega arith) short-signature

  pub fitting-cat_in : CategoriesIn t
  fitting-cat_in i = go (dec_lt i (size t))
    where
      go : Dec (i < size t) → (type_at t i).cat ≤ length t.cats
      go (yes l) = (f.types i l).cat
      go (no l) = rw (out t i (omega arith)) (omega arith)

  key_below : (i : ℕ) (o : Option Key) → So (key_fits t i o) → KeyBelow (size t) o
  key_below i none h = tt
  key_below i (some k) h = let r = second (leb t.sheet i) _ h in (ltb-so (first (ltb k.left (size t)) _ r), ltb-so (second (ltb k.left (size t)) _ r))

  -- the signatures of sheet types hold sheet types
  bound-sheet : (a : ℕ) → a < t.sheet → signature_bound t a ≡ t.sheet
  bound-sheet a l = ap (λ b. cond b t.sheet (size t)) (so-ltb l)

  fitting-sheet_sigs : (a m : ℕ) → a < t.sheet → AllBelow t.sheet (method_at t a m).args × AnswerBelow t.sheet (method_at t a m).answer
  fitting-sheet_sigs a m l = go (dec_lt m (length (type_at t a).methods))
    where
      go : Dec (m < length (type_at t a).methods) → AllBelow t.sheet (method_at t a m).args × AnswerBelow t.sheet (method_at t a m).answer
      go (yes k) = let s : a < size t = omega (arith, f.sheet) in subst (λ n. AllBelow n (method_at t a m).args × AnswerBelow n (method_at t a m).answer) (bound-sheet a l)
          (signature-below t (signature_bound t a) (method_at t a m) (all-at (signature_fits t (signature_bound t a)) no_method (type_at t a).methods (f.types a s).signatures m k))
      go (no k) = rw (get_or-eq_default (type_at t a).methods no_method {n = m} (omega arith)) (tt, tt)

  -- a table that fits keeps what a derivation keeps
  pub fitting-sound : Sound t
  fitting-sound = record {
    counts = f.counts;
    sigs = fitting-sigs;
    methods = fitting-counts;
    short = fitting-short;
    cat_in = fitting-cat_in;
    key_in = λ i l. key_below i (type_at t i).key (f.types i l).key;
    sheet_sigs = fitting-sheet_sigs;
  }
