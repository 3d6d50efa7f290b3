-- A derivation from a table t₀: every new type is under work or complete, and the number given is the derived one.
use mathlib.Core.Path.{◌≡◌, refl, ap, sym, subst, ◌∙◌}
use mathlib.Core.Logic.{◌⊎◌, inl, inr, ◌≢◌}
use mathlib.Core.Bool.{Bool, true, false, ◌&&◌, So}
use mathlib.Core.List.{List, [], ◌∷◌}
use mathlib.Core.Option.{Option, none, some, some-injective}
use Prim.Native.Nat.{ℕ, zero, suc, ◌+◌, ◌≤◌, ◌<◌}
use native.Mathlib.Omega.{arith}
use native.Mathlib.Decide.{dec_lt, ℕ_discrete}
use lib.Dec.{eqb, ltb}
use lib.ListN.{length, get_or}
use lib.Seq.{get_or-append_seam, get_or-set_same, get_or-set_other}
use Rattle.spec_model.specs.Basics.{◌⇒◌, then, AllBelow}
use Rattle.spec_model.specs.Table.{State, Kind, sub, sup, closed, Key, Method, Ty, Table, no_method, no_type, size, type_at, method_at, permit, is_ref, signed, bare}
use Rattle.spec_model.specs.Relations.{free, related, ArgsBy, AnswerBy, MethodBy, Rule}
use Rattle.spec_model.specs.Restriction.{restricted, arg_kind, answer_kind, main_side, is_key, same_kind, find, without_new, entry, pending, Derivation, derive_args, derive_answer, derive_method}
use Rattle.spec_model.specs.Restriction.{derive_methods, derive}
use Rattle.spec_model.proofs.Tests.{eqb-so}
use Rattle.spec_model.proofs.Rules.{never, first, second, applied}
use Rattle.spec_model.proofs.Largest.{keeps-related}
use Rattle.spec_model.proofs.States.{each₂}
use Rattle.spec_model.proofs.Derived.{of_number, AnswerBelow, Known, itself, made, ArgsFrom, AnswerFrom, DerivedMethod, past, here, is_open}
use Rattle.spec_model.proofs.ChainLaws.{sort-eq}
use Rattle.spec_model.proofs.Growth.{Grown, grown-refl, grown-trans, method-same}
use Rattle.spec_model.specs.Table.{max_types}
use Rattle.law_model.proofs.Deriving.{IfSome, some_then, some-map, some-pick, some-room, pushed, stored, pushed-size, stored-size, pushed-grown}

abbrev pub SignatureBelow : ℕ → Method → Type 0
SignatureBelow n x = AllBelow n x.args × AnswerBelow n x.answer

pub all-below-more : {n k : ℕ} → n ≤ k → (xs : List ℕ) → AllBelow n xs → AllBelow k xs
all-below-more l [] h = tt
all-below-more l (x ∷ xs) h = let p = h.0 in (omega arith, all-below-more l xs h.1)

pub answer-below-more : {n k : ℕ} → n ≤ k → (o : Option ℕ) → AnswerBelow n o → AnswerBelow k o
answer-below-more l none h = tt
answer-below-more l (some x) h = omega arith

pub signature-below-more : {n k : ℕ} → n ≤ k → (x : Method) → SignatureBelow n x → SignatureBelow k x
signature-below-more l x h = (all-below-more l x.args h.0, answer-below-more l x.answer h.1)

-- keys and representations stay
pub record Keys (t u : Table) : Type 0 where
  pub more : size t ≤ size u
  pub key : (i : ℕ) → i < size t → (type_at u i).key ≡ (type_at t i).key
  pub rep : (i : ℕ) → i < size t → (type_at u i).rep ≡ (type_at t i).rep

pub grown-keys : {t u : Table} → Grown t u → Keys t u
grown-keys e = record { more = e.more; key = λ i l. ap (λ y. y.key) (e.same i l); rep = λ i l. ap (λ y. y.rep) (e.same i l) }

module _ {t u : Table} (x : Keys t u) where
  pub known-keys : (d : Kind) (l r i : ℕ) → Known t d l r i → Known u d l r i
  known-keys d l r i (itself o e f) = itself o e f
  known-keys d l r i (of_number v o e f) = of_number (omega (arith, x.more)) o (rw (x.rep l v) e) f
  known-keys d l r i (made v e) = made (omega (arith, x.more)) (x.key i v ∙ e)

  pub args-keys : (d : Kind) (xs ys zs : List ℕ) → ArgsFrom (Known t d) xs ys zs → ArgsFrom (Known u d) xs ys zs
  args-keys d [] ys [] h = tt
  args-keys d [] ys (z ∷ zs) h = h
  args-keys d (x ∷ xs) [] [] h = tt
  args-keys d (x ∷ xs) [] (z ∷ zs) h = h
  args-keys d (x ∷ xs) (y ∷ ys) [] h = h
  args-keys d (x ∷ xs) (y ∷ ys) (z ∷ zs) h = (known-keys d y x z h.0, args-keys d xs ys zs h.1)

  pub answer-keys : (d : Kind) (a b c : Option ℕ) → AnswerFrom (Known t d) a b c → AnswerFrom (Known u d) a b c
  answer-keys d none b none h = tt
  answer-keys d none b (some z) h = h
  answer-keys d (some x) none none h = tt
  answer-keys d (some x) none (some z) h = h
  answer-keys d (some x) (some y) none h = h
  answer-keys d (some x) (some y) (some z) h = known-keys d x y z h

  pub method-keys : (d : Kind) (a b c : Method) → DerivedMethod t d a b c → DerivedMethod u d a b c
  method-keys d a b c (past p q r) = past p q r
  method-keys d a b c (here e s z') =
      here e (λ h. record { args = args-keys (arg_kind d) a.args b.args c.args (s h).args; answer = answer-keys (answer_kind d) a.answer b.answer c.answer (s h).answer }) z'

module _ (t₀ : Table) where
  abbrev Free : ℕ → ℕ → Type 0
  Free a b = So (related free t₀ a b)

  -- a new type that is done; its sides are old ones
  pub record Ready (t : Table) (k : Key) (j : ℕ) : Type 0 where
    pub low : k.left < size t₀
    pub high : k.right < size t₀
    pub rep : (type_at t j).rep ≡ (type_at t₀ (main_side k.kind k.left k.right)).rep
    pub cat : (type_at t j).cat ≡ (type_at t₀ (main_side k.kind k.left k.right)).cat
    pub own : (type_at t j).own ≡ false
    pub long : length (type_at t j).methods ≡ length (type_at t₀ (main_side k.kind k.left k.right)).methods
    pub at : (m : ℕ) → DerivedMethod t k.kind (method_at t₀ k.left m) (method_at t₀ k.right m) (method_at t j m)
    pub inside : (m : ℕ) → SignatureBelow (size t) (method_at t j m)

  pub record Fresh (t : Table) (j : ℕ) : Type 0 where
    pub key : (k : Key) → (type_at t j).key ≡ some k → Ready t k j
    pub keyed : (k : Key) × ((type_at t j).key ≡ some k)

  -- every new type is at work (p) or done
  pub record Inv (t : Table) (p : ℕ → Type 0) : Type 0 where
    pub ext : Grown t₀ t
    pub fresh : (j : ℕ) → size t₀ ≤ j → j < size t → p j ⊎ Fresh t j

  pub record Got (t : Table) (p : ℕ → Type 0) (d : Kind) (l r : ℕ) (x : Table × ℕ) : Type 0 where
    pub inv : Inv x.0 p
    pub grow : Grown t x.0
    pub is : Known x.0 d l r x.1
    pub inside : x.1 < size x.0

  abbrev pub RecOk : Derivation → Type 1
  RecOk rec = (t : Table) (p : ℕ → Type 0) → Inv t p → (d : Kind) (l r : ℕ) → Free l r → IfSome (rec t d l r) (Got t p d l r)

  record GotArgs (t : Table) (p : ℕ → Type 0) (d : Kind) (xs ys : List ℕ) (x : Table × List ℕ) : Type 0 where
    inv : Inv x.0 p
    grow : Grown t x.0
    is : ArgsFrom (Known x.0 (arg_kind d)) xs ys x.1
    inside : AllBelow (size x.0) x.1

  record GotAnswer (t : Table) (p : ℕ → Type 0) (d : Kind) (a b : Option ℕ) (x : Table × Option ℕ) : Type 0 where
    inv : Inv x.0 p
    grow : Grown t x.0
    is : AnswerFrom (Known x.0 (answer_kind d)) a b x.1
    inside : AnswerBelow (size x.0) x.1

  record GotMethod (t : Table) (p : ℕ → Type 0) (d : Kind) (a b : Method) (x : Table × Method) : Type 0 where
    inv : Inv x.0 p
    grow : Grown t x.0
    is : DerivedMethod x.0 d a b x.1
    inside : SignatureBelow (size x.0) x.1

  record GotMethods (t : Table) (p : ℕ → Type 0) (d : Kind) (xs ys : List Method) (x : Table × List Method) : Type 0 where
    inv : Inv x.0 p
    grow : Grown t x.0
    long : length x.1 ≡ length xs
    is : (m : ℕ) → DerivedMethod x.0 d (get_or xs m no_method) (get_or ys m no_method) (get_or x.1 m no_method)
    inside : (m : ℕ) → SignatureBelow (size x.0) (get_or x.1 m no_method)

  both-permit : (d : Kind) (a b : State) → So (permit (restricted d a b)) → So (permit a) × So (permit b)
  both-permit sub a b h = (applied (each₂ (λ a b. permit (restricted sub a b) ⇒ permit a) refl a b) h, applied (each₂ (λ a b. permit (restricted sub a b) ⇒ permit b) refl a b) h)
  both-permit sup a b h = (applied (each₂ (λ a b. permit (restricted sup a b) ⇒ permit a) refl a b) h, applied (each₂ (λ a b. permit (restricted sup a b) ⇒ permit b) refl a b) h)
  both-permit closed a b h = (applied (each₂ (λ a b. permit (restricted closed a b) ⇒ permit a) refl a b) h, applied (each₂ (λ a b. permit (restricted closed a b) ⇒ permit b) refl a b) h)

  module _ (rec : Derivation) (good : RecOk rec) (d : Kind) (p : ℕ → Type 0) where
    args_ok : (xs ys : List ℕ) (t : Table) → Inv t p → ArgsBy Free xs ys → IfSome (derive_args rec d t xs ys) (GotArgs t p d xs ys)
    unfolding derive_args
    args_ok [] ys t v h = record { inv = v; grow = grown-refl t; is = tt; inside = tt }
    args_ok (x ∷ xs) [] t v h = record { inv = v; grow = grown-refl t; is = tt; inside = tt }
    args_ok (x ∷ xs) (y ∷ ys) t v h = some_then _ (GotArgs t p d (x ∷ xs) (y ∷ ys)) (rec t (arg_kind d) y x) _ (good t p v (arg_kind d) y x h.0) λ a g.
        some_then _ (GotArgs t p d (x ∷ xs) (y ∷ ys)) (derive_args rec d a.0 xs ys) _ (args_ok xs ys a.0 g.inv h.1) λ b e.
        record {
          inv = e.inv;
          grow = grown-trans g.grow e.grow;
          is = (known-keys (grown-keys e.grow) (arg_kind d) y x a.1 g.is, e.is);
          inside = (omega (arith, e.grow.more, g.inside), e.inside);
        }

    answer_ok : (x y : Option ℕ) (t : Table) → Inv t p → AnswerBy Free x y → IfSome (derive_answer rec d t x y) (GotAnswer t p d x y)
    unfolding derive_answer
    answer_ok none y t v h = record { inv = v; grow = grown-refl t; is = tt; inside = tt }
    answer_ok (some x) none t v h = record { inv = v; grow = grown-refl t; is = tt; inside = tt }
    answer_ok (some x) (some y) t v h = some_then _ (GotAnswer t p d (some x) (some y)) (rec t (answer_kind d) x y) _ (good t p v (answer_kind d) x y h) λ a g.
        record { inv = g.inv; grow = g.grow; is = g.is; inside = g.inside }

    method-ok : (x y : Method) (t : Table) → Inv t p → MethodBy free Free x y → IfSome (derive_method rec d t x y) (GotMethod t p d x y)
    unfolding derive_method
    method-ok x y t v h = go (permit (restricted d x.state y.state)) refl
      where
        s : State
        s = restricted d x.state y.state

        go : (b : Bool) → permit (restricted d x.state y.state) ≡ b → IfSome (elim b [
          | false ↦ some (t, bare s)
          | true ↦ then (derive_args rec d t x.args y.args) λ p. then (derive_answer rec d p.0 x.answer y.answer) λ q. some (q.0, signed s p.1 q.1)
        ]) (GotMethod t p d x y)
        go false e = record { inv = v; grow = grown-refl t; is = here refl (λ h. never (sym e ∙ h)) (λ _. (refl, refl)); inside = (tt, tt) }
        go true e = let w = both-permit d x.state y.state e in let g = h.signature w.0 w.1 in
            some_then _ (GotMethod t p d x y) (derive_args rec d t x.args y.args) _ (args_ok x.args y.args t v g.args) λ a f.
            some_then _ (GotMethod t p d x y) (derive_answer rec d a.0 x.answer y.answer) _ (answer_ok x.answer y.answer a.0 f.inv g.answer) λ b k.
            record {
              inv = k.inv;
              grow = grown-trans f.grow k.grow;
              is = here refl (λ _. record { args = args-keys (grown-keys k.grow) (arg_kind d) x.args y.args a.1 f.is; answer = k.is }) (λ h. never (sym h ∙ e));
              inside = (all-below-more k.grow.more a.1 f.inside, k.inside);
            }

    methods-ok : (xs ys : List Method) (t : Table) → Inv t p → length xs ≡ length ys → ((m : ℕ) → MethodBy free Free (get_or xs m no_method) (get_or ys m no_method))
        → IfSome (derive_methods rec d t xs ys) (GotMethods t p d xs ys)
    unfolding derive_methods
    methods-ok [] [] t v l h = record { inv = v; grow = grown-refl t; long = refl; is = λ m. past refl refl refl; inside = λ m. (tt, tt) }
    methods-ok [] (y ∷ ys) t v l h = absurd (omega arith)
    methods-ok (x ∷ xs) [] t v l h = absurd (omega arith)
    methods-ok (x ∷ xs) (y ∷ ys) t v l h = some_then _ (GotMethods t p d (x ∷ xs) (y ∷ ys)) (derive_method rec d t x y) _ (method-ok x y t v (h 0)) λ a g.
        some_then _ (GotMethods t p d (x ∷ xs) (y ∷ ys)) (derive_methods rec d a.0 xs ys) _ (methods-ok xs ys a.0 g.inv (omega arith) (λ m. h (suc m))) λ b e.
        record {
          inv = e.inv;
          grow = grown-trans g.grow e.grow;
          long = ap suc e.long;
          is = λ m. elim m as (λ i. DerivedMethod b.0 d (get_or (x ∷ xs) i no_method) (get_or (y ∷ ys) i no_method) (get_or (a.1 ∷ b.1) i no_method)) [ zero ↦ method-keys (grown-keys e.grow) d x y a.1 g.is | suc k ↦ e.is k ];
          inside = λ m. elim m as (λ i. SignatureBelow (size b.0) (get_or (a.1 ∷ b.1) i no_method)) [ zero ↦ signature-below-more e.grow.more a.1 g.inside | suc k ↦ e.inside k ];
        }

-- what is known without a new type
der-so : (a b : Kind) → So (same_kind a b) → a ≡ b
der-so sub sub h = refl
der-so sub sup h = never h
der-so sub closed h = never h
der-so sup sub h = never h
der-so sup sup h = refl
der-so sup closed h = never h
der-so closed sub h = never h
der-so closed sup h = never h
der-so closed closed h = refl

pub key-so : (d : Kind) (l r : ℕ) (o : Option Key) → So (is_key d l r o) → o ≡ some (record { kind = d; left = l; right = r })
key-so d l r none h = never h
key-so d l r (some k) h =
    let p = der-so d k.kind (first (same_kind d k.kind) _ h) in
    let g = second (same_kind d k.kind) _ h in
    let q = eqb-so (first (eqb l k.left) _ g) in
    let s = eqb-so (second (eqb l k.left) _ g) in
    λ i. some (record { kind = sym p i; left = sym q i; right = sym s i })

pub record Found (d : Kind) (l r i : ℕ) (xs : List Ty) (j : ℕ) : Type 0 where
  pub off : ℕ
  pub place : j ≡ i + off
  pub inside : off < length xs
  pub key : (get_or xs off no_type).key ≡ some (record { kind = d; left = l; right = r })

pub find-ok : (d : Kind) (l r i : ℕ) (xs : List Ty) → IfSome (find d l r i xs) (Found d l r i xs)
unfolding find
find-ok d l r i [] = tt
find-ok d l r i (x ∷ xs) = go (is_key d l r x.key) refl (find d l r (suc i) xs) (find-ok d l r (suc i) xs)
  where
    later : (o : Option ℕ) → IfSome o (Found d l r (suc i) xs) → IfSome o (Found d l r i (x ∷ xs))
    later none h = tt
    later (some j) h = record { off = suc h.off; place = omega (arith, h.place); inside = omega (arith, h.inside); key = h.key }

    go : (b : Bool) → is_key d l r x.key ≡ b → (o : Option ℕ) → IfSome o (Found d l r (suc i) xs) → IfSome (elim b [ true ↦ some i | false ↦ o ]) (Found d l r i (x ∷ xs))
    go true e o h = record { off = 0; place = omega arith; inside = omega arith; key = key-so d l r x.key e }
    go false e o h = later o h

abbrev pub Old : Table → Kind → ℕ → ℕ → ℕ → Type 0
Old t d l r i = Known t d l r i × (i < size t)

module _ (t : Table) (l r : ℕ) (low : l < size t) (high : r < size t) where
  found-old : (d : Kind) (o : Option ℕ) → IfSome o (Found d l r 0 t.types) → IfSome o (Old t d l r)
  found-old d none h = tt
  found-old d (some j) h = let e : h.off ≡ j = omega (arith, h.place) in
      let i : j < size t = omega (arith, h.inside) in (made i (subst (λ x. (type_at t x).key ≡ some (record { kind = d; left = l; right = r })) e h.key), i)

  pub main-in : (d : Kind) → main_side d l r < size t
  main-in sub = low
  main-in sup = high
  main-in closed = low

  not-both : (a b : Bool) → a ≡ b → (a && b) ≡ false → a ≡ false
  not-both true true e f = never (sym f)
  not-both true false e f = never (sym e)
  not-both false b e f = refl

  short_ok : is_ref (type_at t l).rep ≡ is_ref (type_at t r).rep → (d : Kind) → So (is_open d) → IfSome
      (elim (eqb l r) [ true ↦ some l | false ↦ elim (is_ref (type_at t l).rep && is_ref (type_at t r).rep) [ true ↦ find d l r 0 t.types | false ↦ some (main_side d l r) ] ]) (Old t d l r)
  short_ok s d o = go (eqb l r) refl (is_ref (type_at t l).rep && is_ref (type_at t r).rep) refl
    where
      go : (a : Bool) → eqb l r ≡ a → (b : Bool) → (is_ref (type_at t l).rep && is_ref (type_at t r).rep) ≡ b
          → IfSome (elim a [ true ↦ some l | false ↦ elim b [ true ↦ find d l r 0 t.types | false ↦ some (main_side d l r) ] ]) (Old t d l r)
      go true e b f = (itself o (eqb-so e) refl, low)
      go false e true f = found-old d (find d l r 0 t.types) (find-ok d l r 0 t.types)
      go false e false f = (of_number low o (not-both (is_ref (type_at t l).rep) (is_ref (type_at t r).rep) s f) refl, main-in d)

  pub known-ok : is_ref (type_at t l).rep ≡ is_ref (type_at t r).rep → (d : Kind) → IfSome (without_new t d l r) (Old t d l r)
  unfolding without_new
  known-ok s sub = short_ok s sub refl
  known-ok s sup = short_ok s sup refl
  known-ok s closed = found-old closed (find closed l r 0 t.types) (find-ok closed l r 0 t.types)

abbrev pub EvenMethods : Table → Type 0
EvenMethods t = (i j : ℕ) → i < size t → j < size t → is_ref (type_at t i).rep ≡ is_ref (type_at t j).rep → length (type_at t i).methods ≡ length (type_at t j).methods

module _ (t₀ : Table) where
  fresh-keys : {t u : Table} → Keys t u → (j : ℕ) → type_at u j ≡ type_at t j → Fresh t₀ t j → Fresh t₀ u j
  fresh-keys {t} {u} x j e f = record {
    keyed = (f.keyed.0, ap (λ y. y.key) e ∙ f.keyed.1);
    key = λ k g. let r = f.key k (sym (ap (λ y. y.key) e) ∙ g) in
        record {
          low = r.low;
          high = r.high;
          rep = ap (λ y. y.rep) e ∙ r.rep;
          cat = ap (λ y. y.cat) e ∙ r.cat;
          own = ap (λ y. y.own) e ∙ r.own;
          long = ap (λ y. length y.methods) e ∙ r.long;
          at = λ m. subst (λ y. DerivedMethod u k.kind (method_at t₀ k.left m) (method_at t₀ k.right m) (get_or y.methods m no_method)) (sym e) (method-keys x k.kind _ _ _ (r.at m));
          inside = λ m. subst (λ y. SignatureBelow (size u) (get_or y.methods m no_method)) (sym e) (signature-below-more x.more (method_at t j m) (r.inside m));
        };
  }

  pushed-inv : (t : Table) (p : ℕ → Type 0) (e : Ty) → Inv t₀ t p → Inv t₀ (pushed t e) (λ j. p j ⊎ (j ≡ size t))
  pushed-inv t p e v = record { ext = grown-trans v.ext (pushed-grown t e); fresh = λ j a b. go j a (dec_lt j (size t)) (let s = pushed-size t e in omega arith) }
    where
      old : (j : ℕ) → j < size t → p j ⊎ Fresh t₀ t j → (p j ⊎ (j ≡ size t)) ⊎ Fresh t₀ (pushed t e) j
      old j l (inl h) = inl (inl h)
      old j l (inr f) = inr (fresh-keys (grown-keys (pushed-grown t e)) j ((pushed-grown t e).same j l) f)

      go : (j : ℕ) → size t₀ ≤ j → Dec (j < size t) → j < suc (size t) → (p j ⊎ (j ≡ size t)) ⊎ Fresh t₀ (pushed t e) j
      go j a (yes l) b = old j l (v.fresh j a l)
      go j a (no l) b = inl (inr (omega arith))

  module _ (even : EvenMethods t₀) (t : Table) (p : ℕ → Type 0) (v : Inv t₀ t p) (d : Kind) (l r : ℕ) (h : So (related free t₀ l r)) (x : Table × List Method)
      (g : GotMethods t₀ (pushed t (pending t d l r)) (λ j. p j ⊎ (j ≡ size t)) d (type_at t l).methods (type_at t r).methods x) where
    q : Rule free t₀ (λ a b. So (related free t₀ a b)) l r
    q = keeps-related free t₀ l r h

    n : ℕ
    n = size t

    e : Ty
    e = entry t d l r x.1

    u : Table
    u = stored x.0 n e

    inside : n < size x.0
    unfolding n
    inside = omega (arith, g.grow.more, pushed-size t (pending t d l r))

    before : type_at x.0 n ≡ pending t d l r
    unfolding n
    before = g.grow.same (size t) (omega (arith, pushed-size t (pending t d l r))) ∙ get_or-append_seam t.types (pending t d l r) [] no_type

    after : type_at u n ≡ e
    unfolding u
    after = get_or-set_same x.0.types n e no_type inside

    other : (j : ℕ) → j ≢ n → type_at u j ≡ type_at x.0 j
    unfolding u
    other j k = get_or-set_other x.0.types n j e no_type k

    u-size : size u ≡ size x.0
    unfolding u
    u-size = stored-size x.0 n e

    keys : Keys x.0 u
    unfolding e
    keys = record { more = omega (arith, u-size); key = λ i l. go i (ℕ_discrete i n); rep = λ i l. hi i (ℕ_discrete i n) }
      where
        go : (i : ℕ) → Dec (i ≡ n) → (type_at u i).key ≡ (type_at x.0 i).key
        go i (yes s) = rw s (ap (λ y. y.key) after ∙ sym (ap (λ y. y.key) before))
        go i (no s) = ap (λ y. y.key) (other i s)

        hi : (i : ℕ) → Dec (i ≡ n) → (type_at u i).rep ≡ (type_at x.0 i).rep
        hi i (yes s) = rw s (ap (λ y. y.rep) after ∙ sym (ap (λ y. y.rep) before))
        hi i (no s) = ap (λ y. y.rep) (other i s)

    grow : Grown t u
    unfolding u n
    grow = let m = grown-trans (pushed-grown t (pending t d l r)) g.grow in
        record {
          subjects = m.subjects;
          methods = m.methods;
          cats = m.cats;
          sheet = m.sheet;
          more = omega (arith, m.more, u-size);
          same = λ i s. other i (λ w. omega arith) ∙ m.same i s;
        }

    main-old : main_side d l r < size t₀
    main-old = main-in t₀ l r q.low q.high d

    long-main : (d : Kind) → length (type_at t₀ l).methods ≡ length (type_at t₀ (main_side d l r)).methods
    long-main sub = refl
    long-main sup = even l r q.low q.high (sort-eq t₀ l r h)
    long-main closed = refl

    ready : Ready t₀ u (record { kind = d; left = l; right = r }) n
    unfolding e
    ready = record {
      low = q.low;
      high = q.high;
      rep = ap (λ y. y.rep) after ∙ ap (λ y. y.rep) (v.ext.same (main_side d l r) main-old);
      cat = ap (λ y. y.cat) after ∙ ap (λ y. y.cat) (v.ext.same (main_side d l r) main-old);
      own = ap (λ y. y.own) after;
      long = ap (λ y. length y.methods) after ∙ g.long ∙ ap (λ y. length y.methods) (v.ext.same l q.low) ∙ long-main d;
      at = λ m. subst (λ y. DerivedMethod u d (method_at t₀ l m) (method_at t₀ r m) (get_or y.methods m no_method)) (sym after)
          (method-keys keys d _ _ _ (rw (method-same t₀ t v.ext l m q.low, method-same t₀ t v.ext r m q.high) at (g.is m)));
      inside = λ m. subst (λ y. SignatureBelow (size u) (get_or y.methods m no_method)) (sym after) (signature-below-more keys.more (get_or x.1 m no_method) (g.inside m));
    }

    new-fresh : Fresh t₀ u n
    unfolding e
    new-fresh = record {
      keyed = (record { kind = d; left = l; right = r }, ap (λ y. y.key) after);
      key = λ k f. subst (λ k. Ready t₀ u k n) (some-injective _ _ (sym (ap (λ y. y.key) after) ∙ f)) ready;
    }

    new-inv : Inv t₀ u p
    unfolding n
    new-inv = record { ext = grown-trans v.ext grow; fresh = λ j a b. go j (ℕ_discrete j n) (g.inv.fresh j a (omega (arith, u-size))) }
      where
        go : (j : ℕ) → Dec (j ≡ n) → (p j ⊎ (j ≡ size t)) ⊎ Fresh t₀ x.0 j → p j ⊎ Fresh t₀ u j
        go j (yes s) w = inr (subst (λ y. Fresh t₀ u y) (sym s) new-fresh)
        go j (no s) (inl (inl w)) = inl w
        go j (no s) (inl (inr w)) = absurd (s w)
        go j (no s) (inr f) = inr (fresh-keys keys j (other j s) f)

    new-got : Got t₀ t p d l r (u, n)
    unfolding e
    new-got = record { inv = new-inv; grow = grow; is = made (omega (arith, u-size, inside)) (ap (λ y. y.key) after); inside = omega (arith, u-size, inside) }

  module _ (even : EvenMethods t₀) where
    look-ok : (t : Table) (p : ℕ → Type 0) → Inv t₀ t p → (d : Kind) (l r : ℕ) → So (related free t₀ l r) → (rest : Option (Table × ℕ)) → IfSome rest (Got t₀ t p d l r)
        → IfSome (elim (without_new t d l r) [ some i ↦ some (t, i) | none ↦ rest ]) (Got t₀ t p d l r)
    look-ok t p v d l r h rest k = let q = keeps-related free t₀ l r h in
        some-pick (Got t₀ t p d l r) t (without_new t d l r) rest
        (some-map (Old t d l r) (λ i. Got t₀ t p d l r (t, i)) (λ i w. record { inv = v; grow = grown-refl t; is = w.0; inside = w.1 }) (without_new t d l r)
        (known-ok t l r (omega (arith, q.low, v.ext.more)) (omega (arith, q.high, v.ext.more)) (rw (v.ext.same l q.low, v.ext.same r q.high) (sort-eq t₀ l r h)) d)) k

    pub derive-ok : (f : ℕ) → RecOk t₀ (derive f)
    unfolding derive u n e
    derive-ok zero t p v d l r h = look-ok t p v d l r h none tt
    derive-ok (suc f) t p v d l r h =
        let q = keeps-related free t₀ l r h in
        look-ok t p v d l r h _
        (some-room (Got t₀ t p d l r) (ltb (size t) max_types) _ (λ _.
        (some_then _ (Got t₀ t p d l r) (derive_methods (derive f) d (pushed t (pending t d l r)) (type_at t l).methods (type_at t r).methods) _
        (methods-ok t₀ (derive f) (derive-ok f) d (λ j. p j ⊎ (j ≡ size t)) (type_at t l).methods (type_at t r).methods (pushed t (pending t d l r)) (pushed-inv t p (pending t d l r) v)
        (rw (v.ext.same l q.low, v.ext.same r q.high) (even l r q.low q.high (sort-eq t₀ l r h)))
        (λ m. rw (method-same t₀ t v.ext l m q.low, method-same t₀ t v.ext r m q.high) (q.at m)))
        (λ x g. new-got even t p v d l r h x g))))
