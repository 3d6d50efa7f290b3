-- Which types a derivation makes: the one asked for, and what signatures ask for in turn (docs/SPEC.md, D9, D10, D16).
use mathlib.Core.Path.{◌≡◌, refl, ap, sym, subst, ◌∙◌}
use mathlib.Core.Logic.{◌⊎◌, inl, inr}
use mathlib.Core.Bool.{Bool, true, false, cond}
use mathlib.Core.List.{List, [], ◌∷◌, ◌++◌}
use mathlib.Core.Option.{Option, none, some, some-injective}
use Prim.Native.Nat.{ℕ, zero, suc, ◌≤◌, ◌<◌}
use native.Mathlib.Omega.{arith}
use native.Mathlib.Decide.{dec_lt, ℕ_discrete}
use lib.ListN.{get_or}
use lib.Seq.{get_or-set_other}
use Rattle.spec_model.specs.Basics.{AllBelow}
use Rattle.spec_model.specs.Table.{Kind, sub, closed, Key, Method, Table, no_method, no_type, max_types, size, type_at, permit}
use Rattle.spec_model.specs.Restriction.{restricted, same_kind, without_new, pending, Derivation, make, derive}
use Rattle.spec_model.proofs.Rules.{never}
use Rattle.spec_model.proofs.Derived.{AnswerBelow, SignaturesIn}
use Rattle.spec_model.proofs.Growth.{Grown, grown-refl, grown-trans}
use Rattle.law_model.proofs.Deriving.{IfSome, some-map, pushed, pushed-size, stored-size, pushed-grown, derive-grown}
use Rattle.law_model.proofs.Crossings.{known-again}
use Rattle.law_model.proofs.Completes.{SignatureBelow}
use Rattle.law_rules.proofs.Derivation.{key_of}
use Rattle.law_rules.proofs.Turns.{arguments_asked, answer_asked, method_asked, asked, named, InTurn, Anew, make-anew, made-anew}

-- k stands in a list of keys
abbrev pub In : Key → List Key → Type 0
In k [] = ⊥
In k (j ∷ js) = (k ≡ j) ⊎ In k js

-- what the type of key k asks for in its signatures
abbrev pub asked_by : Table → Key → List Key
asked_by t k = asked k.kind (type_at t k.left).methods (type_at t k.right).methods

-- Making k asks for j: in a signature of its own, or in one of what it asks for.
pub data Asks (t : Table) (j : Key) : Key → Type 0 where
  itself : (k : Key) → In j (asked_by t k) → Asks t j k
  through : (k i : Key) → In i (asked_by t k) → Asks t j i → Asks t j k

-- sides below n
abbrev Sides : ℕ → Key → Type 0
Sides n k = (k.left < n) × (k.right < n)

abbrev AllSides : ℕ → List Key → Type 0
AllSides n [] = Unit
AllSides n (k ∷ ks) = Sides n k × AllSides n ks

sides-append : (n : ℕ) (ks ls : List Key) → AllSides n ks → AllSides n ls → AllSides n (ks ++ ls)
sides-append n [] ls p q = q
sides-append n (k ∷ ks) ls p q = (p.0, sides-append n ks ls p.1 q)

arguments-sides : (n : ℕ) (d : Kind) (xs ys : List ℕ) → AllBelow n xs → AllBelow n ys → AllSides n (arguments_asked d xs ys)
arguments-sides n d [] ys p q = tt
arguments-sides n d (x ∷ xs) [] p q = tt
arguments-sides n d (x ∷ xs) (y ∷ ys) p q = ((q.0, p.0), arguments-sides n d xs ys p.1 q.1)

answer-sides : (n : ℕ) (d : Kind) (x y : Option ℕ) → AnswerBelow n x → AnswerBelow n y → AllSides n (answer_asked d x y)
answer-sides n d none y p q = tt
answer-sides n d (some x) none p q = tt
answer-sides n d (some x) (some y) p q = ((p, q), tt)

method-sides : (n : ℕ) (d : Kind) (x y : Method) → SignatureBelow n x → SignatureBelow n y → AllSides n (method_asked d x y)
method-sides n d x y p q = go (permit (restricted d x.state y.state))
  where
    go : (b : Bool) → AllSides n (cond b (arguments_asked d x.args y.args ++ answer_asked d x.answer y.answer) [])
    go true = sides-append n (arguments_asked d x.args y.args) _ (arguments-sides n d x.args y.args p.0 q.0) (answer-sides n d x.answer y.answer p.1 q.1)
    go false = tt

asked-sides : (n : ℕ) (d : Kind) (xs ys : List Method) → ((m : ℕ) → SignatureBelow n (get_or xs m no_method)) → ((m : ℕ) → SignatureBelow n (get_or ys m no_method))
    → AllSides n (asked d xs ys)
asked-sides n d [] ys p q = tt
asked-sides n d (x ∷ xs) [] p q = tt
asked-sides n d (x ∷ xs) (y ∷ ys) p q = sides-append n (method_asked d x y) (asked d xs ys) (method-sides n d x y (p 0) (q 0)) (asked-sides n d xs ys (λ m. p (suc m)) (λ m. q (suc m)))

-- ---- derivations from a table whose signatures lie in it
module _ (t₀ : Table) (sigs : SignaturesIn t₀) where
  -- type j of u, which t has not, is of key k and has taken the next number, or it was asked for
  record Came (k : Key) (t u : Table) (j : ℕ) : Type 0 where
    key : Key
    stands : (type_at u j).key ≡ some key
    why : ((j ≡ size t) × (key ≡ k)) ⊎ Asks t₀ key k

  abbrev NewBy : Derivation → Type 0
  NewBy rec = (t : Table) → Grown t₀ t → (k : Key) → Sides (size t₀) k
      → IfSome (rec t k.kind k.left k.right) (λ x. Grown t x.0 × ((j : ℕ) → size t ≤ j → j < size x.0 → Came k t x.0 j))

  -- type j of u was asked for by one of the keys, or is one of them
  record OneOf (ks : List Key) (u : Table) (j : ℕ) : Type 0 where
    key : Key
    stands : (type_at u j).key ≡ some key
    from : Key
    listed : In from ks
    why : (key ≡ from) ⊎ Asks t₀ key from

  module _ (rec : Derivation) (new : NewBy rec) where
    turns-new : (ks : List Key) (ns : List ℕ) (t u : Table) → Grown t₀ t → AllSides (size t₀) ks → InTurn rec t ks ns u
        → Grown t u × ((j : ℕ) → size t ≤ j → j < size u → OneOf ks u j)
    turns-new [] [] t u g s p = (subst (Grown t) p (grown-refl t), λ j a b. let z : size t ≡ size u = ap size p in absurd (omega arith))
    turns-new [] (n ∷ ns) t u g s p = absurd p
    turns-new (k ∷ ks) [] t u g s p = absurd p
    turns-new (k ∷ ks) (n ∷ ns) t u g s p =
        let v : Table = p.0 in
        let h = subst (λ o. IfSome o (λ x. Grown t x.0 × ((j : ℕ) → size t ≤ j → j < size x.0 → Came k t x.0 j))) p.1 (new t g k s.0) in
        let w = turns-new ks ns v u (grown-trans g h.0) s.1 p.2 in
        (grown-trans h.0 w.0, λ j a b. go j v w.0 (dec_lt j (size v)) (λ l. h.1 j a l) (λ l. w.1 j l b))
      where
        early : (j : ℕ) (v : Table) → Grown v u → j < size v → Came k t v j → OneOf (k ∷ ks) u j
        early j v w l c = record { key = c.key; stands = ap (λ y. y.key) (w.same j l) ∙ c.stands; from = k; listed = inl refl; why = either c.why }
          where
            either : {i : Key} → ((j ≡ size t) × (i ≡ k)) ⊎ Asks t₀ i k → (i ≡ k) ⊎ Asks t₀ i k
            either (inl q) = inl q.1
            either (inr q) = inr q

        late : (j : ℕ) → OneOf ks u j → OneOf (k ∷ ks) u j
        late j c = record { key = c.key; stands = c.stands; from = c.from; listed = inr c.listed; why = c.why }

        go : (j : ℕ) (v : Table) → Grown v u → Dec (j < size v) → (j < size v → Came k t v j) → (size v ≤ j → OneOf ks u j) → OneOf (k ∷ ks) u j
        go j v w (yes l) e f = early j v w l (e l)
        go j v w (no l) e f = late j (f (omega arith))

  one-asked : (k : Key) (u : Table) (j : ℕ) → OneOf (asked_by t₀ k) u j → (key : Key) × ((type_at u j).key ≡ some key) × Asks t₀ key k
  one-asked k u j c = (c.key, c.stands, go c.why)
    where
      go : (c.key ≡ c.from) ⊎ Asks t₀ c.key c.from → Asks t₀ c.key k
      go (inl q) = itself k (subst (λ i. In i (asked_by t₀ k)) (sym q) c.listed)
      go (inr q) = through k c.from c.listed q

  -- what a new type asks for is the same in a table that has grown
  asked-same : (t : Table) → Grown t₀ t → (k : Key) → Sides (size t₀) k → asked_by t k ≡ asked_by t₀ k
  asked-same t g k s = rw (g.same k.left s.0, g.same k.right s.1) refl

  asked_in : (k : Key) → AllSides (size t₀) (asked_by t₀ k)
  asked_in k = asked-sides (size t₀) k.kind (type_at t₀ k.left).methods (type_at t₀ k.right).methods (sigs k.left) (sigs k.right)

  module _ (f : ℕ) (new : NewBy (derive f)) (t : Table) (g : Grown t₀ t) (k : Key) (s : Sides (size t₀) k) where
    anew-came : (x : Table × ℕ) → Anew f t k.kind k.left k.right x → (j : ℕ) → size t ≤ j → j < size x.0 → Came k t x.0 j
    anew-came x a j low high = go (ℕ_discrete j (size t))
      where
        begun : Table
        begun = pushed t (pending t k.kind k.left k.right)

        turned : Grown begun a.last × ((j : ℕ) → size begun ≤ j → j < size a.last → OneOf (asked_by t₀ k) a.last j)
        turned = let ns = named (type_at x.0 (size t)).methods in
            turns-new (derive f) new (asked_by t₀ k) ns begun a.last (grown-trans g (pushed-grown t (pending t k.kind k.left k.right))) (asked_in k)
            (subst (λ ks. InTurn (derive f) begun ks ns a.last) (asked-same t g k s) a.turns)

        later : (j ≡ size t → ⊥) → Came k t x.0 j
        later n =
            let e : type_at x.0 j ≡ type_at a.last j = ap (λ u. type_at u j) a.result ∙ get_or-set_other a.last.types (size t) j (type_at x.0 (size t)) no_type n in
            let z : size x.0 ≡ size a.last = ap size a.result ∙ stored-size a.last (size t) (type_at x.0 (size t)) in
            let w = one-asked k a.last j (turned.1 j (omega (arith, pushed-size t (pending t k.kind k.left k.right), n)) (omega arith)) in
            record { key = w.0; stands = ap (λ y. y.key) e ∙ w.1; why = inr w.2 }

        go : Dec (j ≡ size t) → Came k t x.0 j
        go (yes e) = record { key = k; stands = ap (λ i. (type_at x.0 i).key) e ∙ a.key; why = inl (e, refl) }
        go (no n) = later n

  module _ (t : Table) (k : Key) where
    abbrev Made : Table × ℕ → Type 0
    Made x = Grown t x.0 × ((j : ℕ) → size t ≤ j → j < size x.0 → Came k t x.0 j)

    known-made : (f i : ℕ) → without_new t k.kind k.left k.right ≡ some i → IfSome (derive f t k.kind k.left k.right) Made
    known-made f i e = subst (λ o. IfSome o Made) (sym (known-again f t k.kind k.left k.right i e)) (grown-refl t, λ j a b. absurd (omega arith))

    anew-made : (o : Option (Table × ℕ)) → IfSome o (λ x. Grown t x.0) → IfSome o (λ x. (j : ℕ) → size t ≤ j → j < size x.0 → Came k t x.0 j) → IfSome o Made
    anew-made none p q = tt
    anew-made (some x) p q = (p, q)

  derive-new : (f : ℕ) → NewBy (derive f)
  unfolding derive
  derive-new zero t g k s = go (without_new t k.kind k.left k.right) (known-made t k zero)
    where
      go : (o : Option ℕ) → ((i : ℕ) → o ≡ some i → IfSome {A = Table × ℕ} (elim o [ some i ↦ some (t, i) | none ↦ none ]) (Made t k))
          → IfSome {A = Table × ℕ} (elim o [ some i ↦ some (t, i) | none ↦ none ]) (Made t k)
      go none h = tt
      go (some i) h = h i refl
  derive-new (suc f) t g k s = go (derive-new f) (without_new t k.kind k.left k.right) refl
    where
      go : NewBy (derive f) → (o : Option ℕ) → without_new t k.kind k.left k.right ≡ o → IfSome (derive (suc f) t k.kind k.left k.right) (Made t k)
      go new (some i) e = known-made t k (suc f) i e
      go new none e = anew-made t k (derive (suc f) t k.kind k.left k.right) (derive-grown (suc f) t k.kind k.left k.right)
          (some-map _ _ (anew-came f new t g k s) (make (derive f) t k.kind k.left k.right) (make-anew f t k.kind k.left k.right e))

-- Every number that a derivation takes behind its own is of a type that signatures ask for.
pub only-asked : (t : Table) → SignaturesIn t → (d : Kind) (l r : ℕ) → l < size t → r < size t
    → IfSome (derive max_types t d l r) (λ x. (j : ℕ) → size t < j → j < size x.0 → (k : Key) × ((type_at x.0 j).key ≡ some k) × Asks t k (key_of d l r))
only-asked t sigs d l r low high =
    some-map (Made t sigs t (key_of d l r)) _ (λ x h j a b. go x j a (h.1 j (omega arith) b)) (derive max_types t d l r) (derive-new t sigs max_types t (grown-refl t) (key_of d l r) (low, high))
  where
    go : (x : Table × ℕ) (j : ℕ) → size t < j → Came t sigs (key_of d l r) t x.0 j → (k : Key) × ((type_at x.0 j).key ≡ some k) × Asks t k (key_of d l r)
    go x j a c = (c.key, c.stands, why c.why)
      where
        why : {i : Key} → ((j ≡ size t) × (i ≡ key_of d l r)) ⊎ Asks t i (key_of d l r) → Asks t i (key_of d l r)
        why (inl q) = let z = q.0 in absurd (omega arith)
        why (inr q) = q

-- D10. Closed(R,V), where it is not known, takes the next number for itself. No other type is made but those that signatures ask for, so there is no Sub(R,V) among
-- the new types unless one of these is it.
pub closed-takes-one : (t : Table) (l r : ℕ) → without_new t closed l r ≡ none
    → IfSome (derive max_types t closed l r) (λ x. (x.1 ≡ size t) × ((type_at x.0 (size t)).key ≡ some (key_of closed l r)))
closed-takes-one t l r e = some-map _ _ (λ x a. (a.number, a.key)) (derive max_types t closed l r) (made-anew t closed l r e)

pub closed-makes-no-sub : (t : Table) → SignaturesIn t → (l r : ℕ) → l < size t → r < size t → without_new t closed l r ≡ none → (Asks t (key_of sub l r) (key_of closed l r) → ⊥)
    → IfSome (derive max_types t closed l r) (λ x. (j : ℕ) → size t ≤ j → j < size x.0 → (type_at x.0 j).key ≡ some (key_of sub l r) → ⊥)
closed-makes-no-sub t sigs l r low high e none-asked = go (derive max_types t closed l r) (closed-takes-one t l r e) (only-asked t sigs closed l r low high)
  where
    go : (o : Option (Table × ℕ)) → IfSome o (λ x. (x.1 ≡ size t) × ((type_at x.0 (size t)).key ≡ some (key_of closed l r)))
        → IfSome o (λ x. (j : ℕ) → size t < j → j < size x.0 → (k : Key) × ((type_at x.0 j).key ≡ some k) × Asks t k (key_of closed l r))
        → IfSome o (λ x. (j : ℕ) → size t ≤ j → j < size x.0 → (type_at x.0 j).key ≡ some (key_of sub l r) → ⊥)
    go none p q = tt
    go (some x) p q = λ j a b h. at j a b h (ℕ_discrete j (size t))
      where
        at : (j : ℕ) → size t ≤ j → j < size x.0 → (type_at x.0 j).key ≡ some (key_of sub l r) → Dec (j ≡ size t) → ⊥
        at j a b h (yes s) = let z : some (key_of sub l r) ≡ some (key_of closed l r) = sym h ∙ ap (λ i. (type_at x.0 i).key) s ∙ p.1 in
            never (ap (λ (o : Option Key). elim o as (λ _. Bool) [ none ↦ false | some k ↦ same_kind closed k.kind ]) z)
        at j a b h (no n) = let w = q j (omega (arith, n)) b in none-asked (subst (λ i. Asks t i (key_of closed l r)) (some-injective _ _ (sym w.1 ∙ h)) w.2)
