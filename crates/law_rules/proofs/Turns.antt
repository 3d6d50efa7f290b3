-- How a new type comes about: its own number first, then the types of its signatures in turn (docs/SPEC.md, D10, D11, D15 to D17).
use mathlib.Core.Path.{◌≡◌, refl, ap, sym, subst}
use mathlib.Core.Bool.{Bool, true, false, cond}
use mathlib.Core.List.{List, [], ◌∷◌, ◌++◌}
use mathlib.Core.Option.{Option, none, some}
use Prim.Native.Nat.{ℕ}
use native.Mathlib.Omega.{arith}
use lib.Dec.{ltb}
use lib.Seq.{get_or-set_same}
use Rattle.spec_model.specs.Basics.{then}
use Rattle.spec_model.specs.Table.{Kind, Key, Method, Table, no_type, max_types, size, type_at, permit, signed, bare}
use Rattle.spec_model.specs.Restriction.{restricted, arg_kind, answer_kind, without_new, entry, pending, Derivation, derive_args, derive_answer, derive_method, derive_methods, make, derive}
use Rattle.spec_model.proofs.Growth.{Grown, grown-refl, grown-trans}
use Rattle.law_model.proofs.Deriving.{IfSome, some_then, some-room, pushed, stored, pushed-size, derive-grown}
use Rattle.law_model.proofs.Fuel.{derive-self}
use Rattle.law_rules.proofs.Derivation.{key_of}

-- ---- what a new type asks for, in order: method by method, the arguments by position, then the answer
abbrev pub arguments_asked : Kind → List ℕ → List ℕ → List Key
arguments_asked d [] ys = []
arguments_asked d (x ∷ xs) [] = []
arguments_asked d (x ∷ xs) (y ∷ ys) = key_of (arg_kind d) y x ∷ arguments_asked d xs ys

abbrev pub answer_asked : Kind → Option ℕ → Option ℕ → List Key
answer_asked d none y = []
answer_asked d (some x) none = []
answer_asked d (some x) (some y) = key_of (answer_kind d) x y ∷ []

abbrev pub method_asked : Kind → Method → Method → List Key
method_asked d x y = cond (permit (restricted d x.state y.state)) (arguments_asked d x.args y.args ++ answer_asked d x.answer y.answer) []

abbrev pub asked : Kind → List Method → List Method → List Key
asked d [] ys = []
asked d (x ∷ xs) [] = []
asked d (x ∷ xs) (y ∷ ys) = method_asked d x y ++ asked d xs ys

-- the types that methods name, in the same order
abbrev pub answer_named : Option ℕ → List ℕ
answer_named none = []
answer_named (some x) = x ∷ []

abbrev pub named : List Method → List ℕ
named [] = []
named (x ∷ xs) = (x.args ++ answer_named x.answer) ++ named xs

-- From table t the keys ks are derived, by rec, one after the other, each from the table that the one before left; they get the numbers ns and leave table u.
abbrev pub InTurn : Derivation → Table → List Key → List ℕ → Table → Type 0
InTurn rec t [] [] u = t ≡ u
InTurn rec t [] (n ∷ ns) u = ⊥
InTurn rec t (k ∷ ks) [] u = ⊥
InTurn rec t (k ∷ ks) (n ∷ ns) u = (v : Table) × (rec t k.kind k.left k.right ≡ some (v, n)) × InTurn rec v ks ns u

module _ (rec : Derivation) where
  turns-append : (ks ls : List Key) (ns os : List ℕ) (t v u : Table) → InTurn rec t ks ns v → InTurn rec v ls os u → InTurn rec t (ks ++ ls) (ns ++ os) u
  turns-append [] ls [] os t v u p q = subst (λ w. InTurn rec w ls os u) (sym p) q
  turns-append [] ls (n ∷ ns) os t v u p q = absurd p
  turns-append (k ∷ ks) ls [] os t v u p q = absurd p
  turns-append (k ∷ ks) ls (n ∷ ns) os t v u p q = (p.0, p.1, turns-append ks ls ns os p.0 v u p.2 q)

  -- an answer that is there, with the equation that says so
  whole : {A : Type 0} (o : Option A) → IfSome o (λ a. o ≡ some a)
  whole none = tt
  whole (some a) = refl

  module _ (d : Kind) where
    arguments-turn : (xs ys : List ℕ) (t : Table) → IfSome (derive_args rec d t xs ys) (λ p. InTurn rec t (arguments_asked d xs ys) p.1 p.0)
    unfolding derive_args
    arguments-turn [] ys t = refl
    arguments-turn (x ∷ xs) [] t = refl
    arguments-turn (x ∷ xs) (y ∷ ys) t = some_then _ _ (rec t (arg_kind d) y x) _ (whole (rec t (arg_kind d) y x)) λ p e.
        some_then _ _ (derive_args rec d p.0 xs ys) _ (arguments-turn xs ys p.0) λ q h. (p.0, e, h)

    answer-turn : (x y : Option ℕ) (t : Table) → IfSome (derive_answer rec d t x y) (λ p. InTurn rec t (answer_asked d x y) (answer_named p.1) p.0)
    unfolding derive_answer
    answer-turn none y t = refl
    answer-turn (some x) none t = refl
    answer-turn (some x) (some y) t = some_then _ _ (rec t (answer_kind d) x y) _ (whole (rec t (answer_kind d) x y)) λ p e. (p.0, e, refl)

    method-turn : (x y : Method) (t : Table) → IfSome (derive_method rec d t x y) (λ p. InTurn rec t (method_asked d x y) (p.1.args ++ answer_named p.1.answer) p.0)
    unfolding derive_method
    method-turn x y t = go (permit (restricted d x.state y.state))
      where
        go : (b : Bool) → IfSome {A = Table × Method} (elim b [
          | false ↦ some (t, bare (restricted d x.state y.state))
          | true ↦ then (derive_args rec d t x.args y.args) λ p. then (derive_answer rec d p.0 x.answer y.answer) λ q.
              some (q.0, signed (restricted d x.state y.state) p.1 q.1)
        ]) (λ p. InTurn rec t (cond b (arguments_asked d x.args y.args ++ answer_asked d x.answer y.answer) []) (p.1.args ++ answer_named p.1.answer) p.0)
        go false = refl
        go true = some_then _ _ (derive_args rec d t x.args y.args) _ (arguments-turn x.args y.args t) λ p h.
            some_then _ _ (derive_answer rec d p.0 x.answer y.answer) _ (answer-turn x.answer y.answer p.0) λ q k.
            turns-append (arguments_asked d x.args y.args) (answer_asked d x.answer y.answer) p.1 (answer_named q.1) t p.0 q.0 h k

    pub methods-turn : (xs ys : List Method) (t : Table) → IfSome (derive_methods rec d t xs ys) (λ p. InTurn rec t (asked d xs ys) (named p.1) p.0)
    unfolding derive_methods
    methods-turn [] ys t = refl
    methods-turn (x ∷ xs) [] t = refl
    methods-turn (x ∷ xs) (y ∷ ys) t = some_then _ _ (derive_method rec d t x y) _ (method-turn x y t) λ p h.
        some_then _ _ (derive_methods rec d p.0 xs ys) _ (methods-turn xs ys p.0) λ q k.
        turns-append (method_asked d x y) (asked d xs ys) (p.1.args ++ answer_named p.1.answer) (named q.1) t p.0 q.0 h k

-- numbers are only added on the way
pub turns-grow : (f : ℕ) (ks : List Key) (ns : List ℕ) (t u : Table) → InTurn (derive f) t ks ns u → Grown t u
turns-grow f [] [] t u p = subst (Grown t) p (grown-refl t)
turns-grow f [] (n ∷ ns) t u p = absurd p
turns-grow f (k ∷ ks) [] t u p = absurd p
turns-grow f (k ∷ ks) (n ∷ ns) t u p = grown-trans (subst (λ o. IfSome o (λ x. Grown t x.0)) p.1 (derive-grown f t k.kind k.left k.right)) (turns-grow f ks ns p.0 u p.2)

-- D11, D16, D17. A type that is not known takes the next number, with its key and without own, before anything else; then what its signatures ask for is
-- derived in turn; last its methods, which name the numbers got, are stored.
pub record Anew (f : ℕ) (t : Table) (d : Kind) (l r : ℕ) (x : Table × ℕ) : Type 0 where
  pub number : x.1 ≡ size t
  pub key : (type_at x.0 (size t)).key ≡ some (key_of d l r)
  pub own : (type_at x.0 (size t)).own ≡ false
  pub last : Table
  pub turns : InTurn (derive f) (pushed t (pending t d l r)) (asked d (type_at t l).methods (type_at t r).methods) (named (type_at x.0 (size t)).methods) last
  pub result : x.0 ≡ stored last (size t) (type_at x.0 (size t))

module _ (f : ℕ) (t : Table) (d : Kind) (l r : ℕ) where
  signatures : List Key
  signatures = asked d (type_at t l).methods (type_at t r).methods

  start : Table
  start = pushed t (pending t d l r)

  new-anew : (p : Table × List Method) → InTurn (derive f) start signatures (named p.1) p.0 → Anew f t d l r (stored p.0 (size t) (entry t d l r p.1), size t)
  unfolding start signatures
  new-anew p h =
      let g = turns-grow f signatures (named p.1) start p.0 h in
      let e = entry t d l r p.1 in
      let w : type_at (stored p.0 (size t) e) (size t) ≡ e = get_or-set_same p.0.types (size t) e no_type (omega (arith, g.more, pushed-size t (pending t d l r))) in
      record {
        number = refl;
        key = ap (λ y. y.key) w;
        own = ap (λ y. y.own) w;
        last = p.0;
        turns = subst (λ ms. InTurn (derive f) start signatures (named ms) p.0) (sym (ap (λ y. y.methods) w)) h;
        result = ap (stored p.0 (size t)) (sym w);
      }

  pub make-anew : without_new t d l r ≡ none → IfSome (make (derive f) t d l r) (Anew f t d l r)
  unfolding make start signatures
  make-anew e = go (without_new t d l r) e
    where
      rest : Option (Table × ℕ)
      rest = then (derive_methods (derive f) d start (type_at t l).methods (type_at t r).methods) λ p. some (stored p.0 (size t) (entry t d l r p.1), size t)

      go : (o : Option ℕ) → o ≡ none → IfSome {A = Table × ℕ} (elim o [ some i ↦ some (t, i) | none ↦ elim (ltb (size t) max_types) [ false ↦ none | true ↦ rest ] ]) (Anew f t d l r)
      go (some i) e = let z : ◌≡◌ {A = ℕ} 0 1 = cc in absurd (omega arith)
      go none e = some-room (Anew f t d l r) (ltb (size t) max_types) rest λ h.
          some_then _ (Anew f t d l r) (derive_methods (derive f) d start (type_at t l).methods (type_at t r).methods) _
          (methods-turn (derive f) d (type_at t l).methods (type_at t r).methods start) new-anew

pub made-anew : (t : Table) (d : Kind) (l r : ℕ) → without_new t d l r ≡ none → IfSome (derive max_types t d l r) (Anew max_types t d l r)
made-anew t d l r e = subst (λ o. IfSome o (Anew max_types t d l r)) (sym (derive-self t d l r)) (make-anew max_types t d l r e)
