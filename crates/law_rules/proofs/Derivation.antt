-- Sub, Sup and Closed rule by rule: what a new type holds, and which numbers are taken in which order (docs/SPEC.md, D).
use mathlib.Core.Path.{◌≡◌, refl, ap, sym, subst}
use mathlib.Core.Logic.{◌⊎◌, inl, inr}
use mathlib.Core.Bool.{Bool, true, false, ◌&&◌, So}
use mathlib.Core.List.{List}
use mathlib.Core.Option.{Option, some}
use Prim.Native.Nat.{ℕ, ◌≤◌, ◌<◌}
use lib.Dec.{eqb}
use Rattle.spec_model.specs.Table.{Kind, sub, sup, closed, Key, Method, Table, no_method, max_types, size, type_at, method_at, permit, is_ref, valid_sheet}
use Rattle.spec_model.specs.Relations.{free, related}
use Rattle.spec_model.specs.Restriction.{without_new, find, derive}
use Rattle.spec_model.specs.Requests.{Request}
use Rattle.spec_model.specs.Claim.{reached}
use Rattle.spec_model.proofs.Tests.{eqb-so, eqb-self}
use Rattle.spec_model.proofs.Rules.{never}
use Rattle.spec_model.proofs.Derived.{Known, ArgsFrom, AnswerFrom, DerivedMethod, past, here}
use Rattle.law_model.proofs.Deriving.{IfSome, some-map}
use Rattle.law_model.proofs.Completes.{Fresh, Got}
use Rattle.law_model.proofs.Good.{MethodCounts, derive-inv}
use Rattle.law_model.proofs.Reached.{reached-good}
use Rattle.law_model.proofs.Crossings.{known-again}

abbrev pub key_of : Kind → ℕ → ℕ → Key
key_of d l r = record { kind = d; left = l; right = r }

-- ---- D5, D6, D9: signatures
-- The signature z comes of x and y: the arguments by kind a of (y's, x's), the answer by kind b of (x's, y's).
pub record Signature (u : Table) (a b : Kind) (x y z : Method) : Type 0 where
  pub args : ArgsFrom (Known u a) x.args y.args z.args
  pub answer : AnswerFrom (Known u b) x.answer y.answer z.answer

-- of every type that u has more than t and whose key is of kind d: the methods it permits, in T and S
abbrev pub Signatures : Kind → Kind → Kind → Table → Table → Type 0
Signatures d a b t u = (i l r m : ℕ) → size t ≤ i → i < size u → (type_at u i).key ≡ some (key_of d l r) → So (permit (method_at u i m).state)
    → Signature u a b (method_at t l m) (method_at t r m) (method_at u i m)

-- a method past the last is not permitted
no-method : {C : Type 0} (z : Method) → z ≡ no_method → So (permit z.state) → C
no-method z e h = never (subst (λ w. So (permit w.state)) e h)

sub-method : (u : Table) (x y z : Method) → DerivedMethod u sub x y z → So (permit z.state) → Signature u sup sub x y z
sub-method u x y z (past e f g) h = no-method z g h
sub-method u x y z (here e s n) h = record { args = (s h).args; answer = (s h).answer }

sup-method : (u : Table) (x y z : Method) → DerivedMethod u sup x y z → So (permit z.state) → Signature u sub sup x y z
sup-method u x y z (past e f g) h = no-method z g h
sup-method u x y z (here e s n) h = record { args = (s h).args; answer = (s h).answer }

closed-method : (u : Table) (x y z : Method) → DerivedMethod u closed x y z → So (permit z.state) → Signature u sup sub x y z
closed-method u x y z (past e f g) h = no-method z g h
closed-method u x y z (here e s n) h = record { args = (s h).args; answer = (s h).answer }

-- of the types that a derivation makes, from any table with as many methods in each type as there are
module _ (t : Table) (counts : MethodCounts t) (d : Kind) (l r : ℕ) (free-here : So (related free t l r)) where
  new-methods : IfSome (derive max_types t d l r) (λ x. (i m : ℕ) → size t ≤ i → i < size x.0 → (k : Key) → (type_at x.0 i).key ≡ some k
      → DerivedMethod x.0 k.kind (method_at t k.left m) (method_at t k.right m) (method_at x.0 i m))
  new-methods = some-map (Got t t (λ j. ⊥) d l r) _ (λ x g i m a b k e. go x.0 i m k e (g.inv.fresh i a b)) (derive max_types t d l r) (derive-inv t counts max_types d l r free-here)
    where
      go : (u : Table) (i m : ℕ) (k : Key) → (type_at u i).key ≡ some k → ⊥ ⊎ Fresh t u i → DerivedMethod u k.kind (method_at t k.left m) (method_at t k.right m) (method_at u i m)
      go u i m k e (inl w) = absurd w
      go u i m k e (inr w) = (w.key k e).at m

  -- D5. What Sub(T,S) permits has the arguments Sup(S's, T's) and the answer Sub(T's, S's).
  pub sub-signatures : IfSome (derive max_types t d l r) (λ x. Signatures sub sup sub t x.0)
  sub-signatures = some-map _ _ (λ x g i l r m a b e. sub-method x.0 _ _ _ (g i m a b (key_of sub l r) e)) (derive max_types t d l r) new-methods

  -- D6. What Sup(T,S) permits has the arguments Sub(S's, T's) and the answer Sup(T's, S's).
  pub sup-signatures : IfSome (derive max_types t d l r) (λ x. Signatures sup sub sup t x.0)
  sup-signatures = some-map _ _ (λ x g i l r m a b e. sup-method x.0 _ _ _ (g i m a b (key_of sup l r) e)) (derive max_types t d l r) new-methods

  -- D9. What Closed(R,V) permits has the signature that Sub(R,V) would have.
  pub closed-signatures : IfSome (derive max_types t d l r) (λ x. Signatures closed sup sub t x.0)
  closed-signatures = some-map _ _ (λ x g i l r m a b e. closed-method x.0 _ _ _ (g i m a b (key_of closed l r) e)) (derive max_types t d l r) new-methods

-- D5, D6, D9 and D11 of every type behind the sheet's, in every state reached from a valid sheet
pub record DerivedTypes (t : Table) : Type 0 where
  pub own : (i : ℕ) → t.sheet ≤ i → i < size t → (type_at t i).own ≡ false
  pub key : (i : ℕ) → t.sheet ≤ i → i < size t → (k : Key) × ((type_at t i).key ≡ some k)
  pub subs : (i l r m : ℕ) → (type_at t i).key ≡ some (key_of sub l r) → So (permit (method_at t i m).state) → Signature t sup sub (method_at t l m) (method_at t r m) (method_at t i m)
  pub sups : (i l r m : ℕ) → (type_at t i).key ≡ some (key_of sup l r) → So (permit (method_at t i m).state) → Signature t sub sup (method_at t l m) (method_at t r m) (method_at t i m)
  pub closeds : (i l r m : ℕ) → (type_at t i).key ≡ some (key_of closed l r) → So (permit (method_at t i m).state) → Signature t sup sub (method_at t l m) (method_at t r m) (method_at t i m)

pub reached-derived : (t : Table) → So (valid_sheet t) → (qs : List Request) → DerivedTypes (reached t qs).0.table
reached-derived t valid qs = let u = (reached t qs).0.table in let g = (reached-good t valid qs).0 in
    record {
      own = λ i a b. let k = g.keyed i a b in (g.complete i k.0 k.1).own;
      key = g.keyed;
      subs = λ i l r m e. sub-method u _ _ _ ((g.complete i (key_of sub l r) e).at m);
      sups = λ i l r m e. sup-method u _ _ _ ((g.complete i (key_of sup l r) e).at m);
      closeds = λ i l r m e. closed-method u _ _ _ ((g.complete i (key_of closed l r) e).at m);
    }

-- ---- D12, D13: what needs no new type
-- D12. Asked of the same type twice, Sub and Sup give it back and derive nothing.
pub sub-of-itself : (f : ℕ) (t : Table) (l : ℕ) → derive f t sub l l ≡ some (t, l)
unfolding without_new
sub-of-itself f t l =
    known-again f t sub l l l
    (ap (λ b. elim b [ true ↦ some l | false ↦ elim (is_ref (type_at t l).rep && is_ref (type_at t l).rep) [ true ↦ find sub l l 0 t.types | false ↦ some l ] ]) (eqb-self l))

pub sup-of-itself : (f : ℕ) (t : Table) (l : ℕ) → derive f t sup l l ≡ some (t, l)
unfolding without_new
sup-of-itself f t l =
    known-again f t sup l l l
    (ap (λ b. elim b [ true ↦ some l | false ↦ elim (is_ref (type_at t l).rep && is_ref (type_at t l).rep) [ true ↦ find sup l l 0 t.types | false ↦ some l ] ]) (eqb-self l))

-- D13. Where one of the two is a number type Sub(T,S) is T and Sup(T,S) is S; nothing is derived.
pub sub-of-numbers : (f : ℕ) (t : Table) (l r : ℕ) → (is_ref (type_at t l).rep && is_ref (type_at t r).rep) ≡ false → derive f t sub l r ≡ some (t, l)
unfolding without_new
sub-of-numbers f t l r e = known-again f t sub l r l (go (eqb l r) (is_ref (type_at t l).rep && is_ref (type_at t r).rep) e)
  where
    go : (a b : Bool) → b ≡ false → ◌≡◌ {A = Option ℕ} (elim a [ true ↦ some l | false ↦ elim b [ true ↦ find sub l r 0 t.types | false ↦ some l ] ]) (some l)
    go true b e = refl
    go false true e = never (sym e)
    go false false e = refl

pub sup-of-numbers : (f : ℕ) (t : Table) (l r : ℕ) → (is_ref (type_at t l).rep && is_ref (type_at t r).rep) ≡ false → derive f t sup l r ≡ some (t, r)
unfolding without_new
sup-of-numbers f t l r e = known-again f t sup l r r (go (eqb l r) refl (is_ref (type_at t l).rep && is_ref (type_at t r).rep) e)
  where
    go : (a : Bool) → eqb l r ≡ a → (b : Bool) → b ≡ false
        → ◌≡◌ {A = Option ℕ} (elim a [ true ↦ some l | false ↦ elim b [ true ↦ find sup l r 0 t.types | false ↦ some r ] ]) (some r)
    go true q b e = ap some (eqb-so q)
    go false q true e = never (sym e)
    go false q false e = refl
