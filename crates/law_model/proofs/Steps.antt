-- A crossing as far as types go: which table and which adapter come of it, and what that does to the chains.
use mathlib.Core.Path.{◌≡◌, refl}
use mathlib.Core.Logic.{◌↔◌}
use mathlib.Core.Bool.{Bool, true, false, So, cond}
use mathlib.Core.List.{List}
use mathlib.Core.Option.{Option, none, some}
use Prim.Native.Nat.{ℕ, ◌<◌}
use native.Mathlib.Omega.{arith}
use Rattle.spec_model.specs.Basics.{◌⇒◌, Res, refuse, ok, try, need}
use Rattle.spec_model.specs.Table.{Kind, sub, closed, Method, Table, size, type_at, method_at, permit, is_avail, max_types}
use Rattle.spec_model.specs.Relations.{subtype, conforms, strict, loose, free, related}
use Rattle.spec_model.specs.Restriction.{restricted, derive, derived}
use Rattle.spec_model.specs.Chains.{Permits}
use Rattle.spec_model.proofs.Rules.{never}
use Rattle.spec_model.proofs.States.{each₂}
use Rattle.spec_model.proofs.Derived.{Known, itself, of_number, made, DerivedMethod, Complete, past, here}
use Rattle.spec_model.proofs.Order.{subtype→conforms, strict→loose, loose→free, conforms-trans, sub-le, closed-le}
use Rattle.spec_model.proofs.ChainLaws.{meet, meet-closed, permits-between}
use Rattle.spec_model.proofs.Growth.{Grown, grown-refl, grown-trans, method-same, related-grow}
use Rattle.spec_model.specs.Refusals.{unrelated, not_owner, not_strict, types_full}
use Rattle.law_model.proofs.Deriving.{IfSome}
use Rattle.law_model.proofs.Completes.{grown-keys, known-keys}
use Rattle.law_model.proofs.Good.{Good, Derived, derive-good}

abbrev pub IfOk : {A : Type 0} → Res A → (A → Type 0) → Type 0
IfOk (refuse e) Q = Unit
IfOk (ok a) Q = Q a

pub ok-try : {A B : Type 0} (P : A → Type 0) (Q : B → Type 0) (m : Res A) (k : A → Res B) → IfOk m P → ((a : A) → P a → IfOk (k a) Q) → IfOk (try m k) Q
ok-try P Q (refuse e) k h f = tt
ok-try P Q (ok a) k h f = f a h

pub ok-map : {A : Type 0} (P Q : A → Type 0) → ((a : A) → P a → Q a) → (m : Res A) → IfOk m P → IfOk m Q
ok-map P Q f (refuse e) h = tt
ok-map P Q f (ok a) h = f a h

pub whatever : {A : Type 0} (m : Res A) → IfOk m (λ _. Unit {0})
whatever (refuse e) = tt
whatever (ok a) = tt

pub ok-need : {B : Type 0} (Q : B → Type 0) (b : Bool) (e : ℕ) (k : Unit {0} → Res B) → (So b → IfOk (k tt) Q) → IfOk (need b e k) Q
ok-need Q true e k h = h refl
ok-need Q false e k h = tt

-- X6 to X8: nothing where the place passes, else the closed type of the new adapter
unfoldable pub finish : Table → ℕ → ℕ → Res (Table × Option ℕ)
unfolding related derived
finish t r v = elim (related conforms t r v) [
  | true ↦ ok (t, none)
  | false ↦ need (related strict t r v) not_strict λ _. try (derived t closed r v) λ p. ok (p.0, some p.1)
]

-- The whole: s and to are the types crossed, v the place's type, c the base's class, which the receiver owns or not
pub record Crossed : Type 0 where
  pub table : Table
  pub unwraps : Bool
  pub adapter : Option ℕ

unfoldable pub typed : Table → ℕ → ℕ → ℕ → ℕ → Bool → Res Crossed
unfolding related derived finish
typed t s to v c owns = elim (type_at t to).own [
  | true ↦ need (related free t to s) unrelated λ _. need owns not_owner λ _. try (finish t to c) λ p. ok (record { table = p.0; unwraps = true; adapter = p.1 })
  | false ↦ need (related loose t to s) unrelated λ _. elim (related subtype t to s) [
    | true ↦ ok (record { table = t; unwraps = false; adapter = none })
    | false ↦ try (derived t sub to s) λ p. try (finish p.0 p.1 v) λ q. ok (record { table = q.0; unwraps = false; adapter = q.1 })
  ]
]

-- no method of the type is optional on the outside
abbrev pub Settled : Table → ℕ → Type 0
Settled t v = (m : ℕ) → So (permit (method_at t v m).state ⇒ is_avail (method_at t v m).state)

pub settled-grow : (t u : Table) → Grown t u → (v : ℕ) → v < size t → Settled t v → Settled u v
settled-grow t u x v l h m = rw (method-same t u x v m l) (h m)

closed-settled : (t : Table) → Complete t → (l r i : ℕ) → Known t closed l r i → Settled t i
closed-settled t c l r i (itself o e f) m = never o
closed-settled t c l r i (of_number u o e f) m = never o
closed-settled t c l r i (made u e) m = go (method_at t l m) (method_at t r m) (method_at t i m) ((c i _ e).at m)
  where
    go : (x y z : Method) → DerivedMethod t closed x y z → So (permit z.state ⇒ is_avail z.state)
    go x y z (past p q r) = rw r
    go x y z (here p q z') = rw p (each₂ (λ a b. permit (restricted closed a b) ⇒ is_avail (restricted closed a b)) refl x.state y.state)

derived-ok : (t : Table) → Good t → (d : Kind) (l r : ℕ) → So (related free t l r) → IfOk (derived t d l r) (Derived t d l r)
unfolding derived
derived-ok t g d l r h = go (derive max_types t d l r) (derive-good t g max_types d l r h)
  where
    go : (o : Option (Table × ℕ)) → IfSome o (Derived t d l r) → IfOk (elim o [ none ↦ refuse types_full | some p ↦ ok p ]) (Derived t d l r)
    go none k = tt
    go (some p) k = k

abbrev pub or_else : Option ℕ → ℕ → ℕ
or_else none v = v
or_else (some c) v = c

pub record Finished (t : Table) (r v : ℕ) (x : Table × Option ℕ) : Type 0 where
  pub good : Good x.0
  pub grow : Grown t x.0
  pub inside : or_else x.1 v < size x.0
  pub below : So (related conforms x.0 r (or_else x.1 v))
  pub settled : Settled x.0 (or_else x.1 v)
  pub chains : (w : List ℕ) → (Permits x.0 r w × Permits x.0 (or_else x.1 v) w) ↔ (Permits x.0 r w × Permits x.0 v w)

pub finish-ok : (t : Table) → Good t → (r v : ℕ) → v < size t → Settled t v → IfOk (finish t r v) (Finished t r v)
unfolding finish
finish-ok t g r v l s = go (related conforms t r v) refl
  where
    go : (b : Bool) → related conforms t r v ≡ b → IfOk (elim b [
      | true ↦ ok (t, none)
      | false ↦ need (related strict t r v) not_strict λ _. try (derived t closed r v) λ p. ok (p.0, some p.1)
    ]) (Finished t r v)
    go true e = record { good = g; grow = grown-refl t; inside = l; below = e; settled = s; chains = λ w. (λ h. h, λ h. h) }
    go false e = ok-need (Finished t r v) (related strict t r v) not_strict (λ _. try (derived t closed r v) λ p. ok (p.0, some p.1)) λ h.
        let f = loose→free t r v (strict→loose t r v h) in
        ok-try (Derived t closed r v) (Finished t r v) (derived t closed r v) (λ p. ok (p.0, some p.1)) (derived-ok t g closed r v f) λ p d.
        let u = p.0 in let c = d.good in
        let m : (w : List ℕ) → Permits u p.1 w ↔ (Permits u r w × Permits u v w) = λ w.
        meet-closed u c.complete w r v p.1 (settled-grow t u d.grow v l s) (related-grow t u d.grow free r v f) d.is in
        record {
          good = c;
          grow = d.grow;
          inside = d.inside;
          below = closed-le u c.cats c.sigs c.complete r v p.1 (related-grow t u d.grow strict r v h) d.is;
          settled = closed-settled u c.complete r v p.1 d.is;
          chains = λ w. (λ k. (m w).0 k.1, λ k. (k.0, (m w).1 k));
        }

-- After a crossing to g: the place's type, the base's class being c
abbrev pub now_type : Crossed → ℕ → ℕ → ℕ
now_type x v c = or_else x.adapter (cond x.unwraps c v)

abbrev pub Before : Table → Bool → ℕ → ℕ → ℕ → List ℕ → Type 0
Before t true s v c w = Permits t c w
Before t false s v c w = Permits t s w × Permits t v w

pub record Passed (t : Table) (s g v c : ℕ) (x : Crossed) : Type 0 where
  pub good : Good x.table
  pub grow : Grown t x.table
  pub inside : now_type x v c < size x.table
  pub below : So (related conforms x.table g (now_type x v c))
  pub settled : Settled x.table (now_type x v c)
  pub chains : (w : List ℕ) → (Permits x.table g w × Permits x.table (now_type x v c) w) ↔ (Permits x.table g w × Before x.table x.unwraps s v c w)

module _ (t : Table) (good : Good t) (s g v c : ℕ) (v_in : v < size t) (c_in : c < size t) (v_solid : Settled t v) (c_solid : Settled t c) (sv : So (related conforms t s v)) where
  own-ok : IfOk (try (finish t g c) λ p. ok (record { table = p.0; unwraps = true; adapter = p.1 })) (Passed t s g v c)
  own-ok = ok-try (Finished t g c) (Passed t s g v c) (finish t g c) (λ p. ok (record { table = p.0; unwraps = true; adapter = p.1 })) (finish-ok t good g c c_in c_solid) λ p f.
      record { good = f.good; grow = f.grow; inside = f.inside; below = f.below; settled = f.settled; chains = f.chains }

  pass-ok : So (related subtype t g s) → Passed t s g v c (record { table = t; unwraps = false; adapter = none })
  pass-ok h = let b = subtype→conforms t g s h in
      record {
        good = good;
        grow = grown-refl t;
        inside = v_in;
        below = conforms-trans t good.cats g s v b sv;
        settled = v_solid;
        chains = λ w. (λ k. (k.0, (permits-between t w g s v b sv k.0 k.1, k.1)), λ k. (k.0, k.1.1));
      }

  sub-ok : So (related loose t g s) → IfOk (try (derived t sub g s) λ p. try (finish p.0 p.1 v) λ q. ok (record { table = q.0; unwraps = false; adapter = q.1 })) (Passed t s g v c)
  sub-ok h = ok-try (Derived t sub g s) (Passed t s g v c) (derived t sub g s) (λ p. try (finish p.0 p.1 v) λ q. ok (record { table = q.0; unwraps = false; adapter = q.1 }))
      (derived-ok t good sub g s (loose→free t g s h)) λ p d.
      let v_in' : v < size p.0 = omega (arith, d.grow.more) in
      ok-try (Finished p.0 p.1 v) (Passed t s g v c) (finish p.0 p.1 v) (λ q. ok (record { table = q.0; unwraps = false; adapter = q.1 }))
      (finish-ok p.0 d.good p.1 v v_in' (settled-grow t p.0 d.grow v v_in v_solid)) λ q f.
      let u = q.0 in let r = p.1 in
      let x = grown-trans d.grow f.grow in
      let h' = related-grow t u x loose g s h in
      let k = known-keys (grown-keys f.grow) sub g s r d.is in
      let gr = sub-le u f.good.cats f.good.sigs f.good.complete g s r h' k in
      let m : (w : List ℕ) → Permits u r w ↔ (Permits u g w × Permits u s w) = λ w. meet u f.good.complete w g s r (loose→free u g s h') k in
      record {
        good = f.good;
        grow = x;
        inside = f.inside;
        below = conforms-trans u f.good.cats g r (or_else q.1 v) gr f.below;
        settled = f.settled;
        chains = λ w. (
          (λ a. let b = permits-between u w g r (or_else q.1 v) gr f.below a.0 a.1 in (a.0, (((m w).0 b).1, ((f.chains w).0 (b, a.1)).1))),
          λ a. (a.0, ((f.chains w).1 ((m w).1 (a.0, a.1.0), a.1.1)).1),
        );
      }

  pub typed-ok : (owns : Bool) → IfOk (typed t s g v c owns) (Passed t s g v c)
  unfolding typed
  typed-ok owns = go (type_at t g).own (related subtype t g s) refl
    where
      go : (b d : Bool) → related subtype t g s ≡ d → IfOk (elim b [
        | true ↦ need (related free t g s) unrelated λ _. need owns not_owner λ _. try (finish t g c) λ p. ok (record { table = p.0; unwraps = true; adapter = p.1 })
        | false ↦ need (related loose t g s) unrelated λ _. elim d [
          | true ↦ ok (record { table = t; unwraps = false; adapter = none })
          | false ↦ try (derived t sub g s) λ p. try (finish p.0 p.1 v) λ q. ok (record { table = q.0; unwraps = false; adapter = q.1 })
        ]
      ]) (Passed t s g v c)
      go true d e = ok-need (Passed t s g v c) (related free t g s) unrelated (λ _. need owns not_owner λ _. try (finish t g c) λ p. ok (record { table = p.0; unwraps = true; adapter = p.1 })) λ h.
          ok-need (Passed t s g v c) owns not_owner (λ _. try (finish t g c) λ p. ok (record { table = p.0; unwraps = true; adapter = p.1 })) λ k. own-ok
      go false true e = ok-need (Passed t s g v c) (related loose t g s) unrelated (λ _. ok (record { table = t; unwraps = false; adapter = none })) λ h. pass-ok e
      go false false e = ok-need (Passed t s g v c) (related loose t g s) unrelated
          (λ _. try (derived t sub g s) λ p. try (finish p.0 p.1 v) λ q. ok (record { table = q.0; unwraps = false; adapter = q.1 })) λ h. sub-ok h
