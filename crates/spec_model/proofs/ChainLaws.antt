-- Chains that a type permits: those of a derived type are those of both its sides (`meet`), and what lies between two types permits what both do. By induction on the chain.
use mathlib.Core.Path.{◌≡◌, refl, sym, ◌∙◌}
use mathlib.Core.Logic.{◌↔◌}
use mathlib.Core.Bool.{◌||◌, So}
use mathlib.Core.List.{List, [], ◌∷◌}
use mathlib.Core.Option.{Option, none, some}
use Prim.Native.Nat.{ℕ}
use Rattle.spec_model.specs.Basics.{◌⇒◌, over}
use Rattle.spec_model.specs.Table.{Rep, ref, w32, w64, sub, closed, Method, Table, type_at, method_at, permit, is_avail, is_ref, is_nil}
use Rattle.spec_model.specs.Relations.{conforms, free, state_le, same_rep, outer_rule, related, AnswerBy}
use Rattle.spec_model.specs.Restriction.{restricted}
use Rattle.spec_model.specs.Chains.{permits, Permits}
use Rattle.spec_model.proofs.Rules.{never, both, first, second, applied}
use Rattle.spec_model.proofs.Largest.{keeps-related}
use Rattle.spec_model.proofs.States.{each₂, each₃}
use Rattle.spec_model.proofs.Derived.{of_number, Known, itself, made, AnswerFrom, DerivedMethod, past, here, Complete}
use Rattle.spec_model.proofs.Tests.{beq-so}

-- what comes after a method's answer
abbrev pub Onward : Table → List ℕ → Option ℕ → Type 0
Onward t [] o = Unit
Onward t (m ∷ w) none = ⊥
Onward t (m ∷ w) (some a) = Permits t a (m ∷ w)

onward-says : (t : Table) (w : List ℕ) (o : Option ℕ) → So (is_nil w || over o (λ a. permits t a w)) → Onward t w o
onward-says t [] o h = tt
onward-says t (m ∷ w) none h = never h
onward-says t (m ∷ w) (some a) h = h

onward-test : (t : Table) (w : List ℕ) (o : Option ℕ) → Onward t w o → So (is_nil w || over o (λ a. permits t a w))
onward-test t [] o h = refl
onward-test t (m ∷ w) none h = absurd h
onward-test t (m ∷ w) (some a) h = h

pub record Step (t : Table) (n m : ℕ) (w : List ℕ) : Type 0 where
  pub sort : So (is_ref (type_at t n).rep)
  pub here : So (permit (method_at t n m).state)
  pub next : Onward t w (method_at t n m).answer

pub step : (t : Table) (n m : ℕ) (w : List ℕ) → Permits t n (m ∷ w) → Step t n m w
unfolding permits
step t n m w h = let r = second (is_ref (type_at t n).rep) _ h in
    record { sort = first (is_ref (type_at t n).rep) _ h; here = first (permit (method_at t n m).state) _ r; next = onward-says t w _ (second (permit (method_at t n m).state) _ r) }

pub steps : (t : Table) (n m : ℕ) (w : List ℕ) → Step t n m w → Permits t n (m ∷ w)
unfolding permits
steps t n m w h = both h.sort (both h.here (onward-test t w _ h.next))

pub permits-ref : (t : Table) (n : ℕ) (w : List ℕ) → Permits t n w → So (is_ref (type_at t n).rep)
unfolding permits
permits-ref t n [] h = h
permits-ref t n (m ∷ w) h = (step t n m w h).sort

module _ (t : Table) where
  pub sort-eq : (a b : ℕ) → So (related free t a b) → is_ref (type_at t a).rep ≡ is_ref (type_at t b).rep
  unfolding outer_rule
  sort-eq a b h = beq-so _ _ (keeps-related free t a b h).outer

  onward-between : (w : List ℕ) → ((a b c : ℕ) → So (related conforms t a b) → So (related conforms t b c) → Permits t a w → Permits t c w → Permits t b w)
      → (x y z : Option ℕ) → AnswerBy (λ a b. So (related conforms t a b)) x y → AnswerBy (λ a b. So (related conforms t a b)) y z → Onward t w x → Onward t w z → Onward t w y
  onward-between [] ih x y z h k p q = tt
  onward-between (m ∷ w) ih none y z h k p q = absurd p
  onward-between (m ∷ w) ih (some x) none z h k p q = h
  onward-between (m ∷ w) ih (some x) (some y) none h k p q = absurd q
  onward-between (m ∷ w) ih (some x) (some y) (some z) h k p q = ih x y z h k p q

  rep-ref : (a b : Rep) → So (same_rep a b) → So (is_ref a) → So (is_ref b)
  rep-ref ref ref h k = refl
  rep-ref ref w32 h k = h
  rep-ref ref w64 h k = h
  rep-ref w32 b h k = never k
  rep-ref w64 b h k = never k

  bare-ref : (a b : ℕ) → So (related conforms t a b) → So (is_ref (type_at t a).rep) → So (is_ref (type_at t b).rep)
  unfolding outer_rule
  bare-ref a b h = rep-ref (type_at t a).rep (type_at t b).rep (first (same_rep (type_at t a).rep (type_at t b).rep) _ (keeps-related conforms t a b h).outer)

  -- V below S below T: what T and V permit, S does
  pub permits-between : (w : List ℕ) (a b c : ℕ) → So (related conforms t a b) → So (related conforms t b c) → Permits t a w → Permits t c w → Permits t b w
  unfolding permits
  permits-between [] a b c h k p q = bare-ref a b h p
  permits-between (m ∷ w) a b c h k p q =
      let u = step t a m w p in let v = step t c m w q in
      let f = (keeps-related conforms t a b h).at m in let g = (keeps-related conforms t b c k).at m in
      let y : So (permit (method_at t b m).state) =
      applied
      (applied
      (applied
      (applied (each₃ (λ x y z. state_le x y ⇒ state_le y z ⇒ permit x ⇒ permit z ⇒ permit y) refl (method_at t a m).state (method_at t b m).state (method_at t c m).state) f.state)
      g.state) u.here) v.here in
      steps t b m w (record {
        sort = bare-ref a b h u.sort;
        here = y;
        next = onward-between w (permits-between w) _ _ _ (f.signature u.here y).answer (g.signature y v.here).answer u.next v.next;
      })

  -- the chains of a derived type are those of both sides
  abbrev Meets : ℕ → ℕ → ℕ → List ℕ → Type 0
  Meets l r i w = Permits t i w ↔ (Permits t l w × Permits t r w)

  onward-meet : (w : List ℕ) → ((l r i : ℕ) → So (related free t l r) → Known t sub l r i → Meets l r i w)
      → (x y z : Option ℕ) → AnswerBy (λ a b. So (related free t a b)) x y → AnswerFrom (Known t sub) x y z → Onward t w z ↔ (Onward t w x × Onward t w y)
  onward-meet [] ih x y z h k = (λ p. (tt, tt), λ p. tt)
  onward-meet (m ∷ w) ih none none none h k = (λ p. absurd p, λ p. p.0)
  onward-meet (m ∷ w) ih none none (some z) h k = absurd k
  onward-meet (m ∷ w) ih none (some y) z h k = absurd h
  onward-meet (m ∷ w) ih (some x) none z h k = absurd h
  onward-meet (m ∷ w) ih (some x) (some y) none h k = absurd k
  onward-meet (m ∷ w) ih (some x) (some y) (some z) h k = ih x y z h k

  record Joint (x y z : Method) : Type 0 where
    down : So (permit z.state) → So (permit x.state) × So (permit y.state)
    up : So (permit x.state) → So (permit y.state) → So (permit z.state)
    answer : So (permit z.state) → AnswerFrom (Known t sub) x.answer y.answer z.answer

  joint-sub : (x y z : Method) → DerivedMethod t sub x y z → Joint x y z
  joint-sub x y z (past p q r) = rw (p, q, r) (record { down = λ h. never h; up = λ h k. never h; answer = λ h. never h })
  joint-sub x y z (here e s z') = record {
    down = λ h. (
      applied (each₂ (λ a b. permit (restricted sub a b) ⇒ permit a) refl x.state y.state) (rw e at h),
      applied (each₂ (λ a b. permit (restricted sub a b) ⇒ permit b) refl x.state y.state) (rw e at h),
    );
    up = λ h k. rw e (applied (applied (each₂ (λ a b. permit a ⇒ permit b ⇒ permit (restricted sub a b)) refl x.state y.state) h) k);
    answer = λ h. (s h).answer;
  }

  joint-closed : (x y z : Method) → So (permit y.state ⇒ is_avail y.state) → DerivedMethod t closed x y z → Joint x y z
  joint-closed x y z a (past p q r) = rw (p, q, r) (record { down = λ h. never h; up = λ h k. never h; answer = λ h. never h })
  joint-closed x y z a (here e s z') = record {
    down = λ h. (
      applied (each₂ (λ a b. permit (restricted closed a b) ⇒ permit a) refl x.state y.state) (rw e at h),
      applied (each₂ (λ a b. permit (restricted closed a b) ⇒ permit b) refl x.state y.state) (rw e at h),
    );
    up = λ h k. rw e (applied (applied (applied (each₂ (λ a b. permit a ⇒ permit b ⇒ (permit b ⇒ is_avail b) ⇒ permit (restricted closed a b)) refl x.state y.state) h) k) a);
    answer = λ h. (s h).answer;
  }

  module _ (m : ℕ) (w : List ℕ) (ih : (l r i : ℕ) → So (related free t l r) → Known t sub l r i → Meets l r i w) where
    meet-step : (l r i : ℕ) → So (related free t l r) → (type_at t i).rep ≡ (type_at t l).rep → Joint (method_at t l m) (method_at t r m) (method_at t i m) → Meets l r i (m ∷ w)
    meet-step l r i h e j =
        let q = (keeps-related free t l r h).at m in (
          (λ p. let u = step t i m w p in let d = j.down u.here in let n = (onward-meet w ih _ _ _ (q.signature d.0 d.1).answer (j.answer u.here)).0 u.next in
              let s : So (is_ref (type_at t l).rep) = rw e at u.sort in
              (steps t l m w (record { sort = s; here = d.0; next = n.0 }), steps t r m w (record { sort = rw (sort-eq l r h) at s; here = d.1; next = n.1 }))),
          λ p. let u = step t l m w p.0 in let v = step t r m w p.1 in let d = j.up u.here v.here in
              steps t i m w (record { sort = rw e u.sort; here = d; next = (onward-meet w ih _ _ _ (q.signature u.here v.here).answer (j.answer d)).1 (u.next, v.next) }),
        )

  meet-none : (l r i : ℕ) → So (related free t l r) → (type_at t i).rep ≡ (type_at t l).rep → Meets l r i []
  unfolding permits
  meet-none l r i h e = (λ p. let s : So (is_ref (type_at t l).rep) = rw e at p in (s, rw (sort-eq l r h) at s), λ p. rw e p.0)

  module _ (complete : Complete t) where
    known-meet : (w : List ℕ) (l r i : ℕ) → Known t sub l r i → ((type_at t i).key ≡ some (record { kind = sub; left = l; right = r }) → Meets l r i w) → Meets l r i w
    known-meet w l r i (itself o e f) k = rw (f, ← e) (λ p. (p, p), λ p. p.0)
    known-meet w l r i (of_number u o e f) k = rw f (λ p. never (sym e ∙ permits-ref t l w p), λ p. p.0)
    known-meet w l r i (made u e) k = k e

    -- Sub permits what both sides permit
    pub meet : (w : List ℕ) (l r i : ℕ) → So (related free t l r) → Known t sub l r i → Meets l r i w
    meet [] l r i h k = known-meet [] l r i k λ e. meet-none l r i h (complete i _ e).rep
    meet (m ∷ w) l r i h k = known-meet (m ∷ w) l r i k λ e. let c = complete i _ e in meet-step m w (meet w) l r i h c.rep (joint-sub _ _ _ (c.at m))

    -- so does Closed, where the right side has no optional method on the outside
    pub meet-closed : (w : List ℕ) (l r i : ℕ) → ((m : ℕ) → So (permit (method_at t r m).state ⇒ is_avail (method_at t r m).state)) → So (related free t l r) → Known t closed l r i
        → Meets l r i w
    meet-closed w l r i a h (itself o e f) = never o
    meet-closed w l r i a h (of_number u o e f) = never o
    meet-closed [] l r i a h (made u e) = meet-none l r i h (complete i _ e).rep
    meet-closed (m ∷ w) l r i a h (made u e) = let c = complete i _ e in meet-step m w (meet w) l r i h c.rep (joint-closed _ _ _ (a m) (c.at m))
