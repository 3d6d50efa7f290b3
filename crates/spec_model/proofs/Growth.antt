-- What stays as it is when the table grows.
use mathlib.Core.Path.{◌≡◌, refl, ap, ◌∙◌}
use mathlib.Core.Logic.{◌↔◌}
use mathlib.Core.Bool.{So}
use mathlib.Core.List.{List, [], ◌∷◌}
use mathlib.Core.Option.{Option, none, some}
use Prim.Native.Nat.{ℕ, suc, ◌≤◌, ◌<◌}
use native.Mathlib.Omega.{arith}
use lib.ListN.{get_or}
use Rattle.spec_model.specs.Basics.{AllBelow}
use Rattle.spec_model.specs.Table.{Ty, Table, no_method, size, type_at, method_at, max_categories}
use Rattle.spec_model.specs.Relations.{ArgsBy, AnswerBy, Relation, subtype, conforms, strict, loose, free, cat_le, outer_rule, related, reaches, Keeps}
use Rattle.spec_model.specs.Chains.{permits, Permits}
use Rattle.spec_model.proofs.Rules.{so-both}
use Rattle.spec_model.proofs.Largest.{largest, keeps-related}
use Rattle.spec_model.proofs.Derived.{SignaturesIn, AnswerBelow, CategoryOrder}
use Rattle.spec_model.proofs.ChainLaws.{Onward, step, steps}

pub record Grown (t u : Table) : Type 0 where
  pub subjects : u.subjects ≡ t.subjects
  pub methods : u.methods ≡ t.methods
  pub cats : u.cats ≡ t.cats
  pub sheet : u.sheet ≡ t.sheet
  pub more : size t ≤ size u
  pub same : (i : ℕ) → i < size t → type_at u i ≡ type_at t i

pub grown-refl : (t : Table) → Grown t t
grown-refl t = record { subjects = refl; methods = refl; cats = refl; sheet = refl; more = omega arith; same = λ i l. refl }

pub grown-trans : {t u v : Table} → Grown t u → Grown u v → Grown t v
grown-trans {t} {u} {v} e f = record {
  subjects = f.subjects ∙ e.subjects;
  methods = f.methods ∙ e.methods;
  cats = f.cats ∙ e.cats;
  sheet = f.sheet ∙ e.sheet;
  more = omega (arith, e.more, f.more);
  same = λ i l. f.same i (omega (arith, e.more)) ∙ e.same i l;
}

module _ (t u : Table) (x : Grown t u) where
  pub method-same : (i m : ℕ) → i < size t → method_at u i m ≡ method_at t i m
  method-same i m l = ap (λ y. get_or y.methods m no_method) (x.same i l)

  cats-same : (a b : ℕ) → cat_le u a b ≡ cat_le t a b
  unfolding cat_le
  cats-same a b = ap (λ (cs : List (List ℕ)). reaches (suc max_categories) ([] ∷ cs) a b) x.cats

  pub outer_same : (k : Relation) (a b : Ty) → outer_rule k u a b ≡ outer_rule k t a b
  unfolding outer_rule
  outer_same subtype a b = rw (cats-same a.cat b.cat)
  outer_same conforms a b = rw (cats-same a.cat b.cat)
  outer_same strict a b = rw (cats-same a.cat b.cat)
  outer_same loose a b = refl
  outer_same free a b = refl

  pub cats-grow : CategoryOrder t → CategoryOrder u
  cats-grow c = record { self = λ a. rw (cats-same a a) (c.self a); through = λ a b d h k. rw (cats-same a d) (c.through a b d (rw (cats-same a b) at h) (rw (cats-same b d) at k)) }

  -- old pairs stay related
  pub related-grow : (k : Relation) (a b : ℕ) → So (related k t a b) → So (related k u a b)
  related-grow k = largest k u (λ a b. So (related k t a b)) λ a b h. let q = keeps-related k t a b h in
      record {
        low = omega (arith, q.low, x.more);
        high = omega (arith, q.high, x.more);
        outer = rw (x.same a q.low, x.same b q.high, outer_same k (type_at t a) (type_at t b)) q.outer;
        at = λ m. rw (method-same a m q.low, method-same b m q.high) (q.at m);
      }

  onward-grow : (w : List ℕ) → ((n : ℕ) → n < size t → Permits t n w ↔ Permits u n w) → (o : Option ℕ) → AnswerBelow (size t) o → Onward t w o ↔ Onward u w o
  onward-grow [] ih o l = (λ p. tt, λ p. tt)
  onward-grow (m ∷ w) ih none l = (λ p. p, λ p. p)
  onward-grow (m ∷ w) ih (some a) l = ih a l

  -- an old type permits the same chains
  pub permits-grow : SignaturesIn t → (w : List ℕ) (n : ℕ) → n < size t → Permits t n w ↔ Permits u n w
  unfolding permits
  permits-grow s [] n l = rw (x.same n l) (λ p. p, λ p. p)
  permits-grow s (m ∷ w) n l =
      let g = onward-grow w (permits-grow s w) (method_at t n m).answer (s n m).1 in (
        (λ p. let q = step t n m w p in steps u n m w (record { sort = rw (x.same n l) q.sort; here = rw (method-same n m l) q.here; next = rw (method-same n m l) (g.0 q.next) })),
        λ p. let q = step u n m w p in steps t n m w (record { sort = rw (x.same n l) at q.sort; here = rw (method-same n m l) at q.here; next = g.1 (rw (method-same n m l) at q.next) }),
      )

-- pairs of old types are related in the grown table only if they were
args-both : {R Q : ℕ → ℕ → Type 0} (n : ℕ) → ((a b : ℕ) → a < n → b < n → R a b → Q a b) → (xs ys : List ℕ) → AllBelow n xs → AllBelow n ys → ArgsBy R xs ys
    → ArgsBy Q xs ys
args-both n f [] [] i j h = tt
args-both n f [] (y ∷ ys) i j h = h
args-both n f (x ∷ xs) [] i j h = h
args-both n f (x ∷ xs) (y ∷ ys) i j h = (f y x j.0 i.0 h.0, args-both n f xs ys i.1 j.1 h.1)

ans-both : {R Q : ℕ → ℕ → Type 0} (n : ℕ) → ((a b : ℕ) → a < n → b < n → R a b → Q a b) → (x y : Option ℕ) → AnswerBelow n x → AnswerBelow n y → AnswerBy R x y
    → AnswerBy Q x y
ans-both n f none none i j h = tt
ans-both n f none (some y) i j h = h
ans-both n f (some x) none i j h = h
ans-both n f (some x) (some y) i j h = f x y i j h

module _ (t u : Table) (x : Grown t u) (sigs : SignaturesIn t) where
  abbrev Was : Relation → ℕ → ℕ → Type 0
  Was k a b = (a < size t) × (b < size t) × So (related k u a b)

  pub related-old : (k : Relation) (a b : ℕ) → a < size t → b < size t → So (related k u a b) → So (related k t a b)
  related-old k a b p q h = largest k t (Was k) keeps a b (p, q, h)
    where
      keeps : Keeps k t (Was k)
      keeps a b w = let r = keeps-related k u a b w.2 in
          record {
            low = w.0;
            high = w.1;
            outer = rw (x.same a w.0, x.same b w.1, outer_same t u x k (type_at t a) (type_at t b)) at r.outer;
            at = λ m. let e = rw (method-same t u x a m w.0, method-same t u x b m w.1) at (r.at m) in
                record {
                  state = e.state;
                  signature = λ c d. let s = e.signature c d in
                      record {
                        args = args-both (size t) (λ a b i j h. (i, j, h)) (method_at t a m).args (method_at t b m).args (sigs a m).0 (sigs b m).0 s.args;
                        answer = ans-both (size t) (λ a b i j h. (i, j, h)) (method_at t a m).answer (method_at t b m).answer (sigs a m).1 (sigs b m).1 s.answer;
                      };
                };
          }

  -- R15: a pair that was there keeps its answers as the table grows
  pub related_same : (k : Relation) (a b : ℕ) → a < size t → b < size t → related k u a b ≡ related k t a b
  related_same k a b p q = so-both (related k u a b) (related k t a b) (related-old k a b p q) (related-grow t u x k a b)
