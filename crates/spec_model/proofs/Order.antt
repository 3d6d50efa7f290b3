-- Laws of the relations: which imply which, reflexive and transitive ones, and where derived types stand.
use mathlib.Core.Path.{◌≡◌, refl, subst}
use mathlib.Core.Bool.{Bool, true, false, So, beq}
use mathlib.Core.List.{List, [], ◌∷◌}
use mathlib.Core.Option.{Option, none, some}
use Prim.Native.Nat.{ℕ, ◌<◌}
use Rattle.spec_model.specs.Basics.{◌⇒◌, AllBelow}
use Rattle.spec_model.specs.Table.{State, Rep, ref, w32, w64, sub, sup, closed, Method, Ty, Table, no_method, size, type_at, method_at, permit, is_avail, is_ref}
use Rattle.spec_model.specs.Relations.{Relation, subtype, conforms, strict, loose, free, state_le, same_rep, cat_le}
use Rattle.spec_model.specs.Relations.{outer_rule, state_rule, related, ArgsBy, AnswerBy, MethodBy, Rule, Keeps, same_sort}
use Rattle.spec_model.specs.Restriction.{restricted}
use Rattle.spec_model.proofs.Rules.{never, both, first, second, applied}
use Rattle.spec_model.proofs.Largest.{largest, keeps-related}
use Rattle.spec_model.proofs.States.{each, each₂, each₃}
use Rattle.spec_model.proofs.Derived.{AnswerBelow, CategoryOrder, SignaturesIn, Known, itself, of_number, made, ArgsFrom, AnswerFrom, DerivedMethod, past, here, Complete}

pub rep-refl : (r : Rep) → So (same_rep r r)
rep-refl ref = refl
rep-refl w32 = refl
rep-refl w64 = refl

-- a kind that asks less
pub weaken : (k j : Relation) (t : Table) → ((a b : Ty) → So (outer_rule k t a b) → So (outer_rule j t a b)) → ((a b : State) → So (state_rule k a b) → So (state_rule j a b))
    → (a b : ℕ) → So (related k t a b) → So (related j t a b)
weaken k j t hd st = largest j t (λ a b. So (related k t a b)) λ a b h. let q = keeps-related k t a b h in
    record {
      low = q.low;
      high = q.high;
      outer = hd (type_at t a) (type_at t b) q.outer;
      at = λ m. record { state = st (method_at t a m).state (method_at t b m).state (q.at m).state; signature = (q.at m).signature };
    }

pub same-sort : (a b : Rep) → So (same_rep a b) → So (beq (is_ref a) (is_ref b))
same-sort ref ref h = refl
same-sort ref w32 h = never h
same-sort ref w64 h = never h
same-sort w32 ref h = never h
same-sort w32 w32 h = refl
same-sort w32 w64 h = never h
same-sort w64 ref h = never h
same-sort w64 w32 h = never h
same-sort w64 w64 h = refl

module _ (t : Table) where
  pub subtype→conforms : (a b : ℕ) → So (related subtype t a b) → So (related conforms t a b)
  unfolding outer_rule
  subtype→conforms = weaken subtype conforms t (λ a b h. both (first (same_rep a.rep b.rep) _ h) (first (cat_le t a.cat b.cat) _ (second (same_rep a.rep b.rep) _ h))) (λ a b h. h)

  pub strict→loose : (a b : ℕ) → So (related strict t a b) → So (related loose t a b)
  unfolding outer_rule
  strict→loose =
      weaken strict loose t (λ a b h. first (beq (is_ref a.rep) (is_ref b.rep)) _ h) (λ a b. applied (each₂ (λ a b. (is_avail a ⇒ is_avail b) ⇒ (is_avail a ⇒ permit b)) refl a b))

  pub loose→free : (a b : ℕ) → So (related loose t a b) → So (related free t a b)
  unfolding outer_rule
  loose→free = weaken loose free t (λ a b h. h) (λ a b h. refl)

-- the relations compose
args-join : {P Q R : ℕ → ℕ → Type 0} → ((a b c : ℕ) → P b c → Q a b → R a c) → (xs ys zs : List ℕ) → ArgsBy Q ys zs → ArgsBy P xs ys → ArgsBy R xs zs
args-join j [] [] [] h k = tt
args-join j [] [] (z ∷ zs) h k = h
args-join j [] (y ∷ ys) zs h k = absurd k
args-join j (x ∷ xs) [] zs h k = absurd k
args-join j (x ∷ xs) (y ∷ ys) [] h k = h
args-join j (x ∷ xs) (y ∷ ys) (z ∷ zs) h k = (j z y x k.0 h.0, args-join j xs ys zs h.1 k.1)

answer-join : {P Q R : ℕ → ℕ → Type 0} → ((a b c : ℕ) → P a b → Q b c → R a c) → (x y z : Option ℕ) → AnswerBy P x y → AnswerBy Q y z → AnswerBy R x z
answer-join j none none none h k = tt
answer-join j none none (some z) h k = k
answer-join j none (some y) z h k = absurd h
answer-join j (some x) none z h k = absurd h
answer-join j (some x) (some y) none h k = k
answer-join j (some x) (some y) (some z) h k = j x y z h k

pub rep-trans : (a b c : Rep) → So (same_rep a b) → So (same_rep b c) → So (same_rep a c)
rep-trans ref ref c h k = k
rep-trans ref w32 c h k = never h
rep-trans ref w64 c h k = never h
rep-trans w32 ref c h k = never h
rep-trans w32 w32 c h k = k
rep-trans w32 w64 c h k = never h
rep-trans w64 ref c h k = never h
rep-trans w64 w32 c h k = never h
rep-trans w64 w64 c h k = k

implies-trans : (a b c : Bool) → So (a ⇒ b) → So (b ⇒ c) → So (a ⇒ c)
implies-trans true true c h k = k
implies-trans true false c h k = never h
implies-trans false b c h k = refl

-- A relation that compares states by their order is transitive if what it asks outside is.
module _ (k : Relation) (t : Table) (states : (a b : State) → state_rule k a b ≡ state_le a b)
    (outer-trans : (x y z : Ty) → So (outer_rule k t x y) → So (outer_rule k t y z) → So (outer_rule k t x z)) where
  abbrev Via : ℕ → ℕ → Type 0
  Via a c = (b : ℕ) × So (related k t a b) × So (related k t b c)

  via-keeps : Keeps k t Via
  via-keeps a c v =
      let b = v.0 in
      let p = keeps-related k t a b v.1 in
      let q = keeps-related k t b c v.2 in
      record {
        low = p.low;
        high = q.high;
        outer = outer-trans (type_at t a) (type_at t b) (type_at t c) p.outer q.outer;
        at = λ m. let x = (method_at t a m).state in let y = (method_at t b m).state in let z = (method_at t c m).state in
            let f : So (state_le x y) = rw (states x y) at (p.at m).state in let g : So (state_le y z) = rw (states y z) at (q.at m).state in
            record {
              state = rw (states x z) (applied (applied (each₃ (λ x y z. state_le x y ⇒ state_le y z ⇒ state_le x z) refl x y z) f) g);
              signature = λ u w. let v : So (permit y) =
                  applied (applied (applied (applied (each₃ (λ x y z. state_le x y ⇒ state_le y z ⇒ permit x ⇒ permit z ⇒ permit y) refl x y z) f) g) u) w in
                  let g = (p.at m).signature u v in let h = (q.at m).signature v w in
                  record {
                    args = args-join (λ e f g h k. (f, k, h)) (method_at t a m).args (method_at t b m).args (method_at t c m).args h.args g.args;
                    answer = answer-join (λ e f g h k. (f, h, k)) (method_at t a m).answer (method_at t b m).answer (method_at t c m).answer g.answer h.answer;
                  };
            };
      }

  related-trans : (a b c : ℕ) → So (related k t a b) → So (related k t b c) → So (related k t a c)
  related-trans a b c h k' = largest k t Via via-keeps a c (b, h, k')

module _ (t : Table) (cats : CategoryOrder t) where
  conforms-outer : (x y z : Ty) → So (outer_rule conforms t x y) → So (outer_rule conforms t y z) → So (outer_rule conforms t x z)
  unfolding outer_rule
  conforms-outer x y z h k = both (rep-trans x.rep y.rep z.rep (first (same_rep x.rep y.rep) _ h) (first (same_rep y.rep z.rep) _ k))
      (cats.through x.cat y.cat z.cat (second (same_rep x.rep y.rep) _ h) (second (same_rep y.rep z.rep) _ k))

  subtype-outer : (x y z : Ty) → So (outer_rule subtype t x y) → So (outer_rule subtype t y z) → So (outer_rule subtype t x z)
  unfolding outer_rule
  subtype-outer x y z h k =
      let h' = second (same_rep x.rep y.rep) _ h in let k' = second (same_rep y.rep z.rep) _ k in
      both (rep-trans x.rep y.rep z.rep (first (same_rep x.rep y.rep) _ h) (first (same_rep y.rep z.rep) _ k))
      (both (cats.through x.cat y.cat z.cat (first (cat_le t x.cat y.cat) _ h') (first (cat_le t y.cat z.cat) _ k'))
      (implies-trans x.own y.own z.own (second (cat_le t x.cat y.cat) _ h') (second (cat_le t y.cat z.cat) _ k')))

  pub conforms-trans : (a b c : ℕ) → So (related conforms t a b) → So (related conforms t b c) → So (related conforms t a c)
  conforms-trans = related-trans conforms t (λ a b. refl) conforms-outer

  pub subtype-trans : (a b c : ℕ) → So (related subtype t a b) → So (related subtype t b c) → So (related subtype t a c)
  subtype-trans = related-trans subtype t (λ a b. refl) subtype-outer

args-self : (R : ℕ → ℕ → Type 0) (n : ℕ) → ((a : ℕ) → a < n → R a a) → (xs : List ℕ) → AllBelow n xs → ArgsBy R xs xs
args-self R n j [] h = tt
args-self R n j (x ∷ xs) h = (j x h.0, args-self R n j xs h.1)

answer-self : (R : ℕ → ℕ → Type 0) (n : ℕ) → ((a : ℕ) → a < n → R a a) → (x : Option ℕ) → AnswerBelow n x → AnswerBy R x x
answer-self R n j none h = tt
answer-self R n j (some x) h = j x h

-- Every relation is reflexive.
module _ (t : Table) (cats : CategoryOrder t) (sigs : SignaturesIn t) where
  sort-refl : (r : Rep) → So (same_sort r r)
  sort-refl ref = refl
  sort-refl w32 = refl
  sort-refl w64 = refl

  own-refl : (b : Bool) → So (b ⇒ b)
  own-refl true = refl
  own-refl false = refl

  outer-refl : (k : Relation) (x : Ty) → So (outer_rule k t x x)
  unfolding outer_rule
  outer-refl subtype x = both (rep-refl x.rep) (both (cats.self x.cat) (own-refl x.own))
  outer-refl conforms x = both (rep-refl x.rep) (cats.self x.cat)
  outer-refl strict x = both (sort-refl x.rep) (cats.self x.cat)
  outer-refl loose x = sort-refl x.rep
  outer-refl free x = sort-refl x.rep

  state-refl : (k : Relation) (a : State) → So (state_rule k a a)
  state-refl subtype = each (λ a. state_le a a) refl
  state-refl conforms = each (λ a. state_le a a) refl
  state-refl strict = each (λ a. is_avail a ⇒ is_avail a) refl
  state-refl loose = each (λ a. is_avail a ⇒ permit a) refl
  state-refl free = each (λ a. true) refl

  -- a type with itself, over any relation that has those of its signatures
  pub self-rule : (k : Relation) (R : ℕ → ℕ → Type 0) → ((a : ℕ) → a < size t → R a a) → (a : ℕ) → a < size t → Rule k t R a a
  self-rule k R r a l = record {
    low = l;
    high = l;
    outer = outer-refl k (type_at t a);
    at = λ m. record {
      state = state-refl k (method_at t a m).state;
      signature = λ p q.
          record { args = args-self R (size t) r (method_at t a m).args (sigs a m).0; answer = answer-self R (size t) r (method_at t a m).answer (sigs a m).1 };
    };
  }

  abbrev Self : ℕ → ℕ → Type 0
  Self a b = (a ≡ b) × (a < size t)

  pub related-refl : (k : Relation) (a : ℕ) → a < size t → So (related k t a a)
  related-refl k a l = largest k t Self (λ a b h. subst (λ x. Rule k t Self a x) h.0 (self-rule k Self (λ c l. (refl, l)) a h.1)) a a (refl, l)

-- What lies below what: itself, Sub under its left, the right under Sup, Closed under its left
pub data Le (t : Table) (a b : ℕ) : Type 0 where
  equal : a ≡ b → a < size t → Le t a b
  sub_of : (r : ℕ) → So (related loose t a r) → Known t sub a r b → Le t a b
  sup_of : (l : ℕ) → So (related loose t l b) → Known t sup l b a → Le t a b
  closes : (r : ℕ) → So (related strict t a r) → Known t closed a r b → Le t a b

-- a derived signature against the sides it was made of
args-left : {P : ℕ → ℕ → Type 0} {K : ℕ → ℕ → ℕ → Type 0} {R : ℕ → ℕ → Type 0} → ((x y z : ℕ) → P y x → K y x z → R z x)
    → (xs ys zs : List ℕ) → ArgsBy P xs ys → ArgsFrom K xs ys zs → ArgsBy R xs zs
args-left j [] [] [] h k = tt
args-left j [] [] (z ∷ zs) h k = k
args-left j [] (y ∷ ys) zs h k = absurd h
args-left j (x ∷ xs) [] zs h k = absurd h
args-left j (x ∷ xs) (y ∷ ys) [] h k = k
args-left j (x ∷ xs) (y ∷ ys) (z ∷ zs) h k = (j x y z h.0 k.0, args-left j xs ys zs h.1 k.1)

args-right : {P : ℕ → ℕ → Type 0} {K : ℕ → ℕ → ℕ → Type 0} {R : ℕ → ℕ → Type 0} → ((x y z : ℕ) → P y x → K y x z → R y z)
    → (xs ys zs : List ℕ) → ArgsBy P xs ys → ArgsFrom K xs ys zs → ArgsBy R zs ys
args-right j [] [] [] h k = tt
args-right j [] [] (z ∷ zs) h k = k
args-right j [] (y ∷ ys) zs h k = absurd h
args-right j (x ∷ xs) [] zs h k = absurd h
args-right j (x ∷ xs) (y ∷ ys) [] h k = k
args-right j (x ∷ xs) (y ∷ ys) (z ∷ zs) h k = (j x y z h.0 k.0, args-right j xs ys zs h.1 k.1)

answer-left : {P : ℕ → ℕ → Type 0} {K : ℕ → ℕ → ℕ → Type 0} {R : ℕ → ℕ → Type 0} → ((x y z : ℕ) → P x y → K x y z → R x z)
    → (x y z : Option ℕ) → AnswerBy P x y → AnswerFrom K x y z → AnswerBy R x z
answer-left j none none none h k = tt
answer-left j none none (some z) h k = k
answer-left j none (some y) z h k = absurd h
answer-left j (some x) none z h k = absurd h
answer-left j (some x) (some y) none h k = k
answer-left j (some x) (some y) (some z) h k = j x y z h k

answer-right : {P : ℕ → ℕ → Type 0} {K : ℕ → ℕ → ℕ → Type 0} {R : ℕ → ℕ → Type 0} → ((x y z : ℕ) → P x y → K x y z → R z y)
    → (x y z : Option ℕ) → AnswerBy P x y → AnswerFrom K x y z → AnswerBy R z y
answer-right j none none none h k = tt
answer-right j none none (some z) h k = k
answer-right j none (some y) z h k = absurd h
answer-right j (some x) none z h k = absurd h
answer-right j (some x) (some y) none h k = k
answer-right j (some x) (some y) (some z) h k = j x y z h k

denied-pair : (R : ℕ → ℕ → Type 0) {x y : Method} → x ≡ no_method → y ≡ no_method → MethodBy conforms R x y
denied-pair R {x} {y} e f = rw (e, f) (record { state = refl; signature = λ p q. never p })

module _ (t : Table) (cats : CategoryOrder t) (sigs : SignaturesIn t) (complete : Complete t) where
  equal-rule : (a : ℕ) → a < size t → Rule conforms t (Le t) a a
  equal-rule = self-rule t cats sigs conforms (Le t) (λ b. equal refl)

  outer-of : (a b : ℕ) → (type_at t b).rep ≡ (type_at t a).rep → (type_at t b).cat ≡ (type_at t a).cat → So (outer_rule conforms t (type_at t a) (type_at t b))
  unfolding outer_rule
  outer-of a b p q = rw (p, q) (both (rep-refl (type_at t a).rep) (cats.self (type_at t a).cat))

  outer-up : (a b : ℕ) → (type_at t a).rep ≡ (type_at t b).rep → (type_at t a).cat ≡ (type_at t b).cat → So (outer_rule conforms t (type_at t a) (type_at t b))
  unfolding outer_rule
  outer-up a b p q = rw (p, q) (both (rep-refl (type_at t b).rep) (cats.self (type_at t b).cat))

  sub-method : (x y z : Method) → MethodBy loose (λ a b. So (related loose t a b)) x y → DerivedMethod t sub x y z → MethodBy conforms (Le t) x z
  sub-method x y z h (past p q r) = denied-pair (Le t) p r
  sub-method x y z h (here e s z') = record {
    state = rw e (applied (each₂ (λ a b. (is_avail a ⇒ permit b) ⇒ state_le a (restricted sub a b)) refl x.state y.state) h.state);
    signature = λ p q. let g = h.signature p (applied (each₂ (λ a b. permit (restricted sub a b) ⇒ permit b) refl x.state y.state) (rw e at q)) in let k = s q in
        record {
          args = args-left (λ a b c. sup_of b) x.args y.args z.args g.args k.args;
          answer = answer-left (λ a b c. sub_of b) x.answer y.answer z.answer g.answer k.answer;
        };
  }

  sup-method : (x y z : Method) → MethodBy loose (λ a b. So (related loose t a b)) x y → DerivedMethod t sup x y z → MethodBy conforms (Le t) z y
  sup-method x y z h (past p q r) = denied-pair (Le t) r q
  sup-method x y z h (here e s z') = record {
    state = rw e (each₂ (λ a b. state_le (restricted sup a b) b) refl x.state y.state);
    signature = λ p q. let g = h.signature (applied (each₂ (λ a b. permit (restricted sup a b) ⇒ permit a) refl x.state y.state) (rw e at p)) q in let k = s p in
        record {
          args = args-right (λ a b c. sub_of a) x.args y.args z.args g.args k.args;
          answer = answer-right (λ a b c. sup_of a) x.answer y.answer z.answer g.answer k.answer;
        };
  }

  closed-method : (x y z : Method) → MethodBy strict (λ a b. So (related strict t a b)) x y → DerivedMethod t closed x y z → MethodBy conforms (Le t) x z
  closed-method x y z h (past p q r) = denied-pair (Le t) p r
  closed-method x y z h (here e s z') = record {
    state = rw e (applied (each₂ (λ a b. (is_avail a ⇒ is_avail b) ⇒ state_le a (restricted closed a b)) refl x.state y.state) h.state);
    signature = λ p q. let g = h.signature p (applied (each₂ (λ a b. permit (restricted closed a b) ⇒ permit b) refl x.state y.state) (rw e at q)) in let k = s q in
        record {
          args = args-left (λ a b c u. sup_of b (strict→loose t _ _ u)) x.args y.args z.args g.args k.args;
          answer = answer-left (λ a b c u. sub_of b (strict→loose t _ _ u)) x.answer y.answer z.answer g.answer k.answer;
        };
  }

  le-keeps : Keeps conforms t (Le t)
  le-keeps a b (equal e l) = subst (λ x. Rule conforms t (Le t) a x) e (equal-rule a l)
  le-keeps a b (sub_of r h (itself o e f)) = rw f (equal-rule a (keeps-related loose t a r h).low)
  le-keeps a b (sub_of r h (of_number u o e f)) = rw f (equal-rule a (keeps-related loose t a r h).low)
  le-keeps a b (sub_of r h (made l e)) = let q = keeps-related loose t a r h in let c = complete b _ e in
      record { low = q.low; high = l; outer = outer-of a b c.rep c.cat; at = λ m. sub-method _ _ _ (q.at m) (c.at m) }
  le-keeps a b (sup_of r h (itself o e f)) = rw (f, e) (equal-rule b (keeps-related loose t r b h).high)
  le-keeps a b (sup_of r h (of_number u o e f)) = rw f (equal-rule b (keeps-related loose t r b h).high)
  le-keeps a b (sup_of r h (made l e)) = let q = keeps-related loose t r b h in let c = complete a _ e in
      record { low = l; high = q.high; outer = outer-up a b c.rep c.cat; at = λ m. sup-method _ _ _ (q.at m) (c.at m) }
  le-keeps a b (closes r h (itself o e f)) = never o
  le-keeps a b (closes r h (of_number u o e f)) = never o
  le-keeps a b (closes r h (made l e)) = let q = keeps-related strict t a r h in let c = complete b _ e in
      record { low = q.low; high = l; outer = outer-of a b c.rep c.cat; at = λ m. closed-method _ _ _ (q.at m) (c.at m) }

  pub le-conforms : (a b : ℕ) → Le t a b → So (related conforms t a b)
  le-conforms = largest conforms t (Le t) le-keeps

  pub sub-le : (l r i : ℕ) → So (related loose t l r) → Known t sub l r i → So (related conforms t l i)
  sub-le l r i h k = le-conforms l i (sub_of r h k)

  pub sup-le : (l r i : ℕ) → So (related loose t l r) → Known t sup l r i → So (related conforms t i r)
  sup-le l r i h k = le-conforms i r (sup_of l h k)

  pub closed-le : (l r i : ℕ) → So (related strict t l r) → Known t closed l r i → So (related conforms t l i)
  closed-le l r i h k = le-conforms l i (closes r h k)
