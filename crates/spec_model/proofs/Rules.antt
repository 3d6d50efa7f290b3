-- The rule of a pair as a test says what it says as a type (Relations).
use mathlib.Core.Path.{◌≡◌, refl, sym}
use mathlib.Core.Bool.{Bool, true, false, ◌&&◌, So, false≢true}
use mathlib.Core.List.{List, [], ◌∷◌}
use mathlib.Core.Option.{Option, none, some}
use Prim.Native.Nat.{ℕ, zero, suc, ◌<◌}
use lib.ListN.{get_or}
use Rattle.spec_model.specs.Basics.{◌⇒◌}
use Rattle.spec_model.specs.Table.{Method, Table, no_method, size, type_at, method_at, permit}
use Rattle.spec_model.specs.Relations.{Relation, subtype, conforms, strict, loose, free, outer_rule, state_rule, args_rule, answer_rule, method_rule, every_method, rule, ArgsBy, AnswerBy}
use Rattle.spec_model.specs.Relations.{SignatureBy, MethodBy, Rule}

pub never : {A : Type 0} → So false → A
never h = absurd (false≢true h)

pub both : {a b : Bool} → So a → So b → So (a && b)
both {a} {b} p q = rw (p, q)

pub first : (a b : Bool) → So (a && b) → So a
first true b p = refl
first false b p = p

pub second : (a b : Bool) → So (a && b) → So b
second true b p = p
second false b p = never p

pub so-both : (a b : Bool) → (So a → So b) → (So b → So a) → a ≡ b
so-both true true f g = refl
so-both true false f g = sym (f refl)
so-both false true f g = g refl
so-both false false f g = refl

pub imply : (a b : Bool) → (So a → So b) → So (a ⇒ b)
imply true b f = f refl
imply false b f = refl

pub applied : {a b : Bool} → So (a ⇒ b) → So a → So b
applied {a = true} h p = h
applied {a = false} h p = never p

-- the rules are monotone in the relation
module _ {R Q : ℕ → ℕ → Type 0} (i : (a b : ℕ) → R a b → Q a b) where
  pub args-mono : (xs ys : List ℕ) → ArgsBy R xs ys → ArgsBy Q xs ys
  args-mono [] [] h = tt
  args-mono [] (y ∷ ys) h = h
  args-mono (x ∷ xs) [] h = h
  args-mono (x ∷ xs) (y ∷ ys) h = (i y x h.0, args-mono xs ys h.1)

  pub answer-mono : (x y : Option ℕ) → AnswerBy R x y → AnswerBy Q x y
  answer-mono none none h = tt
  answer-mono none (some y) h = h
  answer-mono (some x) none h = h
  answer-mono (some x) (some y) h = i x y h

  pub signature-mono : (x y : Method) → SignatureBy R x y → SignatureBy Q x y
  signature-mono x y h = record { args = args-mono x.args y.args h.args; answer = answer-mono x.answer y.answer h.answer }

-- the tests over a table of yes and no
module _ (M : ℕ → ℕ → Bool) where
  abbrev pub Yes : ℕ → ℕ → Type 0
  Yes a b = So (M a b)

  pub args-test : (xs ys : List ℕ) → ArgsBy Yes xs ys → So (args_rule M xs ys)
  args-test [] [] h = refl
  args-test [] (y ∷ ys) h = absurd h
  args-test (x ∷ xs) [] h = absurd h
  args-test (x ∷ xs) (y ∷ ys) h = both h.0 (args-test xs ys h.1)

  pub args-says : (xs ys : List ℕ) → So (args_rule M xs ys) → ArgsBy Yes xs ys
  args-says [] [] h = tt
  args-says [] (y ∷ ys) h = never h
  args-says (x ∷ xs) [] h = never h
  args-says (x ∷ xs) (y ∷ ys) h = (first (M y x) _ h, args-says xs ys (second (M y x) _ h))

  pub answer-test : (x y : Option ℕ) → AnswerBy Yes x y → So (answer_rule M x y)
  answer-test none none h = refl
  answer-test none (some y) h = absurd h
  answer-test (some x) none h = absurd h
  answer-test (some x) (some y) h = h

  pub answer-says : (x y : Option ℕ) → So (answer_rule M x y) → AnswerBy Yes x y
  answer-says none none h = tt
  answer-says none (some y) h = never h
  answer-says (some x) none h = never h
  answer-says (some x) (some y) h = h

  module _ (k : Relation) where
    pub method-test : (x y : Method) → MethodBy k Yes x y → So (method_rule k M x y)
    unfolding method_rule
    method-test x y h = both h.state (imply (permit x.state && permit y.state) _ λ p.
        let s = h.signature (first (permit x.state) _ p) (second (permit x.state) _ p) in both (args-test x.args y.args s.args) (answer-test x.answer y.answer s.answer))

    pub method-says : (x y : Method) → So (method_rule k M x y) → MethodBy k Yes x y
    unfolding method_rule
    method-says x y h = record {
      state = first (state_rule k x.state y.state) _ h;
      signature = λ p q.
          let e = applied (second (state_rule k x.state y.state) _ h) (both p q) in
          record { args = args-says x.args y.args (first (args_rule M x.args y.args) _ e); answer = answer-says x.answer y.answer (second (args_rule M x.args y.args) _ e) };
    }

module _ (f : Method → Method → Bool) where
  pub all-test : (xs ys : List Method) → ((m : ℕ) → So (f (get_or xs m no_method) (get_or ys m no_method))) → So (every_method f xs ys)
  unfolding every_method
  all-test [] [] h = refl
  all-test [] (y ∷ ys) h = both (h 0) (all-test [] ys (λ m. h (suc m)))
  all-test (x ∷ xs) [] h = both (h 0) (all-test xs [] (λ m. h (suc m)))
  all-test (x ∷ xs) (y ∷ ys) h = both (h 0) (all-test xs ys (λ m. h (suc m)))

  pub all-says : So (f no_method no_method) → (xs ys : List Method) → So (every_method f xs ys) → (m : ℕ) → So (f (get_or xs m no_method) (get_or ys m no_method))
  unfolding every_method
  all-says z [] [] h m = z
  all-says z [] (y ∷ ys) h zero = first (f no_method y) _ h
  all-says z [] (y ∷ ys) h (suc m) = all-says z [] ys (second (f no_method y) _ h) m
  all-says z (x ∷ xs) [] h zero = first (f x no_method) _ h
  all-says z (x ∷ xs) [] h (suc m) = all-says z xs [] (second (f x no_method) _ h) m
  all-says z (x ∷ xs) (y ∷ ys) h zero = first (f x y) _ h
  all-says z (x ∷ xs) (y ∷ ys) h (suc m) = all-says z xs ys (second (f x y) _ h) m

pub denied-fits : (k : Relation) (M : ℕ → ℕ → Bool) → So (method_rule k M no_method no_method)
unfolding method_rule
denied-fits subtype M = refl
denied-fits conforms M = refl
denied-fits strict M = refl
denied-fits loose M = refl
denied-fits free M = refl

pub rule-test : (k : Relation) (t : Table) (R : ℕ → ℕ → Type 0) (M : ℕ → ℕ → Bool) → ((a b : ℕ) → R a b → So (M a b)) → (a b : ℕ) → Rule k t R a b → So (rule k t M a b)
unfolding rule
rule-test k t R M i a b h = both h.outer (all-test (method_rule k M) (type_at t a).methods (type_at t b).methods λ m. method-test M k (method_at t a m) (method_at t b m)
    (record { state = (h.at m).state; signature = λ p q. signature-mono i (method_at t a m) (method_at t b m) ((h.at m).signature p q) }))

pub rule-says : (k : Relation) (t : Table) (M : ℕ → ℕ → Bool) (a b : ℕ) → a < size t → b < size t → So (rule k t M a b) → Rule k t (λ x y. So (M x y)) a b
unfolding rule
rule-says k t M a b l u h = record {
  low = l;
  high = u;
  outer = first (outer_rule k t (type_at t a) (type_at t b)) _ h;
  at = λ m. method-says M k (method_at t a m) (method_at t b m)
      (all-says (method_rule k M) (denied-fits k M) (type_at t a).methods (type_at t b).methods (second (outer_rule k t (type_at t a) (type_at t b)) _ h) m);
}
