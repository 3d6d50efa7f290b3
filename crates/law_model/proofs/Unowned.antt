-- Where no type with own stands in a signature, subtype is `conforms` with the own flags compared on the outside.
use mathlib.Core.Path.{◌≡◌, refl}
use mathlib.Core.Logic.{◌↔◌}
use mathlib.Core.Bool.{false, So}
use mathlib.Core.List.{List, [], ◌∷◌}
use mathlib.Core.Option.{Option, none, some}
use Prim.Native.Nat.{ℕ}
use Rattle.spec_model.specs.Basics.{◌⇒◌}
use Rattle.spec_model.specs.Table.{Table, type_at, method_at}
use Rattle.spec_model.specs.Relations.{subtype, conforms, same_rep, cat_le, outer_rule, related, ArgsBy, AnswerBy, Keeps}
use Rattle.spec_model.proofs.Rules.{both, first, second}
use Rattle.spec_model.proofs.Largest.{largest, keeps-related}
use Rattle.spec_model.proofs.Order.{subtype→conforms}

-- every type in a signature is without own
abbrev pub AllUnowned : Table → List ℕ → Type 0
AllUnowned t [] = Unit
AllUnowned t (x ∷ xs) = ((type_at t x).own ≡ false) × AllUnowned t xs

abbrev pub AnswerUnowned : Table → Option ℕ → Type 0
AnswerUnowned t none = Unit
AnswerUnowned t (some x) = (type_at t x).own ≡ false

abbrev pub UnownedSignatures : Table → Type 0
UnownedSignatures t = (a m : ℕ) → AllUnowned t (method_at t a m).args × AnswerUnowned t (method_at t a m).answer

module _ (t : Table) (plain : UnownedSignatures t) where
  abbrev Half : ℕ → ℕ → Type 0
  Half a b = So (related conforms t a b) × So ((type_at t a).own ⇒ (type_at t b).own)

  half : (a b : ℕ) → (type_at t a).own ≡ false → So (related conforms t a b) → Half a b
  half a b e h = (h, rw e refl)

  args-half : (xs ys : List ℕ) → AllUnowned t ys → ArgsBy (λ a b. So (related conforms t a b)) xs ys → ArgsBy Half xs ys
  args-half [] [] i h = tt
  args-half [] (y ∷ ys) i h = h
  args-half (x ∷ xs) [] i h = h
  args-half (x ∷ xs) (y ∷ ys) i h = (half y x i.0 h.0, args-half xs ys i.1 h.1)

  ans-half : (x y : Option ℕ) → AnswerUnowned t x → AnswerBy (λ a b. So (related conforms t a b)) x y → AnswerBy Half x y
  ans-half none none i h = tt
  ans-half none (some y) i h = h
  ans-half (some x) none i h = h
  ans-half (some x) (some y) i h = half x y i h

  half_keeps : Keeps subtype t Half
  unfolding outer_rule
  half_keeps a b w = let r = keeps-related conforms t a b w.0 in
      record {
        low = r.low;
        high = r.high;
        outer = both (first (same_rep (type_at t a).rep (type_at t b).rep) _ r.outer) (both (second (same_rep (type_at t a).rep (type_at t b).rep) _ r.outer) w.1);
        at = λ m. record {
          state = (r.at m).state;
          signature = λ c d. let s = (r.at m).signature c d in
              record {
                args = args-half (method_at t a m).args (method_at t b m).args (plain b m).0 s.args;
                answer = ans-half (method_at t a m).answer (method_at t b m).answer (plain a m).1 s.answer;
              };
        };
      }

  pub subtype-is : (a b : ℕ) → So (related subtype t a b) ↔ (So (related conforms t a b) × So ((type_at t a).own ⇒ (type_at t b).own))
  unfolding outer_rule
  subtype-is a b = (
    (λ h. (subtype→conforms t a b h, second (cat_le t (type_at t a).cat (type_at t b).cat) _ (second (same_rep (type_at t a).rep (type_at t b).rep) _ (keeps-related subtype t a b h).outer))),
    λ h. largest subtype t Half half_keeps a b h,
  )
