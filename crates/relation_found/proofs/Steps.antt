-- What each function of the search adds to what its callees found: one law for each way in which it returns.
use mathlib.Core.Path.{◌≡◌, refl, sym, subst, ◌∙◌}
use mathlib.Core.Bool.{Bool, true, false, ◌&&◌}
use mathlib.Core.List.{List}
use Prim.Native.Nat.{ℕ, suc, ◌+◌, ◌-◌, ◌≤◌, ◌<◌}
use native.Mathlib.Numerals.{add-one}
use native.Mathlib.Omega.{arith}
use lib.ListN.{length, get_or, take}
use Rattle.spec_model.specs.Table.{permit}
use Rattle.spec_model.specs.Relations.{Relation, state_rule, args_rule, answer_rule, method_rule}
use Rattle.spec_model.specs.Check.{RawMethod, state_of, answer_of, method_of}
use Rattle.spec_model.proofs.Rules.{first}
use Rattle.spec_model.specs.Records.{argument_slots}
use Rattle.std.specs.Prelude.{Option, Some}
use Rattle.relation_found.specs.Found.{found, Listed, Grew, Broke, Met}
use Rattle.relation_found.proofs.Pairs.{stay, broke-as, grew-as, met-as, grew_then, met-then}
use Rattle.relation_found.proofs.Signatures.{args-differ, args-need, args-next, answer-none, answer-left, answer-right, answer-both, method-state, method-off, method-on, args-up}

-- the same test by another name
met-same : (n : ℕ) (W U : (ℕ → ℕ → Bool) → Bool) → ((M : ℕ → ℕ → Bool) → U M ≡ W M)
    → (s : List Bool) (l : List ℕ) (t : ℕ) (s' : List Bool) (l' : List ℕ) (r : Option ℕ)
    → Met n W s l t s' l' r → Met n U s l t s' l' r
met-same n W U e s l t s' l' r m = met-as n W U s l t s' l' r (λ M h. e M ∙ h) (λ M h. sym (e M) ∙ h) m

-- The answers, whose codes x and y were read as a and b.
module _ (n x y a b : ℕ) (p : a ≡ x) (q : b ≡ y) where
  abbrev Answer : (ℕ → ℕ → Bool) → Bool
  Answer M = answer_rule M (answer_of x) (answer_of y)

  pub answers-left : a ≡ 0 → (b ≡ 0 → ⊥) → Broke n Answer
  answers-left u v = record { none = λ M i w. answer-left M x y (sym p ∙ u) (λ e. v (q ∙ e)) w }

  pub answers-right : (a ≡ 0 → ⊥) → b ≡ 0 → Broke n Answer
  answers-right u v = record { none = λ M i w. answer-right M x y (λ e. u (p ∙ e)) (sym q ∙ v) w }

  module _ (s : List Bool) (l : List ℕ) (t : ℕ) where
    pub answers-none : Listed n s l t → a ≡ 0 → b ≡ 0 → Grew n Answer s l t s l t
    answers-none h u v = stay n Answer s l t h (answer-none (found n s) x y (sym p ∙ u) (sym q ∙ v))

    pub answers-both : (s' : List Bool) (l' : List ℕ) (r : Option ℕ) → (a ≡ 0 → ⊥) → (b ≡ 0 → ⊥) → Met n (λ M. M (a - 1) (b - 1)) s l t s' l' r
        → Met n Answer s l t s' l' r
    answers-both s' l' r u v m = met-same n (λ M. M (a - 1) (b - 1)) Answer (λ M. answer-both M x y (λ e. u (p ∙ e)) (λ e. v (q ∙ e)) ∙ rw (p, q)) s l t s' l' r m

-- The arguments: xs and ys are the slots, i and j the counts, u how many slots the first uses.
module _ (n : ℕ) (xs ys : List ℕ) (lx : length xs ≡ argument_slots) (ly : length ys ≡ argument_slots) (i j u : ℕ) (pu : u ≤ argument_slots) (eu : take i xs ≡ take u xs) where
  abbrev Args : (ℕ → ℕ → Bool) → Bool
  Args M = args_rule M (take i xs) (take j ys)

  abbrev First : ℕ → (ℕ → ℕ → Bool) → Bool
  First m M = args_rule M (take m xs) (take m ys)

  pub arguments-differ : (v : ℕ) → v ≤ argument_slots → take j ys ≡ take v ys → (u ≡ v → ⊥) → Broke n Args
  arguments-differ v pv ev h = record { none = λ M k w. args-differ xs ys M u v (omega arith) (omega arith) h (rw (eu, ev) at w) }

  -- the second uses as many
  module _ (ev : take j ys ≡ take u ys) where
    args-used : (M : ℕ → ℕ → Bool) → Args M ≡ First u M
    args-used M = rw (eu, ev)

    -- slot m, read as x and y
    pub arguments-broke : (m : ℕ) → m < u → (x y : ℕ) → x ≡ get_or xs m 0 → y ≡ get_or ys m 0 → Broke n (λ M. M y x) → Broke n Args
    arguments-broke m h x y ex ey k = broke-as n (λ M. M y x) Args (λ M w. rw (ex, ey) (args-need xs ys M u m (omega arith) h (sym (args-used M) ∙ w))) k

    module _ (s : List Bool) (l : List ℕ) (t m : ℕ) (s₁ : List Bool) (l₁ : List ℕ) (t₁ : ℕ) (g : Grew n (First m) s l t s₁ l₁ t₁) where
      pub arguments-end : u ≤ m → m ≤ u → Grew n Args s l t s₁ l₁ t₁
      arguments-end p q =
          let d : m ≡ u = omega arith in
          met-same n (First u) Args args-used s l t s₁ l₁ (Some t₁) (subst (λ (k : ℕ). Grew n (First k) s l t s₁ l₁ t₁) d g)

      pub arguments-more : m < u → (x y : ℕ) → x ≡ get_or xs m 0 → y ≡ get_or ys m 0 → (s₂ : List Bool) (l₂ : List ℕ) (t₂ : ℕ)
          → Grew n (λ M. M y x) s₁ l₁ t₁ s₂ l₂ t₂
          → Grew n (First (m + 1)) s l t s₂ l₂ t₂
      arguments-more h x y ex ey s₂ l₂ t₂ k =
          let d : (M : ℕ → ℕ → Bool) → First (suc m) M ≡ (First m M && M y x) = λ M. args-next M xs ys m (omega arith) (omega arith) ∙ rw (ex, ey) in
          rw (add-one m) (grew-as n (λ M. First m M && M y x) (First (suc m)) s l t s₂ l₂ t₂ (λ M w. d M ∙ w) (λ M w. sym (d M) ∙ w)
          (grew_then n (First m) (λ M. M y x) s l t s₁ l₁ t₁ s₂ l₂ t₂ (args-up (take m xs) (take m ys)) g k))

pub arguments-start : (n : ℕ) (xs ys : List ℕ) (s : List Bool) (l : List ℕ) (t : ℕ) → Listed n s l t → Grew n (λ M. args_rule M (take 0 xs) (take 0 ys)) s l t s l t
arguments-start n xs ys s l t h = stay n (λ M. args_rule M (take 0 xs) (take 0 ys)) s l t h refl

-- One method of the two types: f is what the state rule says, g whether both permit it.
module _ (n : ℕ) (k : Relation) (x y : RawMethod) (f : Bool) (fe : f ≡ state_rule k (state_of x.state) (state_of y.state)) where
  abbrev Q : (ℕ → ℕ → Bool) → Bool
  Q M = method_rule k M (method_of x) (method_of y)

  abbrev Q₁ : (ℕ → ℕ → Bool) → Bool
  Q₁ M = args_rule M (take x.count x.args) (take y.count y.args)

  abbrev Q₂ : (ℕ → ℕ → Bool) → Bool
  Q₂ M = answer_rule M (answer_of x.answer) (answer_of y.answer)

  pub method-broke : f ≡ false → Broke n Q
  method-broke h = record { none = λ M i w. method-state k x y M (sym fe ∙ h) w }

  module _ (h : f ≡ true) (g : Bool) (ge : g ≡ (permit (state_of x.state) && permit (state_of y.state))) where
    pub method-bare : (s : List Bool) (l : List ℕ) (t : ℕ) → Listed n s l t → g ≡ false → Grew n Q s l t s l t
    method-bare s l t d o = stay n Q s l t d (method-off k x y (sym fe ∙ h) (found n s) (sym ge ∙ o))

    module _ (o : g ≡ true) where
      on-is : (M : ℕ → ℕ → Bool) → Q M ≡ (Q₁ M && Q₂ M)
      on-is M = method-on k x y (sym fe ∙ h) M (sym ge ∙ o)

      pub method-args : Broke n Q₁ → Broke n Q
      method-args b = broke-as n Q₁ Q (λ M w. first (Q₁ M) _ (sym (on-is M) ∙ w)) b

      -- the answers' codes were read as a and b
      pub method-answer : (s : List Bool) (l : List ℕ) (t : ℕ) (s₁ : List Bool) (l₁ : List ℕ) (t₁ : ℕ) → Grew n Q₁ s l t s₁ l₁ t₁
          → (s₂ : List Bool) (l₂ : List ℕ) (r : Option ℕ) (a b : ℕ) → a ≡ x.answer → b ≡ y.answer
          → Met n (λ M. answer_rule M (answer_of a) (answer_of b)) s₁ l₁ t₁ s₂ l₂ r → Met n Q s l t s₂ l₂ r
      method-answer s l t s₁ l₁ t₁ m s₂ l₂ r a b p q m' =
          met-same n (λ M. Q₁ M && Q₂ M) Q on-is s l t s₂ l₂ r
          (met-then n Q₁ Q₂ s l t s₁ l₁ t₁ s₂ l₂ r (args-up (take x.count x.args) (take y.count y.args)) m (rw (p, q) at m'))
