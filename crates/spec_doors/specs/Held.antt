-- Marks held against arrivals: the three counts, or 22 (V3, V6), computed in one pass (V8). What the counts are is said without it in Paired, and proved in
-- proofs/Held.
use Rattle.std.specs.Prelude.{cond, List, [], ◌∷◌, ℕ, suc, ◌+◌, ◌-◌, ltb, length}
use Rattle.spec_model.specs.Basics.{Res, need, ok}
use Rattle.spec_model.specs.Refusals.{unfit_times}
use Rattle.spec_doors.specs.Times.{all_fit, rising}

-- pairs, unpaired marks, unpaired arrivals
pub record Counts : Type 0 where
  pub pairs : ℕ
  pub marks : ℕ
  pub arrivals : ℕ

-- How many pairs come of a mark m and of those behind it, whose pairs with any arrivals are `rest`: m stays unpaired where it is too early for the first
-- arrival, that arrival where it is too early for m; else they are a pair.
abbrev pub pairs_from : ℕ → ℕ → (List ℕ → ℕ) → List ℕ → ℕ
pairs_from within m rest [] = 0
pairs_from within m rest (a ∷ arrivals) = cond (ltb (m + within) a) (rest (a ∷ arrivals))
    (cond (ltb (a + within) m) (pairs_from within m rest arrivals) (suc (rest arrivals)))

unfoldable pub pairs_of : ℕ → List ℕ → List ℕ → ℕ
pairs_of within [] arrivals = 0
pairs_of within (m ∷ marks) arrivals = pairs_from within m (pairs_of within marks) arrivals

abbrev pub counts : List ℕ → List ℕ → ℕ → Counts
counts marks arrivals n = record { pairs = n; marks = length marks - n; arrivals = length arrivals - n }

unfoldable pub held : List ℕ → List ℕ → ℕ → Res Counts
unfolding rising pairs_of
held marks arrivals within = need (all_fit marks arrivals within) unfit_times λ _. ok (counts marks arrivals (pairs_of within marks arrivals))
