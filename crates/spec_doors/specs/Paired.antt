-- What the result has to be, in the words of V1 to V6 and with no pass over the lists: `Paired`. Proof: proofs/Held, which also shows that no other result
-- keeps it.
use Rattle.std.specs.Prelude.{◌≡◌, List, [], ◌∷◌, ℕ, ◌+◌, ◌≤◌, ◌<◌, length, get_or}
use Rattle.spec_model.specs.Basics.{Res, refuse, ok}
use Rattle.spec_model.specs.Refusals.{unfit_times}
use Rattle.spec_doors.specs.Times.{max_times, last_time, max_tolerance}
use Rattle.spec_doors.specs.Held.{Counts}

-- entry k of a list
abbrev pub time : List ℕ → ℕ → ℕ
time xs k = get_or xs k 0

-- ---- What may be handed in (V1, V2)
pub record Times (xs : List ℕ) : Type 0 where
  pub few : length xs ≤ max_times
  pub last : (k : ℕ) → k < length xs → time xs k ≤ last_time
  pub rising : (k : ℕ) → k + 1 < length xs → time xs k ≤ time xs (k + 1)

pub record Fit (marks arrivals : List ℕ) (within : ℕ) : Type 0 where
  pub mark-times : Times marks
  pub arrival-times : Times arrivals
  pub tolerance : within ≤ max_tolerance

-- ---- Pairings (V4, V5)
-- a mark and an arrival, by their indices
pub record Pair : Type 0 where
  pub mark : ℕ
  pub arrival : ℕ

-- both are there, and neither is later than the other by more than the tolerance
pub record Near (marks arrivals : List ℕ) (within : ℕ) (p : Pair) : Type 0 where
  pub mark : p.mark < length marks
  pub arrival : p.arrival < length arrivals
  pub early : time marks p.mark ≤ time arrivals p.arrival + within
  pub late : time arrivals p.arrival ≤ time marks p.mark + within

-- two pairs share no mark and no arrival
abbrev pub Apart : Pair → Pair → Type 0
Apart p q = (p.mark ≡ q.mark → ⊥) × (p.arrival ≡ q.arrival → ⊥)

-- what holds of each pair of a list
pub data Each (P : Pair → Type 0) : List Pair → Type 0 where
  nil : Each P []
  and : {p : Pair} {ps : List Pair} → P p → Each P ps → Each P (p ∷ ps)

-- a list of near pairs, each apart from all that stand behind it
pub data Pairing (marks arrivals : List ℕ) (within : ℕ) : List Pair → Type 0 where
  empty : Pairing marks arrivals within []
  also : {p : Pair} {ps : List Pair} → Near marks arrivals within p → Each (Apart p) ps → Pairing marks arrivals within ps → Pairing marks arrivals within (p ∷ ps)

-- ---- The result (V3, V6)
-- some pairing has n pairs, and every pairing has at most n
pub record Most (marks arrivals : List ℕ) (within n : ℕ) : Type 0 where
  pub pairs : List Pair
  pub pairing : Pairing marks arrivals within pairs
  pub size : length pairs ≡ n
  pub largest : (ps : List Pair) → Pairing marks arrivals within ps → length ps ≤ n

pub record Counted (marks arrivals : List ℕ) (within : ℕ) (c : Counts) : Type 0 where
  pub fit : Fit marks arrivals within
  pub most : Most marks arrivals within c.pairs
  pub all-marks : c.pairs + c.marks ≡ length marks
  pub all-arrivals : c.pairs + c.arrivals ≡ length arrivals

pub data Paired (marks arrivals : List ℕ) (within : ℕ) : Res Counts → Type 0 where
  unfit : (Fit marks arrivals within → ⊥) → Paired marks arrivals within (refuse unfit_times)
  counted : {c : Counts} → Counted marks arrivals within c → Paired marks arrivals within (ok c)
