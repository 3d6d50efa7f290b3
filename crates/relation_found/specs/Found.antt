-- A relation is the largest that keeps its rules (R3): a pair is in it unless a pair that breaks its rule can be reached from it. So a search finds pairs, each once,
-- and asks the rule of each, which finds more. Here is what is found so far, and what a step of the search promises.
use Rattle.std.specs.Prelude.{Option, Some, None, ◌≡◌, Bool, true, false, ◌&&◌, List, map, ℕ, ◌+◌, ◌*◌, ◌/◌, ◌%◌, ◌≤◌, ◌<◌, leb, ltb, length, get_or, set}
use Rattle.std.proofs.Math.Bool.{So}
use Rattle.spec_model.specs.Relations.{yeses}
use Rattle.spec_model.specs.Table.{max_types}

-- how many pairs of types there can be
abbrev pub max_pairs : ℕ
max_pairs = max_types * max_types

-- The pair (x, y) has the number x * max_types + y. `marks` says of each number whether its pair is found: a relation of the n types, as the model has them.
abbrev pub found : ℕ → List Bool → ℕ → ℕ → Bool
found n marks x y = ltb x n && (ltb y n && get_or marks (x * max_types + y) false)

unfoldable pub Within : (ℕ → ℕ → Bool) → (ℕ → ℕ → Bool) → Type 0
Within M N = (x y : ℕ) → So (M x y) → So (N x y)

-- p is one of the first t numbers in the queue
pub record Queued (queue : List ℕ) (t p : ℕ) : Type 0 where
  pub place : ℕ
  pub below : place < t
  pub there : get_or queue place 0 ≡ p

-- p is the number of a pair that is found
pub record Pair (n : ℕ) (marks : List Bool) (p : ℕ) : Type 0 where
  pub low : p / max_types < n
  pub high : p % max_types < n
  pub known : So (get_or marks p false)

-- t pairs are found, at least one, all of them of the n types, and the first t numbers in the queue are theirs
pub record Listed (n : ℕ) (marks : List Bool) (queue : List ℕ) (t : ℕ) : Type 0 where
  pub small : n ≤ max_types
  pub slots : n * max_types ≤ length marks
  pub few : length marks ≤ max_pairs
  pub room : length queue ≡ length marks
  pub first : 0 < t
  pub tally : yeses marks ≡ t
  pub inside : (p : ℕ) → So (get_or marks p false) → (p / max_types < n) × (p % max_types < n)
  pub back : (i : ℕ) → i < t → Pair n marks (get_or queue i 0)
  pub forth : (x y : ℕ) → So (found n marks x y) → Queued queue t (x * max_types + y)

-- A step looks at a piece W of a pair's rule: a test over the relation that says which pairs of types in signatures are related.
-- It may have found more pairs. Then what is found now passes W, and is within every relation that passes W and has what was found before.
pub record Grew (n : ℕ) (W : (ℕ → ℕ → Bool) → Bool) (marks : List Bool) (queue : List ℕ) (t : ℕ) (marks' : List Bool) (queue' : List ℕ) (r : ℕ) : Type 0 where
  pub listed : Listed n marks' queue' r
  pub more : Within (found n marks) (found n marks')
  pub kept : (i : ℕ) → i < t → get_or queue' i 0 ≡ get_or queue i 0
  pub longer : t ≤ r
  pub has : So (W (found n marks'))
  pub only : (M : ℕ → ℕ → Bool) → So (W M) → Within (found n marks) M → Within (found n marks') M

-- Or a pair breaks its rule: no relation of the n types passes W.
pub record Broke (n : ℕ) (W : (ℕ → ℕ → Bool) → Bool) : Type 0 where
  pub none : (M : ℕ → ℕ → Bool) → Within M (λ x y. ltb x n && ltb y n) → So (W M) → ⊥

-- what a step promises
abbrev pub Met : ℕ → ((ℕ → ℕ → Bool) → Bool) → List Bool → List ℕ → ℕ → List Bool → List ℕ → Option ℕ → Type 0
Met n W marks queue t marks' queue' None = Broke n W
Met n W marks queue t marks' queue' (Some r) = Grew n W marks queue t marks' queue' r

-- The search has `marks` and the queue in one array of 16-bit entries, since a pair's number is below `max_pairs`: entry i has the i-th number of the queue in its low
-- 15 bits, and its top bit says whether the pair of number i is found.
unfoldable pub marks_in : List ℕ → List Bool
marks_in b = map (λ v. leb 32768 v) b

unfoldable pub queue_in : List ℕ → List ℕ
queue_in b = map (λ v. v % 32768) b

-- b' is b with the pair of number p found, and in place t of the queue
abbrev pub Added : List ℕ → ℕ → ℕ → List ℕ → Type 0
Added b t p b' = (marks_in b' ≡ set (marks_in b) p true) × (queue_in b' ≡ set (queue_in b) t p)

-- what is found in b, and what a step from b to b' promises
abbrev pub ListedIn : ℕ → List ℕ → ℕ → Type 0
ListedIn n b t = Listed n (marks_in b) (queue_in b) t

abbrev pub MetIn : ℕ → ((ℕ → ℕ → Bool) → Bool) → List ℕ → ℕ → List ℕ → Option ℕ → Type 0
MetIn n W b t b' r = Met n W (marks_in b) (queue_in b) t (marks_in b') (queue_in b') r
