-- Bytes as rows (S20), and readers of rows put together, so that the sheet is written as its list of lines.
use Rattle.std.specs.Prelude.{Bool, true, false, ◌&&◌, cond, List, [], ◌∷◌, ◌++◌, ℕ, zero, suc, ◌+◌, eqb, length, drop}
use Prim.Native.Char.{code}
use Prim.Native.String.{String}
use Rattle.spec_model.specs.Basics.{Res, refuse, ok, need}
use Rattle.spec_model.specs.Refusals.{form}

-- The bytes of an ASCII text.
abbrev pub bytes : String → List ℕ
bytes String.[] = []
bytes (String.◌∷◌ c s) = code c ∷ bytes s

-- A row is a line that LF ends, without its LF; `cut` is the last one where no LF ends it.
pub data Row : Type 0 where
  row cut : List ℕ → Row

-- one byte in front of the first row
abbrev pub push : ℕ → List Row → List Row
push b [] = cut (b ∷ []) ∷ []
push b (row l ∷ rs) = row (b ∷ l) ∷ rs
push b (cut l ∷ rs) = cut (b ∷ l) ∷ rs

-- the rows of a string of bytes
unfoldable pub split : List ℕ → List Row
split [] = []
split (b ∷ bs) = cond (eqb b (code "\n")) (row [] ∷ split bs) (push b (split bs))

-- lines, each with its LF
unfoldable pub join : List (List ℕ) → List ℕ
join [] = []
join (l ∷ ls) = l ++ code "\n" ∷ join ls

-- What reading gives: the number of a refusal and where its line begins (S31); or a value, the offset behind what was read, and the rows that are left.
pub data Reading (A : Type 0) : Type 0 where
  refused : ℕ → ℕ → Reading A
  got : A → ℕ → List Row → Reading A

-- A reader starts at a byte offset, with the rows from there on.
abbrev pub Reader : Type 0 → Type 0
Reader A = ℕ → List Row → Reading A

-- The combinators have their usual names: pure, bind, choice, end of input; `times` is one reader so many times.
-- a value, without reading
abbrev pub pure : {A : Type 0} → A → Reader A
pure x at rs = got x at rs

-- the result of one line: a refusal stands at its offset
abbrev pub line_at : {A : Type 0} → Res A → ℕ → List ℕ → List Row → Reading A
line_at (refuse n) at l rs = refused n at
line_at (ok x) at l rs = got x (at + (length l + 1)) rs

-- The next line, read by f. None left is 1 at the end of the input (S9), and one that no LF ends is 1 where it begins (S8).
abbrev pub line : {A : Type 0} → (List ℕ → Res A) → Reader A
line f at [] = refused form at
line f at (cut l ∷ rs) = refused form at
line f at (row l ∷ rs) = line_at (f l) at l rs

-- The line that stands first, without its LF; empty where no LF ends one. Every line kind of a sheet refuses an empty line with 1, so a missing line and a cut one
-- are refused by the same reading.
abbrev pub first_line : List Row → List ℕ
first_line [] = []
first_line (cut l ∷ rs) = []
first_line (row l ∷ rs) = l

-- go on behind what was read
abbrev pub follow : {A B : Type 0} → Reading A → (A → Reader B) → Reading B
follow (refused n at) k = refused n at
follow (got x at rs) k = k x at rs

-- one reader and then another; the first refusal counts
abbrev pub bind : {A B : Type 0} → Reader A → (A → Reader B) → Reader B
bind p k at rs = follow (p at rs) k

-- n things, numbered from i on, behind those of acc
unfoldable pub times : {A : Type 0} → (ℕ → Reader A) → ℕ → ℕ → List A → Reader (List A)
times p zero i acc at rs = got acc at rs
times p (suc n) i acc at rs = follow (p i at rs) (λ x. times p n (suc i) (acc ++ x ∷ []))

-- anything that is left, ended by LF or not, is 1 where it begins (S10)
abbrev pub end_of_input : Reader (Unit {0})
end_of_input at [] = got tt at []
end_of_input at (r ∷ rs) = refused form at

-- Inside a line: whether it begins with a word, and whether it is that word.
unfoldable pub starts : List ℕ → List ℕ → Bool
starts [] l = true
starts (k ∷ ks) [] = false
starts (k ∷ ks) (b ∷ bs) = eqb k b && starts ks bs

abbrev pub same : List ℕ → List ℕ → Bool
same k l = starts k l && eqb (length l) (length k)

-- what stands behind the key
unfoldable pub keyed : List ℕ → List ℕ → Res (List ℕ)
unfolding starts
keyed key l = need (starts key l) form λ _. ok (drop (length key) l)

-- the value whose text the line is
unfoldable pub choice : {A : Type 0} → (A → List ℕ) → List A → List ℕ → Res A
unfolding starts
choice f [] l = refuse form
choice f (x ∷ xs) l = cond (same (f x) l) (ok x) (choice f xs l)
