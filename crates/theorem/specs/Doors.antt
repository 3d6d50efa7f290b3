-- The theorem of marks against the door counter (V, P27 to P29): what comes of any two lists and any tolerance, through the entry point (crate doors_hold, `hold`):
-- `ShownOfHolding`; through the C function: `ShownOfHoldingBytes`; and what the program `doors` prints for any bytes (crate doors_output, `report`): `ShownOfDoors`, and
-- `OneOutput`: nothing else would do.
-- The code comes in by its contracts alone. `Fit` and `Counted` (crate spec_doors) say what may be handed in and what the counts are. Proof: proofs/Doors.
use Rattle.std.specs.Prelude.{◌≡◌, List, [], ◌∷◌, ◌++◌, ℕ, ◌≤◌, ◌<◌, length}
use Rattle.spec_model.specs.Refusals.{form, unfit_times}
use Rattle.spec_sheet.specs.Lines.{bytes, split, join, refused, got}
use Rattle.spec_sheet.specs.Text.{max_input, number_text}
use Rattle.spec_doors.specs.Held.{Counts, held}
use Rattle.spec_doors.specs.Paired.{Fit, Counted, Paired}
use Rattle.spec_doors.specs.Input.{Input, input_lines, input_text}
use Rattle.spec_doors.specs.Output.{doors_output}
use Rattle.doors_hold.specs.Result.{Held, held_of}
use Rattle.export_doors.specs.Result.{words_of, HeldIs}

abbrev pub ShownOfHolding : Type 0
ShownOfHolding = (marks arrivals : List ℕ) (within : ℕ) (r : Held) → held_of r ≡ held marks arrivals within → Paired marks arrivals within (held_of r)

-- ---- The C function: the number that it returned, and the three words, which were `old`
pub data HeldBytes (marks arrivals : List ℕ) (within : ℕ) (old : List ℕ) : ℕ → List ℕ → Type 0 where
  refuses : (Fit marks arrivals within → ⊥) → HeldBytes marks arrivals within old unfit_times old
  counts : (c : Counts) → Counted marks arrivals within c → HeldBytes marks arrivals within old 0 (words_of c)

abbrev pub ShownOfHoldingBytes : Type 0
ShownOfHoldingBytes = (marks arrivals : List ℕ) (within n : ℕ) (old new : List ℕ) → HeldIs (held marks arrivals within) n old new → HeldBytes marks arrivals within old n new

-- ---- The program: one line for any input
-- too long (P1); not of the form of P27; of that form, and unfit (V3); the text of lists and a tolerance that fit, whose counts are printed
pub data Prints (s : List ℕ) : List ℕ → Type 0 where
  long : max_input < length s → Prints s (bytes "no=2")
  malformed : (at : ℕ) → length s ≤ max_input → input_lines 0 (split s) ≡ refused form at → Prints s (bytes "no=1")
  unfit : (x : Input) (at : ℕ) → length s ≤ max_input → input_lines 0 (split s) ≡ got x at [] → (Fit x.marks x.arrivals x.within → ⊥) → Prints s (bytes "no=22")
  counted : (x : Input) (c : Counts) → length s ≤ max_input → s ≡ input_text x → Counted x.marks x.arrivals x.within c
      → Prints s (number_text (bytes "got=") c.pairs ++ (number_text (bytes " ") c.marks ++ number_text (bytes " ") c.arrivals))

-- the line that is printed, with its LF
pub record Printed (s out : List ℕ) : Type 0 where
  pub text : List ℕ
  pub prints : Prints s text
  pub is : out ≡ join (text ∷ [])

abbrev pub ShownOfDoors : Type 0
ShownOfDoors = (s out : List ℕ) → out ≡ doors_output s → Printed s out

-- and no other bytes are such an output
abbrev pub OneOutput : Type 0
OneOutput = (s out other : List ℕ) → Printed s out → Printed s other → out ≡ other
