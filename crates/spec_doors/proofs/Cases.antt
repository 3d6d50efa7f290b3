-- Computed cases: what each slip of the definitions would change.
use mathlib.Core.Path.{◌≡◌, refl}
use mathlib.Core.List.{List, [], ◌∷◌}
use Prim.Native.Nat.{ℕ, zero, suc}
use Prim.Native.String.{String}
use Rattle.spec_model.specs.Basics.{Res, refuse, ok}
use Rattle.spec_sheet.specs.Lines.{bytes, join}
use Rattle.spec_doors.specs.Held.{Counts, held}
use Rattle.spec_doors.specs.Output.{doors_output}

abbrev got : ℕ → ℕ → ℕ → Res Counts
got n m a = ok (record { pairs = n; marks = m; arrivals = a })

-- n times x
abbrev same : ℕ → ℕ → List ℕ
same zero x = []
same (suc n) x = x ∷ same n x

-- ---- Lists (V3, V4, V6)
record Case : Type 0 where
  marks : List ℕ
  arrivals : List ℕ
  within : ℕ

abbrev against : List ℕ → List ℕ → ℕ → Case
against ms xs w = record { marks = ms; arrivals = xs; within = w }

abbrev results : List Case → List (Res Counts)
results [] = []
results (c ∷ cs) = held c.marks c.arrivals c.within ∷ results cs

pub proved-lists : results
    -- nothing; one side alone
    (against [] [] 0 ∷ against (5 ∷ []) [] 60000 ∷ against [] (5 ∷ 5 ∷ []) 0
    -- the tolerance itself is near, on either side; one more is not
    ∷ against (10 ∷ []) (13 ∷ []) 3 ∷ against (13 ∷ []) (10 ∷ []) 3 ∷ against (10 ∷ []) (13 ∷ []) 2 ∷ against (13 ∷ []) (10 ∷ []) 2
    -- no entry is used twice
    ∷ against (7 ∷ []) (7 ∷ 7 ∷ []) 0 ∷ against (7 ∷ 7 ∷ []) (7 ∷ []) 0
    -- Each mark takes the first arrival that is near: the nearest, 12 for mark 10, would leave mark 16 unpaired.
    ∷ against (10 ∷ 16 ∷ []) (6 ∷ 12 ∷ []) 4
    -- the worked example of docs/GUIDE.md
    ∷ against (0 ∷ 500 ∷ 500 ∷ 2000 ∷ 9000 ∷ []) (400 ∷ 1500 ∷ 2500 ∷ 2500 ∷ 20000 ∷ []) 1000
    -- both ends of the range, and of the tolerance
    ∷ against (0 ∷ 4294967295 ∷ []) (0 ∷ 4294967295 ∷ []) 60000
    ∷ against (4294967296 ∷ []) [] 0 ∷ against [] (4294967296 ∷ []) 0 ∷ against [] [] 60001
    -- a time that falls
    ∷ against (2 ∷ 1 ∷ []) [] 0 ∷ against [] (5 ∷ 5 ∷ 4 ∷ []) 9 ∷ [])
    ≡ got 0 0 0 ∷ got 0 1 0 ∷ got 0 0 2
    ∷ got 1 0 0 ∷ got 1 0 0 ∷ got 0 1 1 ∷ got 0 1 1
    ∷ got 1 0 1 ∷ got 1 1 0
    ∷ got 2 0 0
    ∷ got 3 2 2
    ∷ got 2 0 0
    ∷ refuse 22 ∷ refuse 22 ∷ refuse 22
    ∷ refuse 22 ∷ refuse 22 ∷ []
unfolding held
proved-lists = refl

-- 1,024 entries, and one more
pub many-marks : held (same 1024 9) (9 ∷ []) 0 ≡ got 1 1023 0
unfolding held
many-marks = refl

pub many-arrivals : held (9 ∷ []) (same 1024 9) 0 ≡ got 1 0 1023
unfolding held
many-arrivals = refl

pub too-many-marks : held (same 1025 9) [] 0 ≡ refuse 22
unfolding held
too-many-marks = refl

pub too-many-arrivals : held [] (same 1025 9) 0 ≡ refuse 22
unfolding held
too-many-arrivals = refl

-- ---- Inputs of the program (P27 to P29)
abbrev printed : List String → List (List ℕ)
printed [] = []
printed (s ∷ ss) = doors_output (bytes s) ∷ printed ss

abbrev lines : List String → List (List ℕ)
lines [] = []
lines (s ∷ ss) = join (bytes s ∷ []) ∷ lines ss

pub proved-inputs : printed
    ("within=1000\n0 500 500 2000 9000\n400 1500 2500 2500 20000\n" ∷ "within=0\n\n\n" ∷ "within=60000\n7\n\n" ∷ "within=60001\n\n\n" ∷ "within=0\n2 1\n\n"
    -- decimals of any length have the right form
    ∷ "within=99999999999999999999999\n\n\n" ∷ "within=0\n99999999999999999999999\n\n"
    -- Form comes first, wherever: a leading zero, a sign, no number, spaces in front, behind and two between, a comma, another key.
    ∷ "within=0\n2 1\n00\n" ∷ "within=-1\n\n\n" ∷ "within=\n\n\n" ∷ "within=0\n 1\n\n" ∷ "within=0\n1 \n\n" ∷ "within=0\n1  2\n\n" ∷ "within=0\n1,2\n\n" ∷ "with=0\n\n\n"
    -- a line missing, one without its LF, one too many
    ∷ "" ∷ "within=0\n" ∷ "within=0\n\n" ∷ "within=0\n\n5" ∷ "within=0\n\n\n\n" ∷ "within=0\n\n\n5" ∷ [])
    ≡ lines
    ("got=3 2 2" ∷ "got=0 0 0" ∷ "got=0 1 0" ∷ "no=22" ∷ "no=22"
    ∷ "no=22" ∷ "no=22"
    ∷ "no=1" ∷ "no=1" ∷ "no=1" ∷ "no=1" ∷ "no=1" ∷ "no=1" ∷ "no=1" ∷ "no=1"
    ∷ "no=1" ∷ "no=1" ∷ "no=1" ∷ "no=1" ∷ "no=1" ∷ "no=1" ∷ [])
unfolding doors_output join
proved-inputs = refl
