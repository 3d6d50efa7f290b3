-- Concrete sheets: Case P is read with its table and written as it was read; refusals with their numbers and offsets, one or more for each of the rules S1 to S13, S29 and S30.
use mathlib.Core.Path.{◌≡◌, refl}
use mathlib.Core.Bool.{true, false, So}
use mathlib.Core.List.{List, [], ◌∷◌, ◌++◌}
use mathlib.Core.Option.{none, some}
use Prim.Native.Nat.{ℕ}
use Rattle.spec_model.specs.Basics.{refuse, ok, from}
use Rattle.spec_model.specs.Table.{denied, optional, avail, unavail, ref, w32, w64, Method, Table, State, with_types, valid_sheet, bare}
use Rattle.spec_sheet.specs.Lines.{bytes}
use Rattle.spec_sheet.specs.Text.{text, write_text, write}
use Rattle.spec_sheet.specs.Sheet.{malformed, loaded, read, sheet_type}

asks : Method
asks = record { state = avail; args = []; answer = some 0 }

takes : State → Method
takes s = record { state = s; args = 0 ∷ []; answer = none }

-- Case P (K1)
unfoldable pub case_p : Table
unfolding asks takes
case_p = record {
  subjects = 3;
  methods = 3;
  cats = [];
  sheet = 6;
  types =
      sheet_type w32 0 false []
      ∷ sheet_type ref 0 false (asks ∷ takes avail ∷ bare avail ∷ [])
      ∷ sheet_type ref 0 false (asks ∷ bare denied ∷ bare denied ∷ [])
      ∷ sheet_type ref 0 false (asks ∷ takes optional ∷ bare denied ∷ [])
      ∷ sheet_type ref 0 true (asks ∷ takes avail ∷ bare avail ∷ [])
      ∷ sheet_type ref 0 false (bare denied ∷ takes avail ∷ bare denied ∷ []) ∷ [];
}

unfoldable pub sheet_p : List ℕ
sheet_p = bytes "guide=1\nsubjects=3\nmethods=3\ncats=0\ntypes=6\n"
    ++ bytes "type=0\nrep=w32\ncat=0\n"
    ++ bytes "type=1\nrep=ref\ncat=0\nown=no\nm=avail()0\nm=avail(0)-\nm=avail()-\n"
    ++ bytes "type=2\nrep=ref\ncat=0\nown=no\nm=avail()0\nm=denied\nm=denied\n"
    ++ bytes "type=3\nrep=ref\ncat=0\nown=no\nm=avail()0\nm=optional(0)-\nm=denied\n"
    ++ bytes "type=4\nrep=ref\ncat=0\nown=yes\nm=avail()0\nm=avail(0)-\nm=avail()-\n"
    ++ bytes "type=5\nrep=ref\ncat=0\nown=no\nm=denied\nm=avail(0)-\nm=denied\n"
    ++ bytes "end=sheet\n"

pub case-p : read sheet_p ≡ loaded case_p
unfolding read sheet_p case_p
case-p = refl

pub case-p-text : text case_p ≡ sheet_p
unfolding text sheet_p case_p
case-p-text = refl

pub case-p-valid : So (valid_sheet case_p)
unfolding valid_sheet case_p
case-p-valid = refl

-- a type behind the sheet's six is left out (W5)
pub derived-not-written : text (with_types case_p (case_p.types ++ (sheet_type w32 0 false [] ∷ []))) ≡ sheet_p
unfolding text sheet_p case_p
derived-not-written = refl

-- categories, two broader ones, four arguments, unavail and w64
unfoldable pub mixed : Table
mixed = record {
  subjects = 16;
  methods = 2;
  cats = (0 ∷ []) ∷ (1 ∷ 0 ∷ []) ∷ [];
  sheet = 2;
  types =
      sheet_type ref 2 false (record { state = optional; args = 0 ∷ 1 ∷ 1 ∷ 0 ∷ []; answer = some 1 } ∷ bare unavail ∷ []) ∷ sheet_type w64 1 false [] ∷ [];
}

unfoldable pub mixed_sheet : List ℕ
mixed_sheet = bytes "guide=1\nsubjects=16\nmethods=2\ncats=2\nunder=0\nunder=1,0\ntypes=2\n"
    ++ bytes "type=0\nrep=ref\ncat=2\nown=no\nm=optional(0,1,1,0)1\nm=unavail\ntype=1\nrep=w64\ncat=1\nend=sheet\n"

pub mixed-read : read mixed_sheet ≡ loaded mixed
unfolding read mixed_sheet mixed
mixed-read = refl

pub mixed-text : text mixed ≡ mixed_sheet
unfolding text mixed_sheet mixed
mixed-text = refl

-- a buffer with too little room, and one with room to spare (W2 to W4)
pub short-buffer : write_text (bytes "abc") (bytes "..") ≡ record { result = refuse 4; buffer = bytes ".." }
unfolding write_text
short-buffer = refl

pub long-buffer : write_text (bytes "abc") (bytes ".....") ≡ record { result = ok 3; buffer = bytes "abc.." }
unfolding write_text
long-buffer = refl

-- 2 before 4 (W1): no counts, and a buffer that is short for any sheet
pub two-before-four : write (record { subjects = 0; methods = 0; cats = 0; sheet = 0; types = 0; links = []; records = [] }) (bytes "..") ≡ record { result = refuse 2; buffer = bytes ".." }
unfolding write from
two-before-four = refl

-- beginnings of sheets
unfoldable pub two : List ℕ
two = bytes "guide=1\nsubjects=3\nmethods=1\ncats=6\nunder=0\nunder=1,0\n"

unfoldable pub one : List ℕ
one = bytes "guide=1\nsubjects=3\nmethods=1\ncats=0\ntypes=1\ntype=0\nrep=ref\ncat=0\nown=no\n"

unfoldable pub own : List ℕ
own = bytes "guide=1\nsubjects=3\nmethods=1\ncats=0\ntypes=1\ntype=0\nrep=ref\ncat=0\nown=yes\nm=avail(0)-\n"

unfoldable pub own_answer : List ℕ
own_answer = bytes "guide=1\nsubjects=3\nmethods=1\ncats=0\ntypes=1\ntype=0\nrep=ref\ncat=0\nown=yes\nm=avail()0\n"

-- S1: a `guide=` number that isn't known
pub s1-unknown-form : read (bytes "guide=2\nsubjects=3\n") ≡ malformed 2 0
unfolding read
s1-unknown-form = refl

-- S2: more digits than 64 bits hold
pub s2-too-long : read (bytes "guide=1\nsubjects=99999999999999999999999\n") ≡ malformed 2 8
unfolding read
s2-too-long = refl

-- S29: a count one above its range
pub s2-outside : read (bytes "guide=1\nsubjects=17\n") ≡ malformed 2 8
unfolding read
s2-outside = refl

-- S3: a leading zero
pub s3-leading-zero : read (bytes "guide=1\nsubjects=3\nmethods=1\ncats=00\n") ≡ malformed 1 29
unfolding read
s3-leading-zero = refl

-- S3: a sign
pub s3-sign : read (bytes "guide=1\nsubjects=3\nmethods=1\ncats=0\ntypes=1\ntype=0\nrep=ref\ncat=-1\n") ≡ malformed 1 59
unfolding read
s3-sign = refl

-- S3: no digit
pub s3-empty : read (bytes "guide=1\nsubjects=\n") ≡ malformed 1 8
unfolding read
s3-empty = refl

-- S3: in a signature
pub s3-in-signature : read (one ++ bytes "m=avail(00)-\n") ≡ malformed 1 72
unfolding read one
s3-in-signature = refl

-- S5: 1 before 2, over the whole line
pub s5-form-first : read (one ++ bytes "m=avail(0,0,0,0,99)0\n") ≡ malformed 1 72
unfolding read one
s5-form-first = refl

-- with three arguments the form is right
pub s5-range : read (one ++ bytes "m=avail(0,0,99)0\n") ≡ malformed 2 72
unfolding read one
s5-range = refl

-- S5: 2 before 3, over the whole line
pub s5-range-first : read (two ++ bytes "under=5,9\n") ≡ malformed 2 54
unfolding read two
s5-range-first = refl

-- S5: the other way round
pub s5-range-first-left : read (two ++ bytes "under=9,5\n") ≡ malformed 2 54
unfolding read two
s5-range-first-left = refl

-- S6: the first wrong line
pub s6-first-line : read (bytes "guide=1\nsubjects=0\nmethods=x\n") ≡ malformed 2 8
unfolding read
s6-first-line = refl

-- S6: an extra line before own in a signature
pub s6-extra-line : read (own ++ bytes "end=sheet\nend=sheet\n") ≡ malformed 1 95
unfolding read own
s6-extra-line = refl

-- S7: `methods=` where `subjects=` is due
pub s7-missing-line : read (bytes "guide=1\nmethods=1\ncats=0\n") ≡ malformed 1 8
unfolding read
s7-missing-line = refl

-- S8: a line without LF, whatever its text
pub s8-no-lf : read (bytes "guide=1\nsubjects=3") ≡ malformed 1 8
unfolding read
s8-no-lf = refl

-- S8: 1 also where its number is outside its range
pub s8-no-lf-range : read (bytes "guide=1\nsubjects=99") ≡ malformed 1 8
unfolding read
s8-no-lf-range = refl

-- S9: no input
pub s9-empty : read (bytes "") ≡ malformed 1 0
unfolding read
s9-empty = refl

-- S9: no last line
pub s9-missing-end : read (one ++ bytes "m=denied\n") ≡ malformed 1 81
unfolding read one
s9-missing-end = refl

-- S10: a byte behind the last line, without LF
pub s10-behind : read (one ++ bytes "m=denied\nend=sheet\n.") ≡ malformed 1 91
unfolding read one
s10-behind = refl

-- S10: and with LF
pub s10-behind-line : read (one ++ bytes "m=denied\nend=sheet\n\n") ≡ malformed 1 91
unfolding read one
s10-behind-line = refl

-- S11: three broader categories
pub s11-three-broader : read (two ++ bytes "under=0,0,0\n") ≡ malformed 1 54
unfolding read two
s11-three-broader = refl

-- S11: five arguments
pub s11-five-arguments : read (one ++ bytes "m=avail(0,0,0,0,0)-\n") ≡ malformed 1 72
unfolding read one
s11-five-arguments = refl

-- S12: category 3 names itself
pub s12-not-below : read (two ++ bytes "under=3\n") ≡ malformed 3 54
unfolding read two
s12-not-below = refl

-- S12: the last is not above the last
pub s12-last : read (two ++ bytes "under=0,6\n") ≡ malformed 3 54
unfolding read two
s12-last = refl

-- S12: above the last
pub s12-above : read (two ++ bytes "under=7\n") ≡ malformed 2 54
unfolding read two
s12-above = refl

-- S13: own as an argument
pub s13-own : read (own ++ bytes "end=sheet\n") ≡ malformed 3 85
unfolding read own
s13-own = refl

-- S13: own as an answer
pub s13-own-answer : read (own_answer ++ bytes "end=sheet\n") ≡ malformed 3 84
unfolding read own_answer
s13-own-answer = refl

-- S30: type 1 where type 0 is due
pub out-of-turn : read (bytes "guide=1\nsubjects=3\nmethods=1\ncats=0\ntypes=2\ntype=1\n") ≡ malformed 2 44
unfolding read
out-of-turn = refl

-- S29: a type number in a signature
pub signature-range : read (one ++ bytes "m=avail()1\n") ≡ malformed 2 72
unfolding read one
signature-range = refl
