-- What a line behind the sheet asks (P4 to P11): a request, or nothing where the line is malformed.
use Rattle.std.specs.Prelude.{◌&&◌, cond, List, [], ◌∷◌, ◌++◌, ℕ, zero, suc, ◌+◌, ◌-◌, eqb, ltb, leb, ℤ, pos, negsuc, length, drop}
use Rattle.std.proofs.Math.Option.{Option, none}
use Prim.Native.Char.{code}
use Rattle.spec_model.specs.Requests.{Request}
use Rattle.spec_model.specs.Coded.{by_code}
use Rattle.spec_sheet.specs.Lines.{bytes, starts, same}
use Rattle.spec_sheet.specs.Numbers.{Scan, fail, took, bind_scan, number}

-- ---- A signed decimal of 64 bits (P9)
-- 2 to the 63rd: the numbers go from -half to half - 1
abbrev pub half : ℕ
half = 9223372036854775808

-- A decimal with no sign, and one behind a `-`: `negsuc n` is -(n + 1). Past 64 bits and `-0` are no numbers.
abbrev pub positive : ℕ → List ℕ → Scan ℤ
positive n r = cond (ltb n half) (took (pos n) r) fail

abbrev pub negative : ℕ → List ℕ → Scan ℤ
negative n r = cond (leb 1 n && leb n half) (took (negsuc (n - 1)) r) fail

-- The digits are read as a sheet's are (S21).
unfoldable pub integer : List ℕ → Scan ℤ
unfolding number
integer [] = fail
integer (b ∷ bs) = cond (eqb b (code "-")) (bind_scan (number bs) negative) (bind_scan (number (b ∷ bs)) positive)

-- ---- The operands of a line
-- one operand, behind one space (P10)
unfoldable pub operand : List ℕ → Scan ℤ
unfolding integer
operand [] = fail
operand (b ∷ bs) = cond (eqb b (code " ")) (integer bs) fail

-- The operands in front of l, at most n of them, behind those of acc; and what is left of the line behind them. They end in front of the first that is none: what is left
-- then makes the line malformed (`leftover`).
unfoldable pub operands : ℕ → List ℤ → List ℕ → List ℤ × List ℕ
unfolding operand
operands zero acc l = (acc, l)
operands (suc n) acc l = elim (operand l) [ fail ↦ (acc, l) | took v r ↦ operands n (acc ++ v ∷ []) r ]

-- The arguments that a line of a call may list (P7). It is the limit of the line, not that of signatures: it was four when these had two.
abbrev pub max_listed : ℕ
max_listed = 4

-- a call's subject, cell and method, and its arguments: one more is left over, and so makes the line malformed (P11)
abbrev pub max_operands : ℕ
max_operands = 3 + max_listed

-- ---- The line
-- What has to be left behind the operands: nothing; but ` -` behind the two of an answer, which says that nothing is given (P8).
abbrev pub leftover : ℕ → List ℤ → List ℕ
leftover k ws = cond (eqb k 3 && eqb (length ws) 2) (bytes " -") []

-- the request of code k by what stands behind its word
abbrev pub request_by : ℕ → List ℕ → Option Request
request_by k l = let x = operands max_operands [] l in cond (same (leftover k x.0) x.1) (by_code k x.0) none

-- the word of each of the four codes
abbrev pub word : ℕ → List ℕ
word zero = bytes "do=new"
word (suc zero) = bytes "do=move"
word (suc (suc zero)) = bytes "do=call"
word (suc (suc (suc k))) = bytes "do=answer"

-- The request by the word that the line begins with; no word begins with another. A byte behind the word that is no space is left over.
unfoldable pub request_line : List ℕ → Option Request
unfolding operands starts
request_line l =
    cond (starts (word 0) l) (request_by 0 (drop (length (word 0)) l))
    (cond (starts (word 1) l) (request_by 1 (drop (length (word 1)) l))
    (cond (starts (word 2) l) (request_by 2 (drop (length (word 2)) l))
    (cond (starts (word 3) l) (request_by 3 (drop (length (word 3)) l)) none)))
