-- What the code gives for parts of a line and for a line, in the words of `request_line` (P4 to P11).
use Rattle.std.specs.Prelude.{◌≡◌, Bool, false, not, ◌||◌, List, ℕ, zero, suc, ◌≤◌, eqb, leb, ℤ, length, take, drop, Option as Maybe, Some, None, IfSome}
use Rattle.std.specs.Option.{is_some}
use Rattle.std.proofs.Math.Option.{Option, none}
use Rattle.spec_model.specs.Requests.{Request}
use Rattle.spec_model.specs.Table.{is_none}
use Rattle.spec_model.specs.Coded.{by_code}
use Rattle.spec_sheet.specs.Numbers.{Scan, fail, took}
use Rattle.script_read_request.specs.Asked.{max_operands}
use Rattle.script_read_request.specs.declared.Code.{Code}
use Rattle.script_read_request.specs.declared.Code.TheVariants.{New, Move, Call, Answer}
use Rattle.script_read_request.specs.declared.Asked.{Asked}

-- A number with its sign, in front of r.
abbrev pub signed_by : Maybe ℤ → List ℕ → Scan ℤ
signed_by None r = fail
signed_by (Some v) r = took v r

-- A signed number scanned in l, with where the bytes behind it start.
abbrev pub integer_by : List ℕ → Maybe (ℤ × ℕ) → Scan ℤ
integer_by l None = fail
integer_by l (Some p) = took p.0 (drop p.1 l)

-- the number of a code
abbrev pub code_of : Code → ℕ
code_of New = 0
code_of Move = 1
code_of Call = 2
code_of Answer = 3

-- Whether the request of a code can have so many operands (P5 to P8).
abbrev pub count_fits : ℕ → ℕ → Bool
count_fits zero n = eqb n 3
count_fits (suc zero) n = eqb n 4
count_fits (suc (suc zero)) n = leb 3 n
count_fits (suc (suc (suc zero))) n = eqb n 2 || eqb n 3
count_fits (suc (suc (suc (suc k)))) n = false

-- The request: that of the code and of the first `count` items.
abbrev pub asked_as : Maybe Asked → Option Request
asked_as None = none
asked_as (Some a) = by_code (code_of a.code) (take a.count a.items)

-- a is what o asks, the request of a line or none.
pub record Reads (o : Option Request) (a : Maybe Asked) : Type 0 where
  pub is : asked_as a ≡ o
  pub some : is_some a ≡ not (is_none o)
  pub within : IfSome a (λ x. (x.count ≤ max_operands) × (length x.items ≡ max_operands))
