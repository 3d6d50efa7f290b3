-- The line that is printed for what a request came to (P12, P13).
use Rattle.std.specs.Prelude.{List, ◌∷◌, ◌++◌, ℕ, suc, ℤ, pos, negsuc}
use Prim.Native.Char.{code}
use Rattle.spec_model.specs.Requests.{pair, number, nothing, Outcome, got, refused}
use Rattle.spec_sheet.specs.Lines.{bytes}
use Rattle.spec_sheet.specs.Numbers.{decimal, decimal_in}
use Rattle.spec_sheet.specs.Text.{number_text}

-- a signed decimal: `negsuc n` is -(n + 1). Every value is one of 64 bits (Q12), so that its digits fit.
unfoldable pub integer_text : ℤ → List ℕ
unfolding decimal_in
integer_text (pos n) = decimal n
integer_text (negsuc n) = code "-" ∷ decimal (suc n)

-- the line without its LF
unfoldable pub outcome_text : Outcome → List ℕ
unfolding number_text integer_text
outcome_text (refused e) = number_text (bytes "no=") e
outcome_text (got (pair a b)) = number_text (bytes "got=") a ++ number_text (bytes " ") b
outcome_text (got (number v)) = bytes "got=" ++ integer_text v
outcome_text (got nothing) = bytes "got=-"
