-- Pieces of a line, as they are written one behind the other. That together they are the lines of a sheet is proved in proofs/Laws.antt.
use Rattle.std.specs.Prelude.{cond, List, [], ◌∷◌, ◌++◌, ℕ, zero, suc, eqb, take}
use Prim.Native.Char.{code}
use Rattle.spec_model.specs.Check.{answer_of}
use Rattle.table_record.specs.declared.Links.{Links}
use Rattle.spec_sheet.specs.Lines.{bytes, join}
use Rattle.spec_sheet.specs.Numbers.{decimal, commas}
use Rattle.spec_sheet.specs.Text.{number_text, answer_text}

-- argument i of a signature: a comma before every one but the first
abbrev pub argument_text : ℕ → ℕ → List ℕ
argument_text zero n = decimal n
argument_text (suc i) n = number_text (bytes ",") n

-- the end of the line of a signature, from the bracket on
abbrev pub closing_text : ℕ → List ℕ
closing_text answer = code ")" ∷ (answer_text (answer_of answer) ++ code "\n" ∷ [])

-- the line of a permitted method (S26): the key up to the bracket, `count` of the arguments, and the answer's code
abbrev pub signed_text : List ℕ → ℕ → List ℕ → ℕ → List ℕ
signed_text key count args answer = key ++ (commas (take count args) ++ code ")" ∷ answer_text (answer_of answer))

-- the rest of an `under=` line behind its first number: the second, where there is one, and LF
abbrev pub second_text : Links → List ℕ
second_text x = cond (eqb x.count 2) (join (number_text (bytes ",") x.second ∷ [])) (code "\n" ∷ [])
