-- The text of a table, line by line (S20 to S26), and what the writer leaves (W).
use Rattle.std.specs.Prelude.{Bool, true, false, cond, List, [], ◌∷◌, ◌++◌, ℕ, suc, leb, length, take, drop}
use Rattle.std.proofs.Math.Option.{Option, none, some}
use Prim.Native.Char.{code}
use Rattle.spec_model.specs.Basics.{Res, refuse, ok}
use Rattle.spec_model.specs.Table.{State, denied, optional, avail, unavail, Rep, ref, w32, w64, Method, Ty, Table, with_types, permit}
use Rattle.spec_model.specs.Check.{RawTable, table_of, table_accepted}
use Rattle.spec_model.specs.Refusals.{out_of_range, short_buffer}
use Rattle.spec_sheet.specs.Lines.{bytes, join}
use Rattle.spec_sheet.specs.Numbers.{decimal, decimal_in, commas}

-- the newest form of a sheet that there is (S22)
abbrev pub newest_form : ℕ
newest_form = 1

-- an input of a program, a sheet with or without requests behind it, of at most so many bytes (P1)
abbrev pub max_input : ℕ
max_input = 32768

-- a key and a decimal
unfoldable pub number_text : List ℕ → ℕ → List ℕ
unfolding decimal_in
number_text key n = key ++ decimal n

-- numbers, each behind a space; and with single spaces between (P17, P27)
abbrev pub spaces : List ℕ → List ℕ
spaces [] = []
spaces (n ∷ r) = number_text (bytes " ") n ++ spaces r

abbrev pub spaced : List ℕ → List ℕ
spaced [] = []
spaced (n ∷ r) = decimal n ++ spaces r

-- the broader categories of one category (S24, W7)
unfoldable pub under_text : List ℕ → List ℕ
unfolding decimal_in
under_text links = bytes "under=" ++ commas links

-- the words of the `rep=` and `own=` lines (S25)
abbrev pub rep_text : Rep → List ℕ
rep_text ref = bytes "rep=ref"
rep_text w32 = bytes "rep=w32"
rep_text w64 = bytes "rep=w64"

abbrev pub own_text : Bool → List ℕ
own_text true = bytes "own=yes"
own_text false = bytes "own=no"

-- a state that carries a signature opens its bracket (S26)
abbrev pub state_text : State → List ℕ
state_text denied = bytes "m=denied"
state_text optional = bytes "m=optional("
state_text avail = bytes "m=avail("
state_text unavail = bytes "m=unavail"

abbrev pub answer_text : Option ℕ → List ℕ
answer_text none = code "-" ∷ []
answer_text (some n) = decimal n

abbrev pub signature_text : Method → List ℕ
signature_text m = commas m.args ++ code ")" ∷ answer_text m.answer

-- the line of one method (S26)
abbrev pub method_text_by : State → Method → List ℕ
method_text_by s m = state_text s ++ cond (permit s) (signature_text m) []

unfoldable pub method_text : Method → List ℕ
unfolding decimal_in
method_text m = method_text_by m.state m

-- the last line (S22)
abbrev pub end_text : List ℕ
end_text = bytes "end=sheet"

-- the lines of several things, numbered from i on
unfoldable pub each : {A : Type 0} → (ℕ → A → List (List ℕ)) → ℕ → List A → List (List ℕ)
each f i [] = []
each f i (x ∷ xs) = f i x ++ each f (suc i) xs

-- what only a reference type has (S25)
unfoldable pub member_lines : Rep → Ty → List (List ℕ)
unfolding each method_text
member_lines ref x = own_text x.own ∷ each (λ j m. method_text m ∷ []) 0 x.methods
member_lines w32 x = []
member_lines w64 x = []

-- the block of type i (S25)
unfoldable pub type_lines : ℕ → Ty → List (List ℕ)
unfolding member_lines number_text
type_lines i x = number_text (bytes "type=") i ∷ rep_text x.rep ∷ number_text (bytes "cat=") x.cat ∷ member_lines x.rep x

-- all lines but the last, in their order (S22)
unfoldable pub sheet_lines : Table → List (List ℕ)
unfolding each type_lines number_text under_text
sheet_lines t = number_text (bytes "guide=") newest_form ∷ number_text (bytes "subjects=") t.subjects ∷ number_text (bytes "methods=") t.methods
    ∷ number_text (bytes "cats=") (length t.cats) ∷ (each (λ k links. under_text links ∷ []) 1 t.cats
    ++ (number_text (bytes "types=") t.sheet ∷ each type_lines 0 t.types))

-- the sheet's own types alone (W5)
abbrev pub without_derived : Table → Table
without_derived t = with_types t (take t.sheet t.types)

-- the text of a table's sheet
unfoldable pub text : Table → List ℕ
unfolding sheet_lines join
text t = join (sheet_lines (without_derived t) ++ (end_text ∷ []))

-- What the writer leaves: its result, and the buffer.
pub record Written : Type 0 where
  pub result : Res ℕ
  pub buffer : List ℕ

-- A text that fits stands in front, and what is behind it stays; one that does not is refused with 4, and every byte stays (W2 to W4).
unfoldable pub write_text : List ℕ → List ℕ → Written
write_text xs buffer = cond (leb (length xs) (length buffer)) (record { result = ok (length xs); buffer = xs ++ drop (length xs) buffer }) (record { result = refuse short_buffer; buffer = buffer })

-- the writer, on any table: its check comes first (W1)
unfoldable pub write : RawTable → List ℕ → Written
unfolding write_text text table_accepted table_of
write r buffer = cond (table_accepted r) (write_text (text (table_of r)) buffer) (record { result = refuse out_of_range; buffer = buffer })
