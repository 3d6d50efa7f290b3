-- The lines of a sheet by the parts in which they are written, over the bytes of the table. That together they are the text of the sheet is proved in proofs/Whole.antt.
use Rattle.std.specs.Prelude.{List, [], ◌∷◌, ◌++◌, ℕ, get_or}
use Rattle.spec_model.specs.Basics.{from}
use Rattle.spec_model.specs.Table.{Ty}
use Rattle.spec_model.specs.Check.{no_raw_type, type_of}
use Rattle.table_record.specs.declared.Counts.{Counts}
use Rattle.table_record.specs.Store.{types_in, method_in, broader_of}
use Rattle.spec_sheet.specs.Lines.{bytes}
use Rattle.spec_sheet.specs.Text.{newest_form, number_text, under_text, method_text, each, type_lines, end_text}

-- a type in the bytes
abbrev pub type_in : List ℕ → Counts → ℕ → Ty
type_in b c i = type_of c.methods c.sheet i (get_or (types_in b) i no_raw_type)

-- the lines of the first n methods of type i, of the first n types, and of the first n categories
unfoldable pub method_lines : List ℕ → ℕ → ℕ → List (List ℕ)
method_lines b i n = each (λ j m. method_text m ∷ []) 0 (from n 0 (method_in b i))

unfoldable pub type_lines_to : List ℕ → Counts → ℕ → List (List ℕ)
type_lines_to b c n = each type_lines 0 (from n 0 (type_in b c))

unfoldable pub under_lines : List ℕ → ℕ → List (List ℕ)
under_lines l n = each (λ k links. under_text links ∷ []) 1 (from n 1 (broader_of l))

-- the lines in front of the types
abbrev pub count_lines : Counts → List (List ℕ)
count_lines c = number_text (bytes "guide=") newest_form ∷ number_text (bytes "subjects=") c.subjects ∷ number_text (bytes "methods=") c.methods ∷ number_text (bytes "cats=") c.cats ∷ []

unfoldable pub front_lines : List ℕ → Counts → List (List ℕ)
front_lines l c = count_lines c ++ (under_lines l c.cats ++ (number_text (bytes "types=") c.sheet ∷ []))

-- the lines of the sheet types, without derived ones (W5), and the last line
unfoldable pub back_lines : List ℕ → Counts → List (List ℕ)
back_lines b c = type_lines_to b c c.sheet ++ (end_text ∷ [])
