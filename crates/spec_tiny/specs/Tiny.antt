-- The tiny sheets (P22 to P24): their tables in order, and the text that is printed (P21).
use Rattle.std.specs.Prelude.{Bool, true, false, ◌&&◌, cond, ℕ, zero, suc, eqb, leb, length}
use mathlib.Core.List.{List, [], ◌∷◌, ◌++◌, map, flatten}
use Rattle.std.proofs.Math.Option.{none, some}
use Rattle.spec_model.specs.Basics.{all}
use Rattle.spec_model.specs.Table.{State, denied, optional, avail, unavail, ref, Method, Table, signed, bare, type_at, is_ref, is_nil, between}
use Rattle.spec_sheet.specs.Sheet.{sheet_type}
use Rattle.spec_sheet.specs.Text.{text}

-- ---- The kind
-- Whether a table's sheet is tiny (P22). The reader sees to the rest: `guide=1` (S1), only type 0 named (S27), and no type with own in a signature (T14).
unfoldable pub is_tiny : Table → Bool
is_tiny t = eqb t.subjects 1 && (between 1 2 t.methods && (is_nil t.cats && (eqb t.sheet 1 && (is_ref (type_at t 0).rep
    && all (λ (m : Method). leb (length m.args) 1) (type_at t 0).methods))))

-- ---- The list
-- a state that permits the method, with each signature that it may have: `()-`, `()0`, `(0)-`, `(0)0`; with own=yes only the first (T14)
abbrev pub permitted : Bool → State → List Method
permitted own s = signed s [] none ∷ cond own [] (signed s [] (some 0) ∷ signed s (0 ∷ []) none ∷ signed s (0 ∷ []) (some 0) ∷ [])

-- what may be said of a method, in order (P23)
abbrev pub choices : Bool → List Method
choices own = bare denied ∷ bare unavail ∷ (permitted own avail ++ permitted own optional)

-- each of xs in front of every tuple
abbrev pub fronts : List Method → List (List Method) → List (List Method)
fronts [] tuples = []
fronts (x ∷ xs) tuples = map (λ r. x ∷ r) tuples ++ fronts xs tuples

-- all tuples of n out of xs, by their first, then by their second (P24)
abbrev pub tuples_of : List Method → ℕ → List (List Method)
tuples_of xs zero = [] ∷ []
tuples_of xs (suc n) = fronts xs (tuples_of xs n)

abbrev pub tiny_table : Bool → List Method → Table
tiny_table own ms = record { subjects = 1; methods = length ms; cats = []; sheet = 1; types = sheet_type ref 0 own ms ∷ [] }

-- those with n methods, the ones without own first (P24)
abbrev pub tiny_with : ℕ → List Table
tiny_with n = map (tiny_table false) (tuples_of (choices false) n) ++ map (tiny_table true) (tuples_of (choices true) n)

-- by the number of methods (P24)
unfoldable pub tiny_tables : List Table
tiny_tables = tiny_with 1 ++ tiny_with 2

-- how many there are (P25)
abbrev pub tiny_count : ℕ
tiny_count = 130

-- ---- What is printed (P21)
unfoldable pub tiny_text : List ℕ
unfolding tiny_tables text flatten
tiny_text = flatten (map text tiny_tables)

-- how many bytes it has (P25)
abbrev pub tiny_bytes : ℕ
tiny_bytes = 13659
