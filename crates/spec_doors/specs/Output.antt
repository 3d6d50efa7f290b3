-- The program `doors`: the bytes that it prints, for every input (P1, P27 to P29).
use Rattle.std.specs.Prelude.{cond, List, [], ◌∷◌, ◌++◌, ℕ, ltb, length}
use Rattle.spec_model.specs.Basics.{Res, refuse, ok}
use Rattle.spec_sheet.specs.Lines.{bytes, split, join, Reading, refused, got}
use Rattle.spec_sheet.specs.Text.{max_input, number_text}
use Rattle.spec_doors.specs.Held.{Counts, held}
use Rattle.spec_doors.specs.Input.{Input, input_lines}

-- `no=N`, or `got=` and three numbers (P29)
unfoldable pub held_text : Res Counts → List ℕ
unfolding number_text
held_text (refuse e) = number_text (bytes "no=") e
held_text (ok c) = number_text (bytes "got=") c.pairs ++ (number_text (bytes " ") c.marks ++ number_text (bytes " ") c.arrivals)

-- what comes of the input's lines: a wrong one is 1 (P28)
abbrev pub held_in : Reading Input → Res Counts
held_in (refused e at) = refuse e
held_in (got x at rs) = held x.marks x.arrivals x.within

-- longer input: `no=2` alone (P1)
unfoldable pub doors_output : List ℕ → List ℕ
unfolding held_text held input_lines join split
doors_output s = join (cond (ltb max_input (length s)) (bytes "no=2") (held_text (held_in (input_lines 0 (split s)))) ∷ [])
