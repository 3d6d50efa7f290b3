-- A test on the way of the code, and what the part of the check then is.
use mathlib.Core.Path.{◌≡◌, sym, ◌∙◌}
use mathlib.Core.Bool.{Bool, true, false, not, ◌&&◌}
use borrow.Author.Tests.{not-true, not-false}

-- A test in an `if`, and the part of the check that it stands for.
pub refused : (r x : Bool) → r ≡ x → not r ≡ true → x ≡ false
refused r x e h = sym e ∙ not-true r h

pub passed : (r x : Bool) → r ≡ x → not r ≡ false → x ≡ true
passed r x e h = sym e ∙ not-false r h

-- A conjunction that goes on behind its first part.
pub goes : (a b r : Bool) → a ≡ true → r ≡ b → r ≡ (a && b)
goes a b r e f = rw e f
