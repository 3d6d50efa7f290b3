-- The loop has read the digits so far as one number; it stops at a byte that is no digit, or at the end, as the definition does.
use mathlib.Core.Path.{◌≡◌}
use Prim.Native.Nat.{◌≤◌}
use lib.ListN.{drop}
use Rattle.spec_sheet.specs.Numbers.{top, digits}
use Rattle.text_read.proofs.digits_at.Given as goal

abbrev pub invariant-loop-i : goal.invariant-loop-i
invariant-loop-i l = (l.n ≤ top) × (digits l.n (drop l.i l.l) ≡ digits l.a (drop l.at l.l))
