-- The loop has read numbers with commas between; a comma calls for one more, which too many or a malformed one ends: each return is the definition's case.
use mathlib.Core.List.{[]}
use mathlib.Core.Path.{◌≡◌}
use Prim.Native.Nat.{◌≤◌, ◌-◌}
use lib.ListN.{length, drop}
use Rattle.spec_sheet.specs.Numbers.{numbers}
use Rattle.text_read.specs.View.{numbers_of, RestEmpty}
use Rattle.text_read.proofs.numbers_at.Given as goal

abbrev pub invariant-loop-t : goal.invariant-loop-t
invariant-loop-t l = (l.i ≤ length l.l) × (l.t.count ≤ l.max) × RestEmpty l.t × (numbers (l.max - l.t.count) (numbers_of l.t) (drop l.i l.l) ≡ numbers l.max [] (drop l.at l.l))

abbrev pub decreases-loop-t : goal.decreases-loop-t
decreases-loop-t l = l.max - l.t.count
