-- A time is stored in its place, or there is none for it.
use mathlib.Core.Path.{sym}
use native.Mathlib.Omega.{arith}
use lib.Seq.{set_out}
use Rattle.doors_read.proofs.store.Goals as goal

pub returns-else-i-lt-TIMES : goal.returns-else-i-lt-TIMES
returns-else-i-lt-TIMES c = let a = c.args in sym (set_out a.items.now a.i a.x (omega (arith, c.requires, c.if-i-lt-TIMES.false)))
