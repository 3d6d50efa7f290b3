-- The parts are the model's check (`accepted-is`).
use Rattle.std.proofs.Common.{rules, arith}
use Rattle.std.proofs.lemmas.Grind.{common_steps}
use Rattle.table_check.proofs.Laws.{accepted-is}
use Rattle.table_check.proofs.table_fits.Goals as goal

pub returns-then-links_fit : goal.returns-then-links_fit
returns-then-links_fit c = let e = accepted-is c.args.b.now c.args.l.now c.args.c in search (rules, e)

pub returns-else-links_fit : goal.returns-else-links_fit
returns-else-links_fit c = let e = accepted-is c.args.b.now c.args.l.now c.args.c in grind (arith, common_steps, e)
