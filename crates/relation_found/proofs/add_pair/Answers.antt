-- A pair that is found is marked and joins the queue: two stores in the one array, which leave all other entries as they were.
use mathlib.Core.Path.{refl}
use native.Mathlib.Omega.{arith}
use Rattle.relation_found.proofs.Buffer.{added}
use Rattle.relation_found.proofs.add_pair.Goals as goal

pub returns : goal.returns
returns c =
    let a = c.args in
    (refl, added a.found.now a.tail a.p (omega arith) c.from-top.result c.from-top.ensures)
