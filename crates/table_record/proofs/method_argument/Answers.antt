-- Slot k stands k bytes behind the first (`slot_at`), where the view has the method (`method-read`).
use mathlib.Core.Path.{ap, ◌∙◌}
use lib.ListN.{get_or}
use Rattle.spec_model.specs.Check.{RawMethod}
use Rattle.table_record.proofs.Laws.{method-read, slot_at}
use Rattle.table_record.proofs.method_argument.Goals as goal

pub returns : goal.returns
returns c =
    let a = c.args in
    let pre = c.requires in
    let at = c.method_at in
    slot_at a.b.now at.result a.k pre.2
    ∙ ap (λ (m : RawMethod). get_or m.args a.k 0) (method-read a.b.now a.i a.j at.result pre.0 pre.1 at.ensures)
