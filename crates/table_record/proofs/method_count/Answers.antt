-- The second byte of method j of type i is read, where the view has it (`method-read`).
use mathlib.Core.Path.{ap}
use Rattle.spec_model.specs.Check.{RawMethod}
use Rattle.table_record.proofs.Laws.{method-read}
use Rattle.table_record.proofs.method_count.Goals as goal

pub returns : goal.returns
returns c =
    let a = c.args in
    let pre = c.requires in
    let at = c.method_at in
    ap (λ (m : RawMethod). m.count) (method-read a.b.now a.i a.j at.result pre.0 pre.1 at.ensures)
