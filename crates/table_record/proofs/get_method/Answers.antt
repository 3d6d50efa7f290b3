-- Method j of type i is read from its seven bytes, which are where the view has them (`method-read`).
use Rattle.table_record.proofs.Laws.{method-read}
use Rattle.table_record.proofs.get_method.Goals as goal

pub returns : goal.returns
returns c =
    let a = c.args in
    let pre = c.requires in
    let at = c.method_at-at in
    method-read a.b.now a.i a.j at.result pre.0 pre.1 at.ensures
