-- Six stores in a row are one store of the head's bytes (`six`).
use Rattle.table_record.proofs.Lists.{six}
use Rattle.table_store.proofs.put_head.Goals as goal

pub returns : goal.returns
returns c = let a = c.args in six a.b.now a.at a.h.rep a.h.cat a.h.own a.h.kind a.h.left a.h.right
