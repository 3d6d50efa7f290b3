-- Seven stores in a row are one store of the method's bytes (`seven`).
use lib.ListN.{get_or}
use borrow.Author.Rules.{rules}
use Rattle.table_record.proofs.Lists.{seven}
use Rattle.table_store.proofs.put_method.Goals as goal

pub returns : goal.returns
returns c = let a = c.args in
    record { bytes = seven a.b.now a.at a.m.state a.m.count (get_or a.m.args 0 0) (get_or a.m.args 1 0) (get_or a.m.args 2 0) (get_or a.m.args 3 0) a.m.answer; shape = search rules }
