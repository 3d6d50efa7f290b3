-- Three stores in a row are one store of the links' bytes (`three`), which changes one category and no other.
use Prim.Native.Nat.{◌*◌}
use Rattle.table_record.proofs.Lists.{three}
use Rattle.table_record.specs.Layout.{link_size}
use Rattle.table_store.proofs.put_links.Goals as goal

pub returns : goal.returns
returns c = let a = c.args in three a.l.now (a.k * link_size) a.x.count a.x.first a.x.second
