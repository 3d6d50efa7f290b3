-- Three stores in a row are one store of the cell's bytes; no other cell's change.
use Prim.Native.Nat.{◌*◌}
use Rattle.table_record.proofs.Lists.{three}
use Rattle.state_bytes.specs.Flat.{cell_size}
use Rattle.state_bytes.proofs.put_cell.Goals as goal

pub returns : goal.returns
returns c = let a = c.args in three a.b.now (a.k * cell_size) a.c.holder a.c.ty a.c.place
