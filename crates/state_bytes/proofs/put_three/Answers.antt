-- Three stores in a row are one store of three bytes.
use Prim.Native.Nat.{◌*◌}
use Rattle.table_record.proofs.Lists.{three}
use Rattle.state_bytes.specs.Flat.{place_size}
use Rattle.state_bytes.proofs.put_three.Goals as goal

pub returns : goal.returns
returns c = let a = c.args in three a.b.now (a.p * place_size) a.code a.first a.second
