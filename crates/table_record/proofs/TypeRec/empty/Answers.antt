-- A record that holds nothing: sixteen methods as `Method::empty` makes them, and a head of zeros.
use mathlib.Core.Path.{ap}
use lib.ListN.{replicate}
use Rattle.table_record.specs.declared.TypeRec.{TypeRec}
use Rattle.table_record.specs.declared.Method.{Method}
use Rattle.spec_model.specs.Table.{max_methods}
use Rattle.table_record.proofs.TypeRec.empty.Goals as goal

pub returns : goal.returns
returns c = ap (λ (m : Method). let r : TypeRec = record { head = record { rep = 0; cat = 0; own = 0; kind = 0; left = 0; right = 0 }; methods = replicate max_methods m } in r) c.empty.ensures
