-- The head of type i is read from its six bytes, which are where the view has them (`type-in`).
use mathlib.Core.Path.{ap, sym}
use Rattle.spec_model.specs.Check.{no_raw_type}
use Rattle.table_record.specs.Store.{head_of}
use Rattle.table_record.proofs.Laws.{type-in}
use Rattle.table_record.proofs.get_head.Goals as goal

pub returns : goal.returns
returns c =
    ap head_of
    (sym
    (type-in c.args.b.now c.args.i no_raw_type
    c.requires))
