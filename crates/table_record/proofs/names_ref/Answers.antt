-- Whether a number names a reference type of the first n: by its record, where it is not past them.
use Rattle.table_record.proofs.Tables.{no_ref, ref-among}
use Rattle.table_record.proofs.names_ref.Goals as goal

pub returns-then-t-n : goal.returns-then-t-n
returns-then-t-n c =
    ref-among c.args.n c.args.t c.args.b.now c.is_ref.result c.if-t-n.true c.is_ref.ensures

pub returns-else-t-n : goal.returns-else-t-n
returns-else-t-n c = no_ref c.args.n c.args.t c.args.b.now c.if-t-n.false
