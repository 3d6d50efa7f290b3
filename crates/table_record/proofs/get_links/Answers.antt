-- The links of a category are read from its three bytes, which are where the view has them (`links-in`).
use mathlib.Core.Path.{sym}
use Rattle.spec_model.specs.Check.{no_raw_links}
use Rattle.table_record.proofs.Laws.{links-in}
use Rattle.table_record.proofs.get_links.Goals as goal

pub returns : goal.returns
returns c = sym (links-in c.args.l.now c.args.k no_raw_links c.requires)
