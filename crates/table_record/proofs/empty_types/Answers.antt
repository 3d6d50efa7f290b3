-- By computing.
use borrow.Author.Rules.{rules}
use Rattle.table_record.specs.Store.{empty_types}
use Rattle.table_record.proofs.empty_types.Goals as goal

pub returns : goal.returns
unfolding empty_types
returns c = search rules
