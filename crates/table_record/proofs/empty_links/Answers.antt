-- By computing.
use borrow.Author.Rules.{rules}
use Rattle.table_record.specs.Store.{empty_links}
use Rattle.table_record.proofs.empty_links.Goals as goal

pub returns : goal.returns
unfolding empty_links
returns c = search rules
