-- All 0.
use Rattle.export_runs.specs.Results.{no_bytes}
use borrow.Author.Rules.{rules}
use Rattle.export_runs.proofs.clear.Goals as goal

pub returns : goal.returns
unfolding no_bytes
returns c = search rules
