-- One method for the first fourteen, two for the others (`counts-one`, `counts-two`).
use Rattle.tiny_record.proofs.Laws.{counts-one, counts-two}
use Rattle.tiny_record.proofs.counts_of.Goals as goal

pub returns-then-i-lt-TWO : goal.returns-then-i-lt-TWO
returns-then-i-lt-TWO c = counts-one _ c.requires c.if-i-lt-TWO.true

pub returns-else-i-lt-TWO : goal.returns-else-i-lt-TWO
returns-else-i-lt-TWO c = counts-two _ c.requires c.if-i-lt-TWO.false
