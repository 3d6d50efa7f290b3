-- The library's test is the definition (`starts-with`).
use mathlib.Core.Path.{◌∙◌}
use Rattle.text_read.proofs.Laws.{starts-with}
use Rattle.text_read.proofs.begins.Goals as goal

pub returns : goal.returns
returns c = c.starts_with.ensures.value ∙ starts-with c.args.word.now c.args.l.now
