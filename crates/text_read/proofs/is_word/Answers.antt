-- The library's equality is the definition (`same-whole`).
use mathlib.Core.Path.{◌∙◌}
use Rattle.text_read.proofs.Laws.{same-whole}
use Rattle.text_read.proofs.is_word.Goals as goal

pub returns : goal.returns
returns c = c.eq.ensures ∙ same-whole c.args.word.now c.args.l.now
