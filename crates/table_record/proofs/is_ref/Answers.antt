-- The code of the representation (`rep-code`), by the head that was read.
use mathlib.Core.Path.{ap, ◌∙◌}
use Rattle.spec_model.specs.Check.{rep_of}
use Rattle.spec_model.specs.Table.{is_ref}
use Rattle.table_record.specs.declared.Head.{Head}
use Rattle.table_record.proofs.Codes.{rep-code}
use Rattle.table_record.proofs.is_ref.Goals as goal

pub returns : goal.returns
returns c = rep-code c.get_head.result.rep ∙ ap (λ (h : Head). is_ref (rep_of h.rep)) c.get_head.ensures
