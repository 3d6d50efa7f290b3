-- The plan's choices are below ten (`plan-small`), and its record is that of the table in the list (`plan-is`).
use mathlib.Core.Path.{ap, ◌∙◌}
use Rattle.tiny_record.specs.Plan.{plan_raw}
use Rattle.tiny_record.proofs.Laws.{plan-small, plan-is}
use Rattle.tiny_record.proofs.type_of.Goals as goal

pub planned_record-requires : goal.planned_record-requires
planned_record-requires c = plan-small _ _ c.planned.ensures c.requires

pub returns : goal.returns
returns c = c.planned_record.ensures ∙ ap plan_raw c.planned.ensures ∙ plan-is _ c.requires
