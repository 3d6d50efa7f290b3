-- The parts are the model's check (`accepted-is`).
use Rattle.std.proofs.Common.{sym, ◌∙◌}
use Rattle.state_record.specs.Whole.{whole}
use Rattle.state_check.proofs.Laws.{accepted-is}
use Rattle.state_check.proofs.state_fits.Goals as goal

pub returns : goal.returns
returns c = c.held_fits.ensures ∙ sym (accepted-is (whole c.args.types.now c.args.s))
