-- Nothing is left behind any other operands than the two of an answer (P8, P10).
use Rattle.std.proofs.Common.{◌∙◌}
use Rattle.script_read_request.proofs.Laws.{same-empty, end_other}
use Rattle.script_read_request.proofs.ends.Goals as goal
use Rattle.script_read_request.proofs.ends.Goals.{in_default-via-in-Answer+in_default, in_default-via-in_default}

pub returns-in_default : goal.returns-in_default
returns-in_default c =
    let a = c.args in
    λ ws n. same-empty a.l.now a.at c.requires ∙ end_other _ a.code a.count
    (elim c.in_default.branch [ in_default-via-in-Answer+in_default w ↦ λ _ q. w.in_default.is-1.1 q | in_default-via-in_default w ↦ λ q _. w.in_default.not-Answer-0 q ]) ws n
