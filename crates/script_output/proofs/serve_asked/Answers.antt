-- A line that asks is served as the run's words are; a malformed one is refused with 1 and changes nothing (P11).
use Rattle.std.proofs.Common.{◌≡◌, ℕ, sym, ap, refl, ◌∙◌, take}
use Rattle.spec_model.specs.Coded.{by_code}
use Rattle.state_record.specs.Whole.{whole}
use Rattle.state_record.specs.View.{system_in}
use Rattle.request_common.proofs.Laws.{step-as}
use Rattle.request_by_code.specs.Coded.{serve_asked}
use Rattle.request_by_code.proofs.Laws.{refuses}
use Rattle.script_read_request.specs.Read.{asked_as}
use Rattle.script_output.proofs.serve_asked.Goals as goal

pub returns-in_default : goal.returns-in_default
returns-in_default c = let a = c.args in refuses (whole a.types.now a.s.now) (asked_as a.q) _ c.requires.0 (ap asked_as c.in_default.is) refl

pub returns : goal.returns
returns c =
    let a = c.args in
    let x = c.in-Some.a in
    let q : by_code c.number.result (take x.count x.items) ≡ asked_as a.q =
    ap (λ (n : ℕ). by_code n (take x.count x.items)) c.number.ensures ∙ ap asked_as (sym c.in-Some.is) in
    step-as (sym (ap (serve_asked (system_in (whole a.types.now a.s.now))) q)) c.serve_coded.ensures
