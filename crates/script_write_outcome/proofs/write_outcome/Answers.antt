-- Each case of an outcome is the definition's line.
use Rattle.std.proofs.Common.{◌≡◌, [], ◌∷◌, ap, sym, Ok, rules}
use Rattle.request_common.specs.declared.Answer.TheVariants.{Nothing}
use Rattle.request_common.specs.Outcome.{outcome_numbered}
use Rattle.script_write_outcome.specs.Outcomes.{outcome_text}
use Rattle.text_write.proofs.Laws.{lines_are}
use Rattle.script_write_outcome.proofs.Laws.{refused_is}
use Rattle.script_write_outcome.proofs.write_outcome.Goals as goal

pub returns-in-Err-clause-is : goal.returns-in-Err-clause-is
returns-in-Err-clause-is g c =
    rw c.in-Err.is (refused_is (g.E.Numbered.numbered c.in-Err.e) c.write_number.ensures.is (search rules))

pub returns-in-Ok-Nothing-clause-is : goal.returns-in-Ok-Nothing-clause-is
unfolding outcome_text
returns-in-Ok-Nothing-clause-is g c =
    let e : c.args.a ≡ Ok Nothing = search rules in lines_are (ap (λ a. outcome_text (outcome_numbered g.E.Numbered.numbered a) ∷ []) (sym e)) c.write_word.ensures.is
