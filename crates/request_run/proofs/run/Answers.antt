-- 2 by the check; a state that passes it is sound.
use mathlib.Core.Path.{refl, sym, ◌∙◌}
use Rattle.state_record.specs.Whole.{whole}
use Rattle.state_check.proofs.Sound.{accepted-sound}
use Rattle.request_run.proofs.Laws.{handed-unfit, handed-fit}
use Rattle.request_run.proofs.run.Goals as goal

pub returns-then-not-state_fits : goal.returns-then-not-state_fits
returns-then-not-state_fits c = let a = c.args in
    handed-unfit (whole a.types.now a.s.now) a.words.now a.answers.now a.answers.now _ (sym c.state_fits.ensures ∙ c.if-not-state_fits.true) refl refl

pub run_checked-requires : goal.run_checked-requires
run_checked-requires c = let a = c.args in let old = c.copied-old in
    (accepted-sound (whole a.types.now a.s.now) (sym c.state_fits.ensures ∙ c.if-not-state_fits.false) old.ensures.1, old.ensures.0)

pub returns : goal.returns
returns c = let a = c.args in let r = c.run_checked in
    handed-fit (whole a.types.now a.s.now) a.words.now a.answers.now _ _ (sym c.state_fits.ensures ∙ c.if-not-state_fits.false) r.ensures
