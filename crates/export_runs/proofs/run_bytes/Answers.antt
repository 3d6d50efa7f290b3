-- What `request_run::run` leaves of the state that the bytes mean goes back (proofs/Running); on 2 every array is as it was.
use mathlib.Core.Bool.{not}
use mathlib.Core.Path.{ap, refl, subst}
use native.Mathlib.Omega.{arith}
use Rattle.std.specs.Prelude.{Ok, Err}
use Rattle.std.proofs.lemmas.Result.{err_from_is_err_and}
use Rattle.table_check_links.proofs.Steps.{refused, passed}
use Rattle.state_record.specs.View.{raw_state}
use Rattle.state_bytes.specs.Flat.{flat}
use Rattle.request_run.specs.Requested.{run_handed}
use Rattle.request_run.specs.Ran.{room, over, Runs}
use Rattle.request_run.proofs.Laws.{some_number}
use Rattle.export_runs.proofs.Running.{run-unfit, run-refused, run-taken}
use Rattle.export_runs.proofs.run_bytes.Goals as goal

pub returns-then-not-codes_fit : goal.returns-then-not-codes_fit
returns-then-not-codes_fit c = λ served.
    let a = c.args in
    run-unfit (flat a.types.now a.links.now a.cells.now a.places.now a.calls.now a.counts.now) (room a.answers.now) a.words.now _
    (refused _ _ c.codes_fit.ensures (ap not c.if-not-codes_fit.true))

pub returns-in_err-served : goal.returns-in_err-served
returns-in_err-served c = λ served.
    let a = c.args in let ran = c.run in
    let f = flat a.types.now a.links.now a.cells.now a.places.now a.calls.now a.counts.now in
    let e = c.in_err-served.field-0.0 in
    let w = subst (λ s. Runs s a.answers.now ran.new.answers (run_handed (raw_state s) (room a.answers.now) a.words.now) (over ran.new.types ran.new.s (Err e)))
    (c.state_from-s.ensures a.types.now) c.in_err-served.ensures in
    let p = err_from_is_err_and c.from_residual.result c.from_residual.ensures.1 in
    rw (p.1, p.2) (run-refused f (room a.answers.now) a.words.now (passed _ _ c.codes_fit.ensures (ap not c.if-not-codes_fit.false))
    a.answers.now ran.new.answers (over ran.new.types ran.new.s (Err e)) w served (λ z. omega (arith, z, some_number e)))

pub returns : goal.returns
returns c = λ served.
    let a = c.args in let ran = c.run in
    let f = flat a.types.now a.links.now a.cells.now a.places.now a.calls.now a.counts.now in
    let n = c.in_ok-served.served in
    let w = subst (λ s. Runs s a.answers.now ran.new.answers (run_handed (raw_state s) (room a.answers.now) a.words.now) (over ran.new.types ran.new.s (Ok n)))
    (c.state_from-s.ensures a.types.now) c.in_ok-served.ensures in
    run-taken f (room a.answers.now) a.words.now (passed _ _ c.codes_fit.ensures (ap not c.if-not-codes_fit.false)) a.answers.now
    ran.new.answers (over ran.new.types ran.new.s (Ok n)) w served _ _ refl (c.store.ensures ran.new.types a.links.now) refl
