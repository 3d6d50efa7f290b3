use mathlib.Core.Path.{◌≡◌, refl, ap, sym, ◌∙◌}
use mathlib.Core.Bool.{Bool, cond, ◌||◌}
use borrow.Author.Rules.{rules}
use Rattle.state_record.specs.Whole.{whole}
use Rattle.request_common.specs.Served.{done}
use Rattle.request_run.proofs.Laws.{taken_is, going-starts, going-full, going_done, going_on}
use Rattle.request_run.proofs.Small.{step_small}
use Rattle.request_run.proofs.run_checked.Goals as goal
use Rattle.request_run.proofs.run_checked.Goals.{then-loop-served-test+else-at-words, else-loop-served-test}

pub loop-served-init : goal.loop-served-init
loop-served-init c = let a = c.args in going-starts (whole a.types.now a.s.now) a.words.now a.answers.now c.requires.0

pub put_outcome-requires : goal.put_outcome-requires
put_outcome-requires c = let w = c.loop-served in let r = c.serve_at-outcome in
    (search rules, step_small (whole w.types w.s) _ (done r.new.types r.new.s r.result) w.invariant.sound r.ensures)

pub loop-served-preserved : goal.loop-served-preserved
loop-served-preserved c = let a = c.args in let w = c.loop-served in let r = c.serve_at-outcome in
    going_on (whole a.types.now a.s.now) a.words.now a.answers.now (whole w.types w.s) w.answers w.served w.at w.any w.invariant
    c.loop-served-test.true c.if-at-words.true (done r.new.types r.new.s r.result) r.ensures _
    c.put_outcome.ensures c.next-at.result c.next-at.ensures.0 c.next-at.ensures.2
    _ (ap (λ (x : Bool). w.any || x) (c.is_ok-any.ensures.value ∙ taken_is r.result))

pub returns-then-not-any : goal.returns-then-not-any
returns-then-not-any c = let a = c.args in let h = c.requires in let w = c.loop-served in
    let t : a.old.now ≡ cond w.any w.types a.types.now = h.1 ∙ sym (ap (λ (b : Bool). cond b w.types a.types.now) c.if-not-any.true) in
    elim c.loop-served-test.branch [
      | then-loop-served-test+else-at-words y ↦ going_done (whole a.types.now a.s.now) a.words.now a.answers.now (whole w.types w.s) w.answers w.served w.at w.any w.invariant y.if-at-words.false h.0 a.old.now t w.answers refl _ refl
      | else-loop-served-test y ↦ going-full (whole a.types.now a.s.now) a.words.now a.answers.now (whole w.types w.s) w.answers w.served w.at w.any w.invariant y.loop-served-test.false h.0 a.old.now t w.answers refl _ refl
    ]

pub returns-else-not-any : goal.returns-else-not-any
returns-else-not-any c = let a = c.args in let h = c.requires in let w = c.loop-served in
    let t : w.types ≡ cond w.any w.types a.types.now = sym (ap (λ (b : Bool). cond b w.types a.types.now) c.if-not-any.false) in
    elim c.loop-served-test.branch [
      | then-loop-served-test+else-at-words y ↦ going_done (whole a.types.now a.s.now) a.words.now a.answers.now (whole w.types w.s) w.answers w.served w.at w.any w.invariant y.if-at-words.false h.0 w.types t w.answers refl _ refl
      | else-loop-served-test y ↦ going-full (whole a.types.now a.s.now) a.words.now a.answers.now (whole w.types w.s) w.answers w.served w.at w.any w.invariant y.loop-served-test.false h.0 w.types t w.answers refl _ refl
    ]
