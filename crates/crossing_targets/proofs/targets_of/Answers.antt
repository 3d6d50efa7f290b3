use mathlib.Core.Path.{◌≡◌, refl, ap, ◌∙◌}
use native.Mathlib.Omega.{arith}
use borrow.Author.Rules.{rules}
use lib.ListN.{length, length-set}
use Rattle.table_record.specs.Store.{table_in}
use Rattle.crossing_targets.specs.Targets.{option_of, slot_at, max_layers}
use Rattle.crossing_targets.proofs.Laws.{targets_next}
use Rattle.crossing_targets.proofs.targets_of.Goals as goal

pub loop-i-preserved : goal.loop-i-preserved
loop-i-preserved c =
    let a = c.args in
    let w = c.loop-i in
    let long : length a.w.list ≡ max_layers = search rules in (
      length-set w.list w.i _ ∙ w.invariant.0,
      λ l. targets_next (slot_at (table_in a.types.now l a.c) a.m a.s) w.list a.w.list w.i _ w.invariant.0 long (omega (arith, c.loop-i-test.true, c.requires.1))
          (ap option_of c.widened.ensures ∙ c.target_at.ensures l ∙ ap (slot_at (table_in a.types.now l a.c) a.m a.s) c.from.ensures) (w.invariant.1 l),
    )

pub returns : goal.returns
returns c =
    let e : c.loop-i.i ≡ c.args.w.count = omega (arith, c.loop-i-test.false, c.loop-i.auto.i-end) in
    (λ l. rw e at (c.loop-i.invariant.1 l), refl)
