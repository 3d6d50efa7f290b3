-- The tests of C3 to C7 in their order.
use mathlib.Core.Path.{sym, ◌∙◌}
use native.Mathlib.Omega.{arith}
use Rattle.state_record.specs.Whole.{whole}
use Rattle.state_record.proofs.Kept.{sound-few}
use Rattle.request_call.proofs.Calling.{type-here, type-low, planned-as, held-not-callable, held-wrong-values, held-calls-full, held-goes}
use Rattle.request_call.proofs.plan_held.Goals as goal

pub at-c-requires : goal.at-c-requires
at-c-requires c = omega (arith, c.requires.2, c.requires.0.cell_count)

pub method_at-x-requires : goal.method_at-x-requires
method_at-x-requires c = let a = c.args in let s = whole a.types.now a.s.now in (
  c.requires.0.checked.limits,
  type-low s c.requires.0 a.k c.requires.2 c.at-c.result (c.at-c.ensures.1 c.requires.2) c.from.result c.from.ensures,
  c.requires.3,
)

pub returns-then-x-ne-AVAIL : goal.returns-then-x-ne-AVAIL
returns-then-x-ne-AVAIL c = λ subject w.
    let a = c.args in let s = whole a.types.now a.s.now in
    (held-not-callable s subject a.k a.m a.vs.now c.from.result (type-here s c.requires.0 a.k c.requires.2 c.at-c.result (c.at-c.ensures.1 c.requires.2) c.from.result c.from.ensures)
    c.method_at-x.result c.method_at-x.ensures c.if-x-ne-AVAIL.true)

pub arguments_held-requires : goal.arguments_held-requires
arguments_held-requires c = c.requires.0

pub returns-then-not-arguments_held : goal.returns-then-not-arguments_held
returns-then-not-arguments_held c = λ subject w.
    let a = c.args in let s = whole a.types.now a.s.now in
    (held-wrong-values s subject a.k a.m a.vs.now c.from.result (type-here s c.requires.0 a.k c.requires.2 c.at-c.result (c.at-c.ensures.1 c.requires.2) c.from.result c.from.ensures)
    c.method_at-x.result c.method_at-x.ensures c.if-x-ne-AVAIL.false (sym (c.arguments_held.ensures subject w) ∙ c.if-not-arguments_held.true))

pub made_by-requires : goal.made_by-requires
made_by-requires c = sound-few _ c.requires.0

pub returns-then-made_by-ge-CALLS_EACH : goal.returns-then-made_by-ge-CALLS_EACH
returns-then-made_by-ge-CALLS_EACH c = λ subject w.
    let a = c.args in let s = whole a.types.now a.s.now in
    (held-calls-full s subject a.k a.m a.vs.now c.from.result (type-here s c.requires.0 a.k c.requires.2 c.at-c.result (c.at-c.ensures.1 c.requires.2) c.from.result c.from.ensures)
    c.method_at-x.result c.method_at-x.ensures c.if-x-ne-AVAIL.false (sym (c.arguments_held.ensures subject w) ∙ c.if-not-arguments_held.false)
    a.who w c.made_by.result c.made_by.ensures c.if-made_by-ge-CALLS_EACH.true)

pub plan_numbers-requires : goal.plan_numbers-requires
plan_numbers-requires c = (
  c.requires.0,
  (c.requires.1, omega (arith, c.made_by.ensures, c.if-made_by-ge-CALLS_EACH.false)),
  omega (arith, c.requires.1, c.requires.0.checked.limits.subjects),
  c.requires.2,
  c.requires.3,
  c.at-c.ensures.1 c.requires.2,
)

pub returns : goal.returns
returns c = λ subject w.
    let a = c.args in let s = whole a.types.now a.s.now in
    planned-as s a.vs.now
    (held-goes s subject a.k a.m a.vs.now c.from.result (type-here s c.requires.0 a.k c.requires.2 c.at-c.result (c.at-c.ensures.1 c.requires.2) c.from.result c.from.ensures)
    c.method_at-x.result c.method_at-x.ensures c.if-x-ne-AVAIL.false (sym (c.arguments_held.ensures subject w) ∙ c.if-not-arguments_held.false)
    a.who w c.made_by.result c.made_by.ensures c.if-made_by-ge-CALLS_EACH.false)
    c.plan_numbers.result c.plan_numbers.ensures
