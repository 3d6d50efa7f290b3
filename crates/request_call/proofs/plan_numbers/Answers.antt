-- Refused, or passed where all are numbers: each is a case of `Passes`.
use mathlib.Core.Path.{refl, ap, ◌∙◌}
use native.Mathlib.Omega.{arith}
use Rattle.std.specs.Prelude.{Ok}
use Rattle.std.proofs.lemmas.Result.{err_from_is_err_and}
use Rattle.state_record.specs.Whole.{whole}
use Rattle.state_places.specs.Behind.{layers_in}
use Rattle.crossing_targets.specs.Targets.{call_layers_in}
use Rattle.request_value.specs.Sent.{arguments_of}
use Rattle.request_call.proofs.Calling.{owner_at, place_here, place-low, call-layers-met, planned-goes, numbers-refuse, numbers-add}
use Rattle.request_call.proofs.plan_numbers.Goals as goal

pub layers_of-layers-requires : goal.layers_of-layers-requires
layers_of-layers-requires c = let a = c.args in let s = whole a.types.now a.s.now in (
  c.requires.0.descending,
  place-low s c.requires.0 a.k c.requires.3 a.c c.requires.5 c.from.result c.from.ensures,
)

pub call_layers-ls-requires : goal.call_layers-ls-requires
call_layers-ls-requires c = c.layers_of-layers.ensures.few

pub pass_numbers-requires : goal.pass_numbers-requires
pass_numbers-requires c = (c.requires.0.checked.limits, omega (arith, c.call_layers-ls.ensures.1, c.layers_of-layers.ensures.few))

pub returns-in_err-met : goal.returns-in_err-met
returns-in_err-met c =
    let a = c.args in let s = whole a.types.now a.s.now in let p = err_from_is_err_and c.from_residual.result c.from_residual.ensures.1 in
    rw (p.1, p.2) (numbers-refuse s a.who a.k a.m (arguments_of a.x) a.vs.now c.from.result (place_here s c.requires.0 a.k c.requires.3 a.c c.requires.5 c.from.result c.from.ensures)
    (call_layers_in c.call_layers-ls.result) (call-layers-met s c.requires.0 a.k c.requires.3 a.c c.requires.5 c.from.result c.from.ensures (layers_in c.layers_of-layers.result) (call_layers_in c.call_layers-ls.result) c.layers_of-layers.ensures.are c.call_layers-ls.ensures.0)
    c.pass_numbers.result (c.pass_numbers.ensures s (owner_at s a.k) refl refl) _ c.in_err-met.was)

pub returns : goal.returns
returns c =
    let a = c.args in let s = whole a.types.now a.s.now in
    planned-goes s a.vs.now a.who a.k a.m _ a.x c.in_ok-met.met (c.requires.1, c.requires.2, c.requires.3, c.requires.4)
    (λ y. numbers-add s a.who a.k a.m (arguments_of a.x) a.vs.now c.from.result (place_here s c.requires.0 a.k c.requires.3 a.c c.requires.5 c.from.result c.from.ensures)
    (call_layers_in c.call_layers-ls.result) (call-layers-met s c.requires.0 a.k c.requires.3 a.c c.requires.5 c.from.result c.from.ensures (layers_in c.layers_of-layers.result) (call_layers_in c.call_layers-ls.result) c.layers_of-layers.ensures.are c.call_layers-ls.ensures.0)
    c.pass_numbers.result (c.pass_numbers.ensures s (owner_at s a.k) refl refl) (c.in_ok-met.was ∙ ap Ok y) _ c.layers_of-layers.ensures.adapters)
