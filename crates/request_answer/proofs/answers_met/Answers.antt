-- The layers of the called cell, their answer types, and these from the class on.
use mathlib.Core.Path.{subst, sym}
use Prim.Native.Nat.{ℕ, ◌<◌}
use native.Mathlib.Omega.{arith}
use Rattle.state_record.specs.Whole.{whole}
use Rattle.state_places.specs.Behind.{layers_in}
use Rattle.crossing_targets.specs.Targets.{call_layers_in, targets_in}
use Rattle.request_answer.proofs.Laws.{answers-are}
use Rattle.request_answer.proofs.answers_met.Goals as goal

pub layers_of-layers-requires : goal.layers_of-layers-requires
layers_of-layers-requires c = (c.requires.0.descending, subst (λ (n : ℕ). n < c.args.s.now.places.count) (sym c.from.ensures) c.requires.1.place)

pub call_layers-ls-requires : goal.call_layers-ls-requires
call_layers-ls-requires c = c.layers_of-layers.ensures.few

pub targets_of-requires : goal.targets_of-requires
targets_of-requires c = (c.requires.0.checked.limits, omega (arith, c.call_layers-ls.ensures.1, c.layers_of-layers.ensures.few))

pub reversed-requires : goal.reversed-requires
reversed-requires c = omega (arith, c.targets_of.ensures.1, c.call_layers-ls.ensures.1, c.layers_of-layers.ensures.few)

pub returns : goal.returns
returns c = let a = c.args in let s = whole a.types.now a.s.now in (
  answers-are s a.j a.x a.c c.requires.1
      c.from.result c.from-2.result
      c.from.ensures c.from-2.ensures
      (layers_in c.layers_of-layers.result) (call_layers_in c.call_layers-ls.result)
      c.layers_of-layers.ensures.are c.call_layers-ls.ensures.0
      (targets_in c.targets_of.result) (targets_in c.reversed.result) c.targets_of.ensures.0 c.reversed.ensures.0,
  omega (arith, c.reversed.ensures.1, c.targets_of.ensures.1, c.call_layers-ls.ensures.1, c.layers_of-layers.ensures.few),
)
