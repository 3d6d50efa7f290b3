-- A refused argument ends it (`through-stops`); else the call is added (`through-adds`).
use mathlib.Core.Path.{refl}
use Rattle.std.proofs.lemmas.Result.{err_from_is_err_and}
use native.Mathlib.Omega.{arith}
use Rattle.state_record.specs.Whole.{whole}
use Rattle.state_record.proofs.Kept.{sound-room}
use Rattle.request_common.specs.Served.{done}
use Rattle.state_places.specs.Behind.{layers_in}
use Rattle.crossing_targets.specs.Targets.{call_layers_in}
use Rattle.request_call.proofs.Calling.{call-byte, place_here, place-low, call-layers-met, type-low, through-stops, through-room, through-adds}
use Rattle.request_value.specs.Sent.{arguments_of}
use Rattle.request_call.proofs.call_through.Goals as goal

pub at-c-requires : goal.at-c-requires
at-c-requires c = omega (arith, c.requires.3, c.requires.0.cell_count)

pub base_owner-owner-requires : goal.base_owner-owner-requires
base_owner-owner-requires c = let a = c.args in let s = whole a.types.now a.s.now in (
  c.requires.0.descending,
  place-low s c.requires.0 a.k c.requires.3 c.at-c.result (c.at-c.ensures.1 c.requires.3) c.from-p.result
      c.from-p.ensures,
)

pub layers_of-layers-requires : goal.layers_of-layers-requires
layers_of-layers-requires c = let a = c.args in let s = whole a.types.now a.s.now in (
  c.requires.0.descending,
  place-low s c.requires.0 a.k c.requires.3 c.at-c.result (c.at-c.ensures.1 c.requires.3)
      c.from-p.result c.from-p.ensures,
)

pub call_layers-ls-requires : goal.call_layers-ls-requires
call_layers-ls-requires c = c.layers_of-layers.ensures.few

pub send_arguments-requires : goal.send_arguments-requires
send_arguments-requires c =
    let a = c.args in let s = whole a.types.now a.s.now in
    let p = place-low s c.requires.0 a.k c.requires.3 c.at-c.result (c.at-c.ensures.1 c.requires.3) c.from-p.result
    c.from-p.ensures in
    let t = type-low s c.requires.0 a.k c.requires.3 c.at-c.result (c.at-c.ensures.1 c.requires.3) _ refl in
    (c.requires.0, omega (arith, p), omega (arith, t), c.base_owner-owner.ensures.1, omega (arith, c.call_layers-ls.ensures.1, c.layers_of-layers.ensures.few))

pub returns-in_err-send_arguments : goal.returns-in_err-send_arguments
returns-in_err-send_arguments c =
    let p = err_from_is_err_and c.from_residual.result c.from_residual.ensures.1 in
    let a = c.args in let s = whole a.types.now a.s.now in
    rw (p.1, p.2) (through-stops s c.requires.0 a.who a.k a.m (arguments_of a.x) a.vs.now c.from-p.result (place_here s c.requires.0 a.k c.requires.3 c.at-c.result (c.at-c.ensures.1 c.requires.3) c.from-p.result
    c.from-p.ensures)
    c.base_owner-owner.result c.base_owner-owner.ensures.0 (call_layers_in c.call_layers-ls.result)
    (call-layers-met s c.requires.0 a.k c.requires.3 c.at-c.result (c.at-c.ensures.1 c.requires.3) c.from-p.result c.from-p.ensures (layers_in c.layers_of-layers.result) (call_layers_in c.call_layers-ls.result) c.layers_of-layers.ensures.are c.call_layers-ls.ensures.0)
    (done c.send_arguments.new.types c.send_arguments.new.s c.send_arguments.result) c.send_arguments.ensures
    _ c.in_err-send_arguments.was)

pub adapters_of-adapters-requires : goal.adapters_of-adapters-requires
adapters_of-adapters-requires c =
    let a = c.args in let s = whole a.types.now a.s.now in (
      c.requires.0.descending,
      place-low s c.requires.0 a.k c.requires.3 c.at-c.result (c.at-c.ensures.1 c.requires.3) c.from-p.result
          c.from-p.ensures,
    )

pub add_call-answer-requires : goal.add_call-answer-requires
add_call-answer-requires c =
    let a = c.args in let s = whole a.types.now a.s.now in
    let g = through-room s c.requires.0 a.who a.k a.m (arguments_of a.x) a.vs.now c.from-p.result (place_here s c.requires.0 a.k c.requires.3 c.at-c.result (c.at-c.ensures.1 c.requires.3) c.from-p.result
    c.from-p.ensures)
    c.base_owner-owner.result c.base_owner-owner.ensures.0
    (call_layers_in c.call_layers-ls.result)
    (call-layers-met s c.requires.0 a.k c.requires.3 c.at-c.result (c.at-c.ensures.1 c.requires.3) c.from-p.result c.from-p.ensures (layers_in c.layers_of-layers.result) (call_layers_in c.call_layers-ls.result) c.layers_of-layers.ensures.are c.call_layers-ls.ensures.0)
    (done c.send_arguments.new.types c.send_arguments.new.s c.send_arguments.result)
    c.send_arguments.ensures c.requires.1 c.requires.2 c.requires.3 c.requires.4 in
    let b = call-byte (whole c.send_arguments.new.types c.send_arguments.new.s) g.0 a.who
    g.1 a.k a.m 0 g.3 g.4 in
    (sound-room _ g.0 a.who g.1, g.2, b.0, b.1)

pub returns : goal.returns
returns c =
    let a = c.args in let s = whole a.types.now a.s.now in
    let g = through-room s c.requires.0 a.who a.k a.m (arguments_of a.x) a.vs.now c.from-p.result (place_here s c.requires.0 a.k c.requires.3 c.at-c.result (c.at-c.ensures.1 c.requires.3) c.from-p.result
    c.from-p.ensures)
    c.base_owner-owner.result
    c.base_owner-owner.ensures.0 (call_layers_in c.call_layers-ls.result)
    (call-layers-met s c.requires.0 a.k c.requires.3 c.at-c.result (c.at-c.ensures.1 c.requires.3) c.from-p.result c.from-p.ensures (layers_in c.layers_of-layers.result) (call_layers_in c.call_layers-ls.result) c.layers_of-layers.ensures.are c.call_layers-ls.ensures.0)
    (done c.send_arguments.new.types c.send_arguments.new.s c.send_arguments.result)
    c.send_arguments.ensures c.requires.1 c.requires.2 c.requires.3 c.requires.4 in
    through-adds s c.requires.0 a.who a.k a.m (arguments_of a.x) a.vs.now c.from-p.result (place_here s c.requires.0 a.k c.requires.3 c.at-c.result (c.at-c.ensures.1 c.requires.3) c.from-p.result
    c.from-p.ensures)
    c.base_owner-owner.result c.base_owner-owner.ensures.0
    (call_layers_in c.call_layers-ls.result)
    (call-layers-met s c.requires.0 a.k c.requires.3 c.at-c.result (c.at-c.ensures.1 c.requires.3) c.from-p.result c.from-p.ensures (layers_in c.layers_of-layers.result) (call_layers_in c.call_layers-ls.result) c.layers_of-layers.ensures.are c.call_layers-ls.ensures.0)
    (done c.send_arguments.new.types c.send_arguments.new.s c.send_arguments.result)
    c.send_arguments.ensures
    _ c.in_ok-send_arguments.was
    c.adapters_of-adapters.result c.adapters_of-adapters.ensures _
    (c.add_call-answer.ensures c.send_arguments.new.types g.0 g.1 g.3 g.4)
