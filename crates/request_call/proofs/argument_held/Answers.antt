-- A number is not looked at; a reference is one that is held.
use mir.Facts.{to_z-of_z}
use mathlib.Core.Path.{refl}
use Rattle.spec_model.specs.Requests.{held}
use Rattle.state_record.specs.View.{system_in}
use Rattle.request_call.proofs.Laws.{number-held, reference-held}
use Rattle.state_record.specs.Whole.{whole}
use Rattle.request_call.proofs.argument_held.Goals as goal

pub names_ref-requires : goal.names_ref-requires
names_ref-requires c = c.requires.checked.limits.types

pub returns-then-not-names_ref : goal.returns-then-not-names_ref
returns-then-not-names_ref c = λ subject w. number-held (whole c.args.types.now c.args.s.now)
    c.args.a c.names_ref.result
    c.names_ref.ensures c.if-not-names_ref.true (held
    (system_in (whole c.args.types.now c.args.s.now)) subject
    c.args.v)

pub is_held-requires : goal.is_held-requires
is_held-requires c = c.requires.cell_count

pub returns : goal.returns
returns c = λ subject w. reference-held (whole c.args.types.now c.args.s.now)
    c.args.a
    c.names_ref.result c.names_ref.ensures c.if-not-names_ref.false c.is_held.result
    (held (system_in (whole c.args.types.now c.args.s.now)) subject
    c.args.v)
    (rw (to_z-of_z c.ranges.v) at (c.is_held.ensures
    (whole c.args.types.now c.args.s.now) subject refl w))
