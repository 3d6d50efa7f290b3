-- The record added is the call asked for.
use mathlib.Core.Path.{refl}
use Rattle.state_record.specs.Whole.{whole}
use Rattle.request_call.proofs.Calling.{call-added}
use Rattle.request_call.proofs.add_call.Goals as goal

pub returns : goal.returns
returns c = λ b h may cell method. let a = c.args in
    call-added (whole b a.s.now) h a.who may a.k a.m a.adapters cell method _ refl c.add-s.result c.add-s.ensures.0 c.add-s.ensures.1
