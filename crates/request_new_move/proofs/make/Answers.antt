-- The new object is one place more, behind all others, so the state stays sound (`made`).
use mathlib.Core.Path.{refl}
use Rattle.request_new_move.proofs.Laws.{made}
use Rattle.request_new_move.proofs.make.Goals as goal

pub returns : goal.returns
returns c =
    let a = c.args in
    made a.ps a.class a.owner _ _ _ c.requires.0 c.requires.1 refl refl c.add.ensures.0 c.add.ensures.1
