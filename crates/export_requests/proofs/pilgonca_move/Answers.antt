-- Its operands are the request; a signed number is kept as 64 bits (`to_z-of_z`).
use mathlib.Core.Path.{refl}
use mir.Facts.{to_z-of_z}
use Rattle.spec_model.specs.Requests.{move}
use Rattle.export_requests.proofs.pilgonca_move.Goals as goal

pub returns : goal.returns
returns c =
    let a = c.args in
    let f = c.ranges in
    c.serve_bytes.ensures (move a.subject a.cell a.receiver a.to) (rw (to_z-of_z f.subject, to_z-of_z f.cell, to_z-of_z f.receiver, to_z-of_z f.to) refl)
