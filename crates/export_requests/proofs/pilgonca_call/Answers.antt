-- Its operands are the call with its arguments cut (`call-is`), which is owed what the call is (`handed-cut`); a signed number is kept as 64 bits (`to_z-of_z`).
use mathlib.Core.Path.{sym}
use Prim.Native.Nat.{suc}
use mir.Facts.{to_z-of_z}
use lib.ListN.{take}
use lib.Seq.{length-take-le}
use Rattle.spec_model.specs.Table.{max_arguments}
use Rattle.spec_model.specs.Requests.{call}
use Rattle.request_operands.proofs.Listing.{call-is}
use Rattle.export_requests.proofs.Cut.{handed-cut}
use Rattle.export_requests.proofs.pilgonca_call.Goals as goal

pub slice_bounds-serve_bytes-end : goal.slice_bounds-serve_bytes-end
slice_bounds-serve_bytes-end c =
    sym (length-take-le c.call_operands-o.result.count c.call_operands-o.result.items c.call_operands-o.ensures.fits)

pub returns : goal.returns
returns c =
    let a = c.args in
    let f = c.ranges in
    let is = rw (to_z-of_z f.subject, to_z-of_z f.cell, to_z-of_z f.method) at c.call_operands-o.ensures.is in
    handed-cut a.subject a.cell a.method a.arguments.now _ _ _
    (c.serve_bytes.ensures (call a.subject a.cell a.method (take (suc max_arguments) a.arguments.now)) (call-is a.subject a.cell a.method a.arguments.now _ is))
