-- Its operands are the request, two or three of them (`answer-is`); a signed number is kept as 64 bits (`to_z-of_z`).
use mathlib.Core.Path.{sym}
use lib.Seq.{length-take-le}
use mir.Facts.{to_z-of_z}
use borrow.Author.Rules.{rules}
use Rattle.spec_model.specs.Requests.{answer}
use Rattle.request_operands.specs.Given.{given_in}
use Rattle.request_operands.proofs.Listing.{answer-few, answer-is}
use Rattle.export_requests.proofs.pilgonca_answer.Goals as goal

pub slice_bounds-ops-end : goal.slice_bounds-ops-end
slice_bounds-ops-end c =
    search (rules, answer-few c.args.given c.answer_count-n.result c.answer_count-n.ensures)

pub slice_bounds-serve_bytes-end : goal.slice_bounds-serve_bytes-end
slice_bounds-serve_bytes-end c = let a = c.args in
    sym (length-take-le c.answer_count-n.result _ (answer-few a.given c.answer_count-n.result c.answer_count-n.ensures))

pub returns : goal.returns
returns c =
    let a = c.args in
    let f = c.ranges in
    c.serve_bytes.ensures (answer a.subject a.call (given_in a.given a.value))
    (rw (to_z-of_z f.subject, to_z-of_z f.call, to_z-of_z f.value) (answer-is a.given c.answer_count-n.result c.answer_count-n.ensures a.subject a.call a.value))
