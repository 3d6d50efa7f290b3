-- One record more at the end of the list (`seen-added`); the array has N elements.
use Rattle.std.proofs.Common.{◌≡◌, ◌+◌, ◌∙◌, ap, length}
use Rattle.state_record.specs.View.{added, seen}
use Rattle.state_record.proofs.Lists.{seen-added}
use Rattle.state_record.proofs.Records.add.Goals as goal

pub returns : goal.returns
returns g c =
    let s = c.args.self in
    let t = g.T.Record in
    let n : length s.list ≡ g.row.N = c.well_formed.0.1.1.1.0.1.0.1 in
    let r : record { list = c.append.new.records; count = s.count + 1 } ≡ added s c.args.x = λ i. record { list = c.append.ensures i; count = s.count + 1 } in
    (r, ap (seen t.meaning t.blank) r ∙ seen-added t.meaning t.blank s c.args.x (rw n c.requires))
