-- What comes back is the record at k, and so the counted one (`seen_at`).
use Rattle.std.proofs.Common.{◌∙◌, ap, sym}
use Rattle.state_record.proofs.Lists.{seen_at}
use Rattle.state_record.proofs.Records.at.Goals as goal

pub returns : goal.returns
returns g c =
    let t = g.T.Record in
    (c.lookup.ensures, λ h. ap t.meaning c.lookup.ensures ∙ sym (seen_at t.meaning t.blank c.args.self.now c.args.k (t.meaning t.blank) h))
