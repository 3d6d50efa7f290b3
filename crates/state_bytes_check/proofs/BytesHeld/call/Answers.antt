-- What is read at a number that counts is the record that stands there (`call-found`).
use Rattle.std.proofs.Common.{sym, ◌∙◌, arith}
use Rattle.state_bytes.specs.Flat.{call_count}
use Rattle.state_bytes.specs.Records.{calls_from}
use Rattle.state_bytes.proofs.Laws.{call-found}
use Rattle.state_bytes_check.proofs.BytesHeld.call.Goals as goal

pub returns : goal.returns
unfolding calls_from
returns c = let s = c.args.self.now in
    c.call_from.ensures ∙ sym (call-found s.calls.now (call_count s.counts.now) c.args.j c.requires.0 (omega (arith, c.requires.0, c.requires.1)))
