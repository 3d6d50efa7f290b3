-- What is read at a number that counts is the record that stands there (`place_found`).
use Rattle.std.proofs.Common.{sym, ◌∙◌, arith}
use Rattle.state_bytes.specs.Flat.{place_count}
use Rattle.state_bytes.specs.Records.{places_from}
use Rattle.state_bytes.proofs.Laws.{place_found}
use Rattle.state_bytes_check.proofs.BytesHeld.place.Goals as goal

pub returns : goal.returns
unfolding places_from
returns c = let s = c.args.self.now in
    c.place_from.ensures ∙ sym (place_found s.places.now (place_count s.counts.now) c.args.p c.requires.0 (omega (arith, c.requires.0, c.requires.1)))
