-- A number without a sign is itself, unless past the largest 64-bit number (P9).
use Rattle.script_read_request.proofs.Laws.{signed, plus-past, plus-right}
use Rattle.script_read_request.proofs.unsigned.Goals as goal

pub returns-then-n-ge-HALF : goal.returns-then-n-ge-HALF
returns-then-n-ge-HALF c = λ r. plus-past _ r c.if-n-ge-HALF.true

pub returns : goal.returns
returns c = λ r. plus-right _ r c.if-n-ge-HALF.false _ (signed c.args.n c.if-n-ge-HALF.false)
