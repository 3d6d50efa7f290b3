-- By the code.
use Rattle.state_bytes.proofs.Laws.{is-adapter}
use Rattle.state_bytes.proofs.place_by.Goals as goal

pub returns-then-code-eq0 : goal.returns-then-code-eq0
returns-then-code-eq0 c = rw c.if-code-eq0.true

pub returns : goal.returns
returns c = is-adapter c.args.code c.args.first c.args.second c.if-code-eq0.false
