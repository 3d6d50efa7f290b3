-- An operand is one space and a signed number: nothing there, another byte, or the space, one law for each case (P10).
use Rattle.std.proofs.Common.{◌<◌, length, arith}
use Rattle.script_read_request.proofs.Laws.{operand-none, operand-other, operand-space}
use Rattle.script_read_request.proofs.operand_at.Goals as goal

pub returns-then-at-l-clause-is : goal.returns-then-at-l-clause-is
returns-then-at-l-clause-is c = operand-none _ _ c.if-at-l.true

pub returns-then-l-at-ne32-clause-is : goal.returns-then-l-at-ne32-clause-is
returns-then-l-at-ne32-clause-is c = let h : c.args.at < length c.args.l.now = omega arith in operand-other _ _ h c.if-l-at-ne32.true

pub returns-clause-is : goal.returns-clause-is
returns-clause-is c = let h : c.args.at < length c.args.l.now = omega arith in operand-space _ _ h _ c.if-l-at-ne32.false c.integer_at.ensures.is
