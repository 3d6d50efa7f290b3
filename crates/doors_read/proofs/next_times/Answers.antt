-- A cursor that stays tells that no LF ends a line there. Else each case of the line is the same case of the reading.
use Rattle.std.proofs.Common.{◌≡◌, None, arith, rules}
use Rattle.doors_read.proofs.Lines.{no_line, wrong-line, right-line}
use Rattle.doors_read.proofs.next_times.Goals as goal

pub returns-then-d-c-clause-is : goal.returns-then-d-c-clause-is
returns-then-d-c-clause-is c =
    let d = c.next_line-d in
    no_line c.args.s.now _ d.result d.ensures (omega (arith, c.if-d-c.true))

pub returns-in_err-n-clause-is : goal.returns-in_err-n-clause-is
returns-in_err-n-clause-is c =
    let d = c.next_line-d in
    let t = c.read_times in
    let e : c.from_residual.result ≡ None = search rules in
    rw e (wrong-line _ _ d.result d.ensures (omega (arith, c.if-d-c.false)) _ c.between.ensures _ _ t.ensures.is c.in_err-n.was)

pub returns-clause-is : goal.returns-clause-is
returns-clause-is c =
    let d = c.next_line-d in
    let t = c.read_times in
    right-line _ _ d.result d.ensures (omega (arith, c.if-d-c.false)) _ c.between.ensures _ _ t.ensures.is _ c.in_ok-n.was
