use Rattle.std.proofs.Common.{sym, ◌∙◌, ◌+◌, ◌*◌, get_or, arith}
use Rattle.table_check_links.proofs.Each.{rest-next, rest-broken}
use Rattle.state_bytes.proofs.Codes.{CallFits, calls-each, call-fits, calls-end, too_large, small-enough}
use Rattle.state_bytes.specs.Flat.{call_size}
use Rattle.state_bytes.proofs.call_codes.Goals as goal

pub loop-j-init : goal.loop-j-init
loop-j-init c = calls-each c.args.b.now c.args.count

pub returns-then-b-j-gt1 : goal.returns-then-b-j-gt1
returns-then-b-j-gt1 c =
    let l = c.loop-j in
    sym
    (l.invariant ∙ rest-broken (CallFits c.args.b.now) c.args.count l.j
    (omega (arith, c.loop-j-test.true, c.min-n.ensures))
    (call-fits c.args.b.now l.j (omega (arith, c.loop-j-test.true, c.min-n.ensures)) ∙ too_large (get_or c.args.b.now (c.loop-j.j * call_size + 3) 0) c.if-b-j-gt1.true))

pub loop-j-preserved : goal.loop-j-preserved
loop-j-preserved c =
    let l = c.loop-j in
    l.invariant ∙ rest-next (CallFits c.args.b.now) c.args.count l.j
    (omega (arith, c.loop-j-test.true, c.min-n.ensures))
    (call-fits c.args.b.now l.j (omega (arith, c.loop-j-test.true, c.min-n.ensures)) ∙ small-enough (get_or c.args.b.now (c.loop-j.j * call_size + 3) 0) c.if-b-j-gt1.false)

pub returns : goal.returns
returns c =
    let l = c.loop-j in
    sym (l.invariant ∙ calls-end c.args.b.now c.args.count l.j (omega (arith, c.loop-j-test.false, l.auto.j-end, c.min-n.ensures)))
