use Rattle.std.proofs.Common.{sym, ◌∙◌, ◌*◌, get_or, arith}
use Rattle.table_check_links.proofs.Each.{rest-next, rest-broken}
use Rattle.state_bytes.proofs.Codes.{PlaceFits, places-each, place-fits, places-end, too_large, small-enough}
use Rattle.state_bytes.specs.Flat.{place_size}
use Rattle.state_bytes.proofs.place_codes.Goals as goal

pub loop-p-init : goal.loop-p-init
loop-p-init c = places-each c.args.b.now c.args.count

pub returns-then-b-p-gt1 : goal.returns-then-b-p-gt1
returns-then-b-p-gt1 c =
    let l = c.loop-p in
    sym
    (l.invariant ∙ rest-broken (PlaceFits c.args.b.now) c.args.count l.p
    (omega (arith, c.loop-p-test.true, c.min-n.ensures))
    (place-fits c.args.b.now l.p (omega (arith, c.loop-p-test.true, c.min-n.ensures)) ∙ too_large (get_or c.args.b.now (c.loop-p.p * place_size) 0) c.if-b-p-gt1.true))

pub loop-p-preserved : goal.loop-p-preserved
loop-p-preserved c =
    let l = c.loop-p in
    l.invariant ∙ rest-next (PlaceFits c.args.b.now) c.args.count l.p
    (omega (arith, c.loop-p-test.true, c.min-n.ensures))
    (place-fits c.args.b.now l.p (omega (arith, c.loop-p-test.true, c.min-n.ensures)) ∙ small-enough (get_or c.args.b.now (c.loop-p.p * place_size) 0) c.if-b-p-gt1.false)

pub returns : goal.returns
returns c =
    let l = c.loop-p in
    sym (l.invariant ∙ places-end c.args.b.now c.args.count l.p (omega (arith, c.loop-p-test.false, l.auto.p-end, c.min-n.ensures)))
