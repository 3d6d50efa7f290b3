use Rattle.std.proofs.Common.{◌≡◌, ◌<◌, ◌≤◌, ◌∙◌, length, take, arith, rules, w64}
use mir.Facts.{to_z-of_z}
use mir.Val.{SFits}
use lib.ListN.{length-set}
use Rattle.script_read_request.specs.Asked.{max_operands}
use Rattle.script_read_request.proofs.Laws.{operands-many, operands_end, operands-more, taken, reads}
use Rattle.script_read_request.proofs.request_at.Goals as goal

pub returns-in_default : goal.returns-in_default
returns-in_default c =
    let a = c.args in
    let p = c.loop-count in
    let t = c.operand_at in
    let few : p.count ≤ max_operands = omega arith in
    let e = operands_end a.l.now p.items p.count p.i _ p.invariant.left c.loop-count-test.true t.result t.ensures.is c.in_default.is in
    reads a.l.now a.at a.code p.items p.count p.i e few p.invariant.size c.right_at.result
    (c.right_at.ensures (take p.count p.items) (taken a.l.now a.at a.code p.items p.count p.i e few p.invariant.size))

pub loop-count-preserved : goal.loop-count-preserved
loop-count-preserved c =
    let a = c.args in
    let p = c.loop-count in
    let t = c.operand_at in
    let v = c.in-Some.v in
    let z : SFits w64 v = search rules in
    let k : p.count < length p.items = omega (arith, c.loop-count-test.true, p.invariant.size) in
    rw (to_z-of_z z) (record {
      inside = c.in-Some.ensures.within;
      size = length-set p.items p.count v ∙ p.invariant.size;
      left = operands-more a.l.now p.items p.count p.i _ p.invariant.left c.loop-count-test.true t.result t.ensures.is k v _ c.in-Some.is;
    })

pub returns : goal.returns
returns c =
    let a = c.args in
    let p = c.loop-count in
    let all : p.count ≡ max_operands = omega (arith, c.loop-count-test.false, p.auto.count-end) in
    let e = rw all at (operands-many a.l.now p.items p.count p.i _ p.invariant.left c.loop-count-test.false) in
    reads a.l.now a.at a.code p.items max_operands p.i e (omega arith) p.invariant.size c.right_at-2.result
    (c.right_at-2.ensures (take max_operands p.items) (taken a.l.now a.at a.code p.items max_operands p.i e (omega arith) p.invariant.size))
