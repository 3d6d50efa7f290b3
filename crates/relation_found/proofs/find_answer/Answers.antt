-- One law for each way in which it returns.
use Rattle.relation_found.specs.Found.{marks_in, queue_in}
use Rattle.relation_found.proofs.Steps.{answers-none, answers-left, answers-right, answers-both}
use Rattle.relation_found.proofs.find_answer.Goals as goal

pub returns-then-d-eq0 : goal.returns-then-d-eq0
returns-then-d-eq0 c =
    let a = c.args in
    let pre = c.requires in
    let if1 = c.if-a-eq0 in
    let if2 = c.if-d-eq0 in
    answers-none a.n a.x a.y c.from-a.result c.from-d.result c.from-a.ensures c.from-d.ensures (marks_in a.found.now) (queue_in a.found.now) a.tail
    pre if1.true if2.true

pub returns-else-d-eq0 : goal.returns-else-d-eq0
returns-else-d-eq0 c =
    let a = c.args in
    let if1 = c.if-a-eq0 in
    let if2 = c.if-d-eq0 in
    answers-left a.n a.x a.y c.from-a.result c.from-d.result c.from-a.ensures c.from-d.ensures if1.true if2.false

pub returns-then-d-eq0-2 : goal.returns-then-d-eq0-2
returns-then-d-eq0-2 c =
    let a = c.args in
    let if1 = c.if-a-eq0 in
    let if3 = c.if-d-eq0-2 in
    answers-right a.n a.x a.y c.from-a.result c.from-d.result c.from-a.ensures c.from-d.ensures if1.false if3.true

pub find_pair-requires : goal.find_pair-requires
find_pair-requires c = c.requires

pub returns : goal.returns
returns c =
    let a = c.args in
    let find-pair = c.find_pair in
    let if1 = c.if-a-eq0 in
    let if3 = c.if-d-eq0-2 in
    answers-both a.n a.x a.y c.from-a.result c.from-d.result c.from-a.ensures c.from-d.ensures (marks_in a.found.now) (queue_in a.found.now) a.tail
    (marks_in find-pair.new.found) (queue_in find-pair.new.found) find-pair.result if1.false if3.false find-pair.ensures
