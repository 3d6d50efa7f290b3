-- One law for each way in which it returns: the heads break the rule, two numbers, two references.
use native.Mathlib.Omega.{arith}
use Rattle.relation_found.specs.Found.{marks_in, queue_in}
use Rattle.relation_search.proofs.Types.{types-broke, types-numbers, types-methods}
use Rattle.relation_states.specs.Asked.{relation_of}
use Rattle.relation_search.proofs.find_types.Goals as goal

pub get_head-x-requires : goal.get_head-x-requires
get_head-x-requires c = omega (arith, c.requires.3, c.requires.2.limits.types)

pub get_head-y-requires : goal.get_head-y-requires
get_head-y-requires c = omega (arith, c.requires.4, c.requires.2.limits.types)

pub outer_rule-requires : goal.outer_rule-requires
outer_rule-requires c = c.requires.2

pub returns-then-not-outer_rule : goal.returns-then-not-outer_rule
returns-then-not-outer_rule c =
    let a = c.args in
    let pre = c.requires in
    let x = c.get_head-x in
    let y = c.get_head-y in
    let fine = c.outer_rule in
    types-broke a.b.now a.l.now a.c (relation_of a.k) a.a a.d pre.3 pre.4 x.result y.result x.ensures y.ensures fine.result
    (fine.ensures a.b.now) a.c.types c.if-not-outer_rule.true

pub returns-then-x-ne-REF : goal.returns-then-x-ne-REF
returns-then-x-ne-REF c =
    let a = c.args in
    let pre = c.requires in
    let x = c.get_head-x in
    let y = c.get_head-y in
    let fine = c.outer_rule in
    types-numbers a.b.now a.l.now a.c (relation_of a.k) a.a a.d pre.3 pre.4 x.result y.result x.ensures y.ensures fine.result
    (fine.ensures a.b.now) c.if-not-outer_rule.false
    a.c.types (marks_in a.found.now) (queue_in a.found.now) a.tail c.if-x-ne-REF.true pre.0

pub find_methods-requires : goal.find_methods-requires
find_methods-requires c =
    let pre = c.requires in
    (pre.0, pre.1, omega (arith, pre.3, pre.2.limits.types), omega (arith, pre.4, pre.2.limits.types), pre.2.limits.methods)

pub returns : goal.returns
returns c =
    let a = c.args in
    let pre = c.requires in
    let x = c.get_head-x in
    let y = c.get_head-y in
    let fine = c.outer_rule in
    let m = c.find_methods in
    types-methods a.b.now a.l.now a.c (relation_of a.k) a.a a.d pre.3 pre.4 x.result y.result x.ensures y.ensures fine.result
    (fine.ensures a.b.now) c.if-not-outer_rule.false
    a.c.types (marks_in a.found.now) (queue_in a.found.now) a.tail (marks_in m.new.found) (queue_in m.new.found)
    m.result c.if-x-ne-REF.false m.ensures
