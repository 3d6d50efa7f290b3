use mathlib.Core.Path.{◌≡◌, refl, ◌∙◌}
use native.Mathlib.Omega.{arith}
use lib.ListN.{length}
use borrow.Author.Rules.{rules}
use Rattle.table_record.specs.Store.{table_in}
use Rattle.table_record.proofs.Tables.{size_is}
use Rattle.relation_states.specs.Asked.{relation_of}
use Rattle.relation_found.specs.Found.{marks_in, queue_in}
use Rattle.relation_found.proofs.Pairs.{fits}
use Rattle.relation_search.proofs.Loop.{start-at, again, broken, ended}
use Rattle.relation_search.proofs.search_in.Goals as goal

pub overflow_mul-t : goal.overflow_mul-t
overflow_mul-t c = let pre = c.requires in omega (arith, pre.1.limits.types, pre.2)

pub overflow_add-t : goal.overflow_add-t
overflow_add-t c = let pre = c.requires in omega (arith, pre.1.limits.types, pre.2, pre.3)

pub add_pair-tail-requires : goal.add_pair-tail-requires
add_pair-tail-requires c =
    let pre = c.requires in
    (omega (arith, pre.2, pre.4.long), omega (arith, pre.1.limits.types, pre.2, pre.3, pre.4.long), pre.4.few)

pub loop-head-init : goal.loop-head-init
loop-head-init c =
    let a = c.args in
    let pre = c.requires in
    let root = c.add_pair-tail in (
      refl,
      start-at (relation_of a.k) (table_in a.b.now a.l.now a.c) a.c.types a.t a.s (size_is a.b.now a.l.now a.c) a.found.now root.new.found
          root.result pre.4 root.ensures pre.1.limits.types pre.2 pre.3,
    )

pub find_next-requires : goal.find_next-requires
find_next-requires c = let pre = c.requires in (c.loop-head.invariant.1.listed, pre.0, pre.1, c.loop-head-test.true)

pub returns-in_default : goal.returns-in_default
returns-in_default c =
    let a = c.args in
    let loop = c.loop-head in
    broken (relation_of a.k) (table_in a.b.now a.l.now a.c) a.c.types a.t a.s (size_is a.b.now a.l.now a.c) (marks_in loop.found)
    (queue_in loop.found) loop.tail loop.head loop.invariant.1
    c.loop-head-test.true (rw c.in_default.is at c.find_next.ensures)

pub overflow_add-head : goal.overflow_add-head
overflow_add-head c =
    let loop = c.loop-head in
    let n = c.args.c.types in
    let f = fits n (marks_in loop.found) (queue_in loop.found) loop.tail loop.invariant.1.listed in
    omega (arith, c.loop-head-test.true)

pub loop-head-smaller : goal.loop-head-smaller
loop-head-smaller c =
    let loop = c.loop-head in
    let n = c.args.c.types in
    let f = fits n (marks_in loop.found) (queue_in loop.found) loop.tail loop.invariant.1.listed in
    omega (arith, c.loop-head-test.true)

pub loop-head-preserved : goal.loop-head-preserved
loop-head-preserved c =
    let a = c.args in
    let loop = c.loop-head in
    let next = c.find_next in
    let e : length next.new.found ≡ length loop.found = search rules in (
      e ∙ loop.invariant.0,
      again (relation_of a.k) (table_in a.b.now a.l.now a.c) a.c.types a.t a.s (size_is a.b.now a.l.now a.c) (marks_in loop.found)
          (queue_in loop.found) loop.tail loop.head loop.invariant.1
          c.loop-head-test.true (marks_in next.new.found) (queue_in next.new.found) c.in-Some.r
          (rw c.in-Some.is at next.ensures),
    )

pub returns : goal.returns
returns c =
    let a = c.args in
    let loop = c.loop-head in
    ended (relation_of a.k) (table_in a.b.now a.l.now a.c) a.c.types a.t a.s (size_is a.b.now a.l.now a.c) (marks_in loop.found)
    (queue_in loop.found) loop.tail loop.head loop.invariant.1 c.loop-head-test.false
