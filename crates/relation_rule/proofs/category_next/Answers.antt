-- One law for each way in which it returns.
use mathlib.Core.Path.{◌∙◌}
use borrow.Author.Tests.{ne_eqb}
use Rattle.table_record.specs.Store.{raw_links}
use Rattle.relation_rule.proofs.Categories.{next-none, next-self, next-zero, next-out, next-first, next-second, next_one}
use Rattle.relation_rule.proofs.category_next.Goals as goal
use Rattle.relation_rule.proofs.category_next.Goals.{then-a-eq0-via-then-a-eq0, then-a-eq0-via-else-a-eq0+then-a-x, then-x-eq0-via-then-x-eq0, then-x-eq0-via-else-x-eq0+then-c-x}

pub returns-then-a-eq0 : goal.returns-then-a-eq0
returns-then-a-eq0 c =
    let a = c.args in
    elim c.then-a-eq0.branch [
      | then-a-eq0-via-then-a-eq0 w ↦ next-none a.l.now a.c a.done.now a.a a.x w.if-a-eq0.true
      | then-a-eq0-via-else-a-eq0+then-a-x w ↦ next-self a.l.now a.c a.done.now a.a a.x w.if-a-x.true
    ]

pub returns-then-x-eq0 : goal.returns-then-x-eq0
returns-then-x-eq0 c =
    let a = c.args in
    elim c.then-x-eq0.branch [
      | then-x-eq0-via-then-x-eq0 w ↦ next-zero a.l.now a.c a.done.now a.a a.x c.if-a-eq0.false c.if-a-x.false w.if-x-eq0.true
      | then-x-eq0-via-else-x-eq0+then-c-x w ↦ next-out a.l.now a.c a.done.now a.a a.x c.if-a-eq0.false c.if-a-x.false w.if-c-x.true
    ]

pub returns-then-done-from : goal.returns-then-done-from
returns-then-done-from c =
    let a = c.args in
    let k = c.get_links-k in
    c.if-done-from.true ∙ next-first a.l.now a.c a.done.now a.a a.x c.if-a-eq0.false c.if-a-x.false c.if-x-eq0.false c.if-c-x.false (raw_links k.result) k.ensures c.from.result
    c.from.ensures c.if-done-from.true

pub returns-then-k-eq2 : goal.returns-then-k-eq2
returns-then-k-eq2 c =
    let a = c.args in
    let k = c.get_links-k in
    next-second a.l.now a.c a.done.now a.a a.x c.if-a-eq0.false c.if-a-x.false c.if-x-eq0.false c.if-c-x.false (raw_links k.result) k.ensures c.from.result
    c.from-then-k-eq2.result c.from.ensures c.from-then-k-eq2.ensures c.if-done-from.false c.if-k-eq2.true

pub returns-else-k-eq2 : goal.returns-else-k-eq2
returns-else-k-eq2 c =
    let a = c.args in
    let k = c.get_links-k in
    ne_eqb k.result.count 2 c.if-k-eq2.false
    ∙ next_one a.l.now a.c a.done.now a.a a.x c.if-a-eq0.false c.if-a-x.false c.if-x-eq0.false c.if-c-x.false (raw_links k.result) k.ensures c.from.result
    c.from.ensures c.if-done-from.false c.if-k-eq2.false
