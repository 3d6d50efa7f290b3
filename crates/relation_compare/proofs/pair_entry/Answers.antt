-- One law for each way in which it returns.
use Rattle.relation_compare.proofs.Laws.{entry-left, entry-right, entry-all}
use Rattle.relation_compare.proofs.pair_entry.Goals as goal
use Rattle.relation_compare.proofs.pair_entry.Goals.{then-c-t-via-then-c-t, then-c-t-via-else-c-t+then-c-s}

pub returns-then-c-t : goal.returns-then-c-t
returns-then-c-t c =
    let a = c.args in
    elim c.then-c-t.branch [
      | then-c-t-via-then-c-t w ↦ entry-left a.b.now a.l.now a.c a.t a.s w.if-c-t.true
      | then-c-t-via-else-c-t+then-c-s w ↦ entry-right a.b.now a.l.now a.c a.t a.s w.if-c-t.false w.if-c-s.true
    ]

pub comparison_at-requires : goal.comparison_at-requires
comparison_at-requires c = c.requires

pub returns : goal.returns
returns c =
    let a = c.args in
    entry-all a.b.now a.l.now a.c a.t a.s c.comparison_at.result c.pair_code.result c.if-c-t.false c.if-c-s.false c.comparison_at.ensures c.pair_code.ensures
