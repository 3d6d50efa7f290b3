-- Compare in a checked table is the model's: 7 where an index is none of the table, else the four answers at the pair.
use mir.Facts.{to_z-of_z}
use Rattle.table_record.specs.Store.{table_in}
use Rattle.table_record.proofs.Tables.{size_is}
use Rattle.relation_compare.proofs.Laws.{compare-left, compare-right, compare-all}
use Rattle.relation_compare.proofs.compare_checked.Goals as goal
use Rattle.relation_compare.proofs.compare_checked.Goals.{then-c-x-via-then-c-x, then-c-x-via-else-c-x+then-c-y}

pub returns-then-c-x : goal.returns-then-c-x
returns-then-c-x c =
    let a = c.args in
    let T = table_in a.b.now a.l.now a.c in
    let e = size_is a.b.now a.l.now a.c in
    let x = c.index_of-x in
    let y = c.index_of-y in
    let ex = rw (to_z-of_z c.ranges.t) at x.ensures in
    let ey = rw (to_z-of_z c.ranges.s) at y.ensures in
    elim c.then-c-x.branch [
      | then-c-x-via-then-c-x w ↦ compare-left T a.t a.s x.result (rw e ex) (rw e w.if-c-x.true)
      | then-c-x-via-else-c-x+then-c-y w ↦ compare-right T a.t a.s x.result (rw e ex) (rw e w.if-c-x.false) y.result (rw e ey) (rw e w.if-c-y.true)
    ]

pub comparison_at-requires : goal.comparison_at-requires
comparison_at-requires c = c.requires

pub returns : goal.returns
returns c =
    let a = c.args in
    let x = c.index_of-x in
    let y = c.index_of-y in
    let f = c.comparison_at in
    let e = size_is a.b.now a.l.now a.c in
    compare-all (table_in a.b.now a.l.now a.c) a.t a.s x.result (rw e (rw (to_z-of_z c.ranges.t) at x.ensures)) (rw e c.if-c-x.false)
    y.result (rw e (rw (to_z-of_z c.ranges.s) at y.ensures)) (rw e c.if-c-y.false) f.result f.ensures
