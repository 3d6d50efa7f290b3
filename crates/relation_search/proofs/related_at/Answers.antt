-- The search from the pair says whether it is in the largest relation; a number outside the table is in none (R3).
use Rattle.table_record.specs.Store.{table_in}
use Rattle.table_record.proofs.Tables.{size_is}
use Rattle.relation_search.proofs.Loop.{out-left, out-right}
use Rattle.relation_states.specs.Asked.{relation_of}
use Rattle.relation_search.proofs.related_at.Goals as goal
use Rattle.relation_search.proofs.related_at.Goals.{then-c-t-via-then-c-t, then-c-t-via-else-c-t+then-c-s}

pub returns-then-c-t : goal.returns-then-c-t
returns-then-c-t c =
    let a = c.args in
    elim c.then-c-t.branch [
      | then-c-t-via-then-c-t w ↦ out-left (relation_of a.k) (table_in a.b.now a.l.now a.c) a.c.types a.t a.s (size_is a.b.now a.l.now a.c) w.if-c-t.true
      | then-c-t-via-else-c-t+then-c-s w ↦ out-right (relation_of a.k) (table_in a.b.now a.l.now a.c) a.c.types a.t a.s (size_is a.b.now a.l.now a.c) w.if-c-s.true
    ]
