-- The array says nothing yet, and has an entry for each pair of a table of so many types.
use lib.ListN.{length-replicate}
use Prim.Native.Nat.{ℕ}
use Rattle.relation_search.proofs.search_within.Goals as goal

pub search_in-requires : goal.search_in-requires
search_in-requires g c =
    let pre = c.requires in
    (pre.0, pre.1, pre.2, pre.3, record { none = rw (length-replicate {A = ℕ} g.row.N 0); long = rw (length-replicate {A = ℕ} g.row.N 0) pre.4; few = rw (length-replicate {A = ℕ} g.row.N 0) pre.5 })
