-- What is in the queue is a pair of the table; there are at most 16384.
use native.Mathlib.Omega.{arith}
use Rattle.relation_found.specs.Found.{marks_in, queue_in}
use Rattle.relation_found.proofs.Pairs.{counted, fits}
use Rattle.relation_found.proofs.Buffer.{queue-at, buffer-length}
use Rattle.relation_search.proofs.find_next.Goals as goal

pub offset_bounds-found-head : goal.offset_bounds-found-head
offset_bounds-found-head c = let a = c.args in let f = fits a.c.types (marks_in a.found.now) (queue_in a.found.now) a.tail c.requires.0 in omega (arith, c.requires.3)

pub bounds-found-head : goal.bounds-found-head
bounds-found-head c =
    let a = c.args in
    let pre = c.requires in
    let f = counted a.c.types (marks_in a.found.now) (queue_in a.found.now) a.tail pre.0 in
    let e = buffer-length a.found.now in
    omega (arith, pre.3)

pub find_types-requires : goal.find_types-requires
find_types-requires c =
    let a = c.args in
    let pre = c.requires in
    let o = pre.0.back a.head pre.3 in
    let e = queue-at a.found.now a.head c.from-p.result c.from-p.ensures in
    (pre.0, pre.1, pre.2, rw e at o.low, rw e at o.high)

pub returns : goal.returns
returns c =
    let a = c.args in
    rw (queue-at a.found.now a.head c.from-p.result c.from-p.ensures) c.find_types.ensures
