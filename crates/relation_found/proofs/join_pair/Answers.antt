-- One pair more: it is found already, or joins, or breaks its rule. One that is not found yet leaves room in the queue, since each pair joins once (`room`).
use mathlib.Core.Bool.{true, false}
use Prim.Native.Nat.{◌+◌, ◌*◌, ◌<◌}
use native.Mathlib.Omega.{arith}
use lib.ListN.{length}
use Rattle.relation_found.specs.Found.{marks_in, queue_in}
use Rattle.relation_found.proofs.Pairs.{pair_left, pair-right, pair-known, room}
use Rattle.relation_found.proofs.Buffer.{mark-at, buffer-length, pair-added}
use Rattle.spec_model.specs.Table.{max_types}
use Rattle.relation_found.proofs.join_pair.Goals as goal
use Rattle.relation_found.proofs.join_pair.Goals.{then-n-x-via-then-n-x, then-n-x-via-else-n-x+then-n-y}

pub returns-then-n-x : goal.returns-then-n-x
returns-then-n-x c =
    let a = c.args in
    elim c.then-n-x.branch [
      | then-n-x-via-then-n-x w ↦ pair_left a.n a.x a.y w.if-n-x.true
      | then-n-x-via-else-n-x+then-n-y w ↦ pair-right a.n a.x a.y w.if-n-y.true
    ]

pub bounds-found-p : goal.bounds-found-p
bounds-found-p c =
    let pre = c.requires in
    let e = buffer-length c.args.found.now in
    omega (arith, pre.slots, pre.small, c.if-n-x.false, c.if-n-y.false)

pub returns-then-is_found : goal.returns-then-is_found
returns-then-is_found c =
    let a = c.args in
    let pre = c.requires in
    let if1 = c.if-n-x in
    let if2 = c.if-n-y in
    let is_found = c.is_found in
    let if3 = c.if-is_found in
    let known = mark-at a.found.now (a.x * max_types + a.y) is_found.result true is_found.ensures if3.true in
    pair-known a.n (marks_in a.found.now) (queue_in a.found.now) a.tail a.x a.y pre if1.false if2.false known

pub add_pair-requires : goal.add_pair-requires
add_pair-requires c =
    let a = c.args in
    let pre = c.requires in
    let is_found = c.is_found in
    let if3 = c.if-is_found in
    let new = mark-at a.found.now (a.x * max_types + a.y) is_found.result false is_found.ensures if3.false in
    let e = buffer-length a.found.now in
    let if1 = c.if-n-x in
    let if2 = c.if-n-y in
    let at : a.x * max_types + a.y < length (marks_in a.found.now) = omega (arith, pre.slots, pre.small, if1.false, if2.false) in
    let r = room a.n (marks_in a.found.now) (queue_in a.found.now) a.tail (a.x * max_types + a.y) pre at new in
    (omega arith, omega arith, omega (arith, pre.few))

pub returns : goal.returns
returns c =
    let a = c.args in
    let pre = c.requires in
    let if1 = c.if-n-x in
    let if2 = c.if-n-y in
    let is_found = c.is_found in
    let if3 = c.if-is_found in
    let add-pair = c.add_pair in
    let new = mark-at a.found.now (a.x * max_types + a.y) is_found.result false is_found.ensures if3.false in
    pair-added a.n a.found.now a.tail a.x a.y pre if1.false if2.false new add-pair.new.found add-pair.result add-pair.ensures
