-- A pair below the rows is an entry of the array (`entry_in`), and is of the table where it is found (`pair-seen`); the rest is as in join_pair.
use mathlib.Core.Bool.{true, false}
use Prim.Native.Nat.{◌+◌, ◌*◌, ◌<◌}
use native.Mathlib.Omega.{arith}
use lib.ListN.{length}
use Rattle.spec_model.specs.Table.{max_types}
use Rattle.relation_found.specs.Found.{marks_in, queue_in}
use Rattle.relation_found.proofs.Pairs.{pair_left, pair-right, pair-seen, room}
use Rattle.relation_found.proofs.Buffer.{mark-at, buffer-length, entry_in, pair-added}
use Rattle.relation_found.proofs.find_pair.Goals as goal
use Rattle.relation_found.proofs.find_pair.Goals.{then-n-x-via-then-n-x, then-n-x-via-else-n-x+then-n-y}

pub overflow_mul-p : goal.overflow_mul-p
overflow_mul-p c =
    let a = c.args in
    let i = entry_in a.n a.found.now a.tail a.x a.y c.requires c.if-rows-x.false in
    record { fits = omega (arith, i.0) }

pub overflow_add-p : goal.overflow_add-p
overflow_add-p c =
    let a = c.args in
    let i = entry_in a.n a.found.now a.tail a.x a.y c.requires c.if-rows-x.false in
    record { fits = omega (arith, i.0, i.1) }

pub offset_bounds-found-p : goal.offset_bounds-found-p
offset_bounds-found-p c =
    let a = c.args in
    let i = entry_in a.n a.found.now a.tail a.x a.y c.requires c.if-rows-x.false in
    record { fits = omega (arith, i.0, i.1) }

pub bounds-found-p : goal.bounds-found-p
bounds-found-p c =
    let a = c.args in
    (entry_in a.n a.found.now a.tail a.x a.y c.requires c.if-rows-x.false).2

pub returns-then-is_found : goal.returns-then-is_found
returns-then-is_found c =
    let a = c.args in
    let pre = c.requires in
    let is_found = c.is_found in
    let i = entry_in a.n a.found.now a.tail a.x a.y pre c.if-rows-x.false in
    let known = mark-at a.found.now (a.x * max_types + a.y) is_found.result true is_found.ensures c.if-is_found.true in
    pair-seen a.n (marks_in a.found.now) (queue_in a.found.now) a.tail a.x a.y pre i.1 known

pub returns-then-n-x : goal.returns-then-n-x
returns-then-n-x c =
    let a = c.args in
    elim c.then-n-x.branch [
      | then-n-x-via-then-n-x w ↦ pair_left a.n a.x a.y w.if-n-x.true
      | then-n-x-via-else-n-x+then-n-y w ↦ pair-right a.n a.x a.y w.if-n-y.true
    ]

pub add_pair-requires : goal.add_pair-requires
add_pair-requires c =
    let a = c.args in
    let pre = c.requires in
    let is_found = c.is_found in
    let new = mark-at a.found.now (a.x * max_types + a.y) is_found.result false is_found.ensures c.if-is_found.false in
    let i = entry_in a.n a.found.now a.tail a.x a.y pre c.if-rows-x.false in
    let e = buffer-length a.found.now in
    let at : a.x * max_types + a.y < length (marks_in a.found.now) = omega (arith, i.2) in
    let r = room a.n (marks_in a.found.now) (queue_in a.found.now) a.tail (a.x * max_types + a.y) pre at new in
    (omega arith, i.2, omega (arith, pre.few))

pub returns : goal.returns
returns c =
    let a = c.args in
    let pre = c.requires in
    let is_found = c.is_found in
    let if2 = c.if-is_found in
    let add-pair = c.add_pair in
    let new = mark-at a.found.now (a.x * max_types + a.y) is_found.result false is_found.ensures if2.false in
    pair-added a.n a.found.now a.tail a.x a.y pre c.if-n-x.false c.if-n-y.false new
    add-pair.new.found add-pair.result add-pair.ensures
