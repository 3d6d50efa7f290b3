-- The crossing was refused (`send-refused`), or what arrived becomes a cell (`send-adds`).
use mir.Facts.{to_z-of_z}
use mathlib.Core.Path.{refl}
use Rattle.std.proofs.lemmas.Result.{err_from_is_err_and}
use Rattle.state_record.specs.Whole.{whole}
use Rattle.request_common.specs.Served.{done}
use Rattle.request_common.proofs.Laws.{ty-byte, place_byte}
use Rattle.spec_model.specs.Basics.{named}
use Rattle.crossing_targets.specs.Targets.{targets_in}
use Rattle.request_value.proofs.Sending.{any-cell, send-ready, send-refused, send-arrives, send-adds}
use Rattle.request_value.proofs.send.Goals as goal

pub carry-requires : goal.carry-requires
carry-requires c = let a = c.args in let h = c.requires in let s = whole a.types.now a.s.now in
    let g = send-ready s h.0 a.r (named a.v) c.named_cell-c.result (rw (to_z-of_z c.ranges.v) at c.named_cell-c.ensures) (any-cell s h.0 h.1 h.2 (named a.v))
    (targets_in a.targets) c.from.result c.from-2.result c.from.ensures c.from-2.ensures (record { checked = h.0.checked; long = h.0.long })
    in (g.0, g.1, h.4)

pub returns-in_err-x : goal.returns-in_err-x
returns-in_err-x c = let a = c.args in let h = c.requires in let s = whole a.types.now a.s.now in
    let p = err_from_is_err_and c.from_residual.result c.from_residual.ensures.1 in
    rw (p.1, p.2) (send-refused s h.0 a.r (named a.v) c.named_cell-c.result (rw (to_z-of_z c.ranges.v) at c.named_cell-c.ensures) (any-cell s h.0 h.1 h.2 (named a.v))
    (targets_in a.targets) c.from.result c.from-2.result c.from.ensures c.from-2.ensures c.carry.new.types c.carry.result c.carry.ensures.is c.carry.ensures.leaves
    _ c.in_err-x.was _ refl)

pub add_cell-requires : goal.add_cell-requires
add_cell-requires c = let a = c.args in let h = c.requires in let s = whole a.types.now a.s.now in
    let w = send-arrives s h.0 a.r (named a.v) c.named_cell-c.result (rw (to_z-of_z c.ranges.v) at c.named_cell-c.ensures) (any-cell s h.0 h.1 h.2 (named a.v))
    (targets_in a.targets) c.from.result c.from-2.result c.from.ensures c.from-2.ensures c.carry.new.types c.carry.result c.carry.ensures.is c.carry.ensures.leaves
    c.in_ok-x.x c.in_ok-x.was in
    (h.3, ty-byte s c.carry.new.types _ _ a.r _ _ w, place_byte s c.carry.new.types _ _ a.r _ _ w)

pub returns : goal.returns
returns c = let a = c.args in let h = c.requires in let s = whole a.types.now a.s.now in
    let w = send-arrives s h.0 a.r (named a.v) c.named_cell-c.result (rw (to_z-of_z c.ranges.v) at c.named_cell-c.ensures) (any-cell s h.0 h.1 h.2 (named a.v))
    (targets_in a.targets) c.from.result c.from-2.result c.from.ensures c.from-2.ensures c.carry.new.types c.carry.result c.carry.ensures.is c.carry.ensures.leaves
    c.in_ok-x.x c.in_ok-x.was in
    send-adds s h.0 a.r (named a.v) c.named_cell-c.result (rw (to_z-of_z c.ranges.v) at c.named_cell-c.ensures) (any-cell s h.0 h.1 h.2 (named a.v))
    (targets_in a.targets) c.from.result c.from-2.result c.from.ensures c.from-2.ensures c.carry.new.types c.carry.result c.carry.ensures.is c.carry.ensures.leaves
    c.in_ok-x.x c.in_ok-x.was (done c.carry.new.types c.add_cell.new.s c.add_cell.result) (c.add_cell.ensures a.types.now c.carry.new.types w)
