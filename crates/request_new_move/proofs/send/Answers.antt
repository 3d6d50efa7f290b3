-- The crossing was refused (`sent-refused`), or what came of it becomes a cell (`sent-lands`).
use mathlib.Core.Path.{refl}
use Rattle.std.proofs.lemmas.Result.{err_from_is_err_and}
use Rattle.state_record.specs.Whole.{whole}
use Rattle.request_common.proofs.Laws.{step-refuses-kept, step-as, ty-byte, place_byte}
use Rattle.request_new_move.proofs.Laws.{sent-refused, sent-lands, sent-arrives}
use Rattle.request_new_move.proofs.send.Goals as goal

pub returns-in_err-y : goal.returns-in_err-y
returns-in_err-y c = let a = c.args in let y = c.cross in let p = err_from_is_err_and c.from_residual.result c.from_residual.ensures.1 in
    rw (p.1, p.2) (step-refuses-kept c.requires.sound y.ensures.leaves.long y.ensures.leaves.kept
    (sent-refused (whole a.types.now a.s.now) a.ps a.x c.requires y.new.types y.result y.ensures.is y.ensures.leaves _ c.in_err-y.was) refl)

pub add_cell-requires : goal.add_cell-requires
add_cell-requires c = let a = c.args in let y = c.cross in
    let w = sent-arrives (whole a.types.now a.s.now) a.ps a.x c.requires y.new.types y.result y.ensures.is y.ensures.leaves _ c.in_ok-y.was in
    (c.requires.receiver, ty-byte (whole a.types.now a.s.now) y.new.types _ _ a.x.receiver _ _ w, place_byte (whole a.types.now a.s.now) y.new.types _ _ a.x.receiver _ _ w)

pub returns : goal.returns
returns c = let a = c.args in let y = c.cross in
    step-as (sent-lands (whole a.types.now a.s.now) a.ps a.x c.requires y.new.types y.result y.ensures.is y.ensures.leaves _ c.in_ok-y.was)
    (c.add_cell.ensures a.types.now y.new.types (sent-arrives (whole a.types.now a.s.now) a.ps a.x c.requires y.new.types y.result y.ensures.is y.ensures.leaves _ c.in_ok-y.was))
