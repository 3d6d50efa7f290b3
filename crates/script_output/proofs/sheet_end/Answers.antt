-- The cursor either passes a row or stands in front of a last line that no LF ends (`Rows`).
use Rattle.script_output.proofs.Rows.{next-within, end-starts, end-cut, end-here, end-next, end-all}
use Rattle.text_cursor.proofs.Laws.{line-stayed}
use native.Mathlib.Omega.{arith}
use Rattle.script_output.proofs.sheet_end.Goals as goal

pub loop-at-init : goal.loop-at-init
loop-at-init c = (omega arith, end-starts c.args.s.now)

pub returns-then-next-at : goal.returns-then-next-at
returns-then-next-at c =
    let s = c.args.s.now in
    let loop = c.loop-at in
    let n = c.next_line-d.ensures in
    let h = line-stayed s loop.at _ n (omega (arith, c.if-next-at.true)) in
    record { is = end-cut s loop.at _ h c.loop-at-test.true _ n loop.invariant.1 c.if-next-at.true; within = omega arith }

pub between-l-requires : goal.between-l-requires
between-l-requires c = c.next_line-d.ensures

pub returns-then-is_word : goal.returns-then-is_word
returns-then-is_word c =
    let s = c.args.s.now in
    let loop = c.loop-at in
    let n = c.next_line-d.ensures in
    let h = c.between-l.ensures in
    let k = c.loop-at-test.true in
    let g = c.if-next-at.false in
    record {
      is = end-here s loop.at _ h k _ n loop.invariant.1 c.is_word.result g c.is_word.ensures c.if-is_word.true;
      within = (next-within s loop.at _ h k _ n g).1;
    }

pub loop-at-smaller : goal.loop-at-smaller
loop-at-smaller c =
    let s = c.args.s.now in
    let loop = c.loop-at in
    let w = next-within s loop.at _ c.between-l.ensures c.loop-at-test.true _ c.next_line-d.ensures c.if-next-at.false in
    omega (arith, w.0, w.1)

pub loop-at-preserved : goal.loop-at-preserved
loop-at-preserved c =
    let s = c.args.s.now in
    let loop = c.loop-at in
    let n = c.next_line-d.ensures in
    let h = c.between-l.ensures in
    let k = c.loop-at-test.true in
    let g = c.if-next-at.false in
    ((next-within s loop.at _ h k _ n g).1, end-next s loop.at _ h k _ n loop.invariant.1 c.is_word.result g c.is_word.ensures c.if-is_word.false)

pub returns : goal.returns
returns c =
    let loop = c.loop-at in
    record { is = end-all c.args.s.now loop.at loop.invariant.0 c.loop-at-test.false loop.invariant.1; within = loop.invariant.0 }
