-- A turn of the loop reads a line, serves it and writes its answer (`going_on`); what is left at the end is nothing (`going_done`).
use Rattle.std.proofs.Common.{ap, ◌∙◌, cond, length}
use native.Mathlib.Omega.{arith}
use Rattle.script_output.proofs.Laws.{going-starts, going_on, going_done, next-behind, passed-line}
use Rattle.state_record.specs.Whole.{whole}
use Rattle.request_common.specs.Served.{done}
use Rattle.script_output.proofs.serve_lines.Goals as goal

pub loop-at-init : goal.loop-at-init
loop-at-init c = let a = c.args in going-starts (whole a.types.now a.s.now) a.rest.now a.buf.now c.requires.0

pub between-l-requires : goal.between-l-requires
between-l-requires c = c.next_line-d.ensures

pub serve_asked-outcome-requires : goal.serve_asked-outcome-requires
serve_asked-outcome-requires c = (c.loop-at.invariant.sound, c.read_request-q.ensures.within)

pub overflow_add-written : goal.overflow_add-written
overflow_add-written c =
    let inv = c.loop-at.invariant in
    record { fits = omega (arith, inv.few, inv.within, c.write_outcome-written.ensures.few, c.requires.1) }

pub loop-at-smaller : goal.loop-at-smaller
loop-at-smaller c =
    let rest = c.args.rest.now in
    let loop = c.loop-at in
    let h = c.between-l.ensures in
    let k = c.loop-at-test.true in
    let q = c.read_request-q in
    let s = whole loop.types loop.s in
    let r = c.serve_asked-outcome in
    let n = c.behind-at.ensures ∙ ap (λ z. cond z c.next_line-d.result.at (length rest)) c.is_some-asks.ensures ∙ passed-line rest loop.at _ h k q.result q.ensures _ c.next_line-d.ensures in
    let u = next-behind s rest loop.at _ h k q.result q.ensures (done r.new.types r.new.s r.result) r.ensures c.behind-at.result n in
    omega (arith, u.0, u.1)

pub loop-at-preserved : goal.loop-at-preserved
loop-at-preserved c =
    let a = c.args in
    let loop = c.loop-at in
    let h = c.between-l.ensures in
    let k = c.loop-at-test.true in
    let q = c.read_request-q in
    let s = whole loop.types loop.s in
    let r = c.serve_asked-outcome in
    let n = c.behind-at.ensures ∙ ap (λ z. cond z c.next_line-d.result.at (length a.rest.now)) c.is_some-asks.ensures ∙ passed-line a.rest.now loop.at _ h k q.result q.ensures _ c.next_line-d.ensures in
    let f = c.write_outcome-written.ensures in
    going_on (whole a.types.now a.s.now) a.rest.now a.buf.now s loop.buf loop.written loop.at loop.invariant _ h k q.result q.ensures
    (done r.new.types r.new.s r.result) r.ensures
    c.behind-at.result n c.min-k.ensures f.is f.few

pub returns : goal.returns
returns c =
    let a = c.args in
    let loop = c.loop-at in
    let inv = loop.invariant in
    record {
      is = going_done (whole a.types.now a.s.now) a.rest.now a.buf.now (whole loop.types loop.s) loop.buf loop.written loop.at inv c.loop-at-test.false;
      few = omega (arith, inv.few, inv.within, c.requires.1);
    }
