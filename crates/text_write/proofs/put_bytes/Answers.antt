use lib.ListN.{set, get_or}
use mathlib.Core.Path.{refl, ap, ◌∙◌}
use Rattle.text_write.proofs.Laws.{copy-next, copy-all}
use Rattle.text_write.proofs.put_bytes.Goals as goal

pub loop-i-init : goal.loop-i-init
loop-i-init c = refl

pub loop-i-preserved : goal.loop-i-preserved
loop-i-preserved c = let a = c.args in let l = c.loop-i in
    ap (λ z. set z l.i (get_or a.t.now l.i 0)) l.invariant ∙ copy-next a.buf.now a.t.now l.i c.loop-i-test.true c.if-n-buf.true

pub returns-after-loop-i : goal.returns-after-loop-i
returns-after-loop-i c = let a = c.args in let l = c.loop-i in
    copy-all a.buf.now a.t.now l.buf l.i l.auto.i-end c.loop-i-test.false c.if-n-buf.true l.invariant
