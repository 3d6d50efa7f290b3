use Rattle.derive_type.proofs.Laws.{raw-methods, filling-starts, filling-next, filling-ends}
use native.Mathlib.Omega.{arith}
use Rattle.derive_type.proofs.Work.finished.Goals as goal

pub loop-j-init : goal.loop-j-init
loop-j-init c = filling-starts c.args.self.now c.args.slots.now c.args.methods c.empty-all.result c.empty-all.ensures

pub loop-j-preserved : goal.loop-j-preserved
loop-j-preserved c = let w = c.args.self.now in let l = c.loop-j in
    filling-next w c.args.slots.now l.invariant (omega arith) c.requires.2 _ _ c.filled.result (raw-methods w.left.methods l.j) (raw-methods w.right.methods l.j)
    (let m = c.filled.ensures in (m.is, (m.exact, m.coded)))

pub returns : goal.returns
returns c = filling-ends c.args.self.now c.args.slots.now c.loop-j.invariant (omega arith)
    c.new_type.result c.new_type.ensures.0 c.new_type.ensures.1
