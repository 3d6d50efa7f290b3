-- The invariant is `Filling`: the methods so far are those that their slots make. Rests on `filling-starts`, `filling-next` and `filling-ends`.
use Rattle.derive_type.proofs.Laws.{Filling}
use Rattle.derive_type.proofs.Work.finished.Given as goal

abbrev pub invariant-loop-j : goal.invariant-loop-j
invariant-loop-j l = Filling l.self l.slots l.methods l.all l.j
