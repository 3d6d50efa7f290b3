-- Sub and Sup call each other; the measure is the free type numbers, 128 - n. The invariant is `Loop`: what is left of the slots comes to the whole.
use Prim.Native.Nat.{◌-◌}
use Rattle.spec_model.specs.Table.{sub, sup, max_types}
use Rattle.derive_sub_sup.proofs.Ends.{Loop}
use Rattle.derive_sub_sup.proofs.+sub_sup.Given as goal

abbrev pub decreases-sub : goal.decreases-sub
decreases-sub l = max_types - l.n

abbrev pub decreases-sup : goal.decreases-sup
decreases-sup l = max_types - l.n

abbrev pub invariant-sub-loop-k : goal.invariant-sub-loop-k
invariant-sub-loop-k l = Loop sub l.c l.n l.key.left l.key.right l.w l.fn.b l.b l.bytes l.m l.k

abbrev pub invariant-sup-loop-k : goal.invariant-sup-loop-k
invariant-sup-loop-k l = Loop sup l.c l.n l.key.left l.key.right l.w l.fn.b l.b l.bytes l.m l.k
