-- No such method or a number type, a method that is not permitted, and the answer's code.
use mathlib.Core.Path.{ap, sym, ◌∙◌}
use Prim.Native.Nat.{suc}
use mir.Facts.{to_z-of_z}
use Rattle.state_offers.proofs.Laws.{step-unknown, step-number, step-off, step-on, code-less}
use Rattle.state_offers.proofs.after_method.Goals as goal
use Rattle.state_offers.proofs.after_method.Goals.{then-c-m-via-then-c-m, then-c-m-via-else-c-m+then-not-names_ref}

pub returns-then-c-m : goal.returns-then-c-m
returns-then-c-m c =
    let a = c.args in
    λ l. elim c.then-c-m.branch [
      | then-c-m-via-then-c-m w ↦ step-unknown a.types.now l a.c a.t a.z c.index_of-m.result (rw (to_z-of_z c.ranges.z) at c.index_of-m.ensures) w.if-c-m.true
      | then-c-m-via-else-c-m+then-not-names_ref w ↦ step-number a.types.now l a.c a.t a.z c.index_of-m.result
          (rw (to_z-of_z c.ranges.z) at c.index_of-m.ensures) w.if-c-m.false (sym w.names_ref.ensures ∙ w.if-not-names_ref.true)
    ]

pub returns-then-not-permits : goal.returns-then-not-permits
returns-then-not-permits c = let a = c.args in
    λ l. step-off a.types.now l a.c a.t a.z c.index_of-m.result
    (rw (to_z-of_z c.ranges.z) at c.index_of-m.ensures)
    c.if-c-m.false (sym c.names_ref.ensures ∙ c.if-not-names_ref.false) c.get_method-x.result c.get_method-x.ensures (sym c.permits.ensures ∙ c.if-not-permits.true)

pub returns : goal.returns
returns c = let a = c.args in
    λ l. code-less _ _ c.checked_sub.ensures ∙ ap suc c.from.ensures
    ∙ step-on a.types.now l a.c a.t a.z c.index_of-m.result
    (rw (to_z-of_z c.ranges.z) at c.index_of-m.ensures)
    c.if-c-m.false (sym c.names_ref.ensures ∙ c.if-not-names_ref.false) c.get_method-x.result c.get_method-x.ensures (sym c.permits.ensures ∙ c.if-not-permits.false)
