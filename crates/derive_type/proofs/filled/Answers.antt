-- A method of the new type from its slots' bytes: bare where it is not permitted, else with as many arguments as the shorter side, all in four places.
use mathlib.Core.Path.{◌≡◌, sym, ap, ◌∙◌, subst}
use Prim.Native.Nat.{ℕ}
use lib.ListN.{length}
use Rattle.spec_model.specs.Records.{argument_slots}
use Rattle.table_record.specs.Store.{kind_is, raw_method}
use Rattle.derive_type.specs.NewType.{signed_method}
use Rattle.derive_type.proofs.Laws.{Made, bare-made, signed-made}
use borrow.Author.Rules.{rules}
use Rattle.derive_type.proofs.filled.Goals as goal

pub returns-then-permits : goal.returns-then-permits
returns-then-permits c = let a = c.args in let s = c.state_of-state in
    let l : length a.args ≡ argument_slots = search rules in
    let lp : length a.p.args ≡ argument_slots = search rules in
    let lq : length a.q.args ≡ argument_slots = search rules in
    let made = subst (Made (kind_is a.kind) (raw_method a.p) (raw_method a.q) s.result s.ensures.0 s.ensures.1 a.args a.answer)
    (ap (λ (n : ℕ). signed_method s.result n a.args a.answer) (sym c.shared_count.ensures) ∙ sym c.signed.ensures)
    (signed-made (kind_is a.kind) (raw_method a.p) (raw_method a.q) s.result s.ensures.0 s.ensures.1 a.args a.answer
    (sym c.permits.ensures ∙ c.if-permits.true) l lp lq) in
    record { is = made.0; exact = made.1.0; coded = made.1.1 }

pub returns-else-permits : goal.returns-else-permits
returns-else-permits c = let a = c.args in let s = c.state_of-state in
    let made = subst (Made (kind_is a.kind) (raw_method a.p) (raw_method a.q) s.result s.ensures.0 s.ensures.1 a.args a.answer) (sym c.unsigned.ensures)
    (bare-made (kind_is a.kind) (raw_method a.p) (raw_method a.q) s.result s.ensures.0 s.ensures.1 a.args a.answer
    (sym c.permits.ensures ∙ c.if-permits.false)) in
    record { is = made.0; exact = made.1.0; coded = made.1.1 }
