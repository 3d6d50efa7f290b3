-- A number type may stand (`number-stands`), a reference type by its own flag (`reference-stands`).
use mathlib.Core.Path.{ap, sym, ◌∙◌}
use mathlib.Core.Bool.{not}
use lib.Dec.{eqb}
use lib.ListN.{get_or}
use Rattle.spec_model.specs.Check.{no_raw_type}
use Rattle.table_record.specs.Store.{types_in}
use Rattle.table_record.specs.declared.Head.{Head}
use Rattle.table_record.proofs.Codes.{number-stands, reference-stands}
use Rattle.table_record.proofs.may_stand.Goals as goal

pub returns-then-h-ne-REF : goal.returns-then-h-ne-REF
returns-then-h-ne-REF c =
    let e = c.get_head-h.ensures in
    let a = c.args in
    ap (λ (h : Head). not (eqb h.rep 0)) e
    ∙ number-stands (get_or (types_in a.b.now) a.i no_raw_type) (λ q. c.if-h-ne-REF.true (ap (λ (h : Head). h.rep) e ∙ q))

pub returns-else-h-ne-REF : goal.returns-else-h-ne-REF
returns-else-h-ne-REF c =
    let e = c.get_head-h.ensures in
    let a = c.args in
    ap (λ (h : Head). not (eqb h.own 1)) e ∙ reference-stands (get_or (types_in a.b.now) a.i no_raw_type) (sym (ap (λ (h : Head). h.rep) e) ∙ c.if-h-ne-REF.false)
