-- A number type's record holds head and nothing else, which is exact (B15).
use mathlib.Core.Path.{refl, ap}
use native.Mathlib.Omega.{arith}
use lib.ListN.{replicate}
use Rattle.law_table.proofs.Exact.{sheet-key, number-exact}
use Rattle.table_record.specs.Store.{raw_of}
use Rattle.table_record.specs.declared.Head.{Head}
use Rattle.sheet_read_type.proofs.Stored.{methods-blank}
use Rattle.spec_model.specs.Table.{max_methods}
use Rattle.sheet_read_type.proofs.number_type.Goals as goal

pub returns-clause-exact : goal.returns-clause-exact
returns-clause-exact c =
    let q = c.requires in
    let h = c.sheet_head.ensures in
    let none = c.empty.result in
    let x = raw_of (record { head = c.sheet_head.result; methods = replicate max_methods none }) in
    let rep = ap (λ (z : Head). z.rep) h in
    λ m n i l. number-exact m n i x refl (sheet-key n i x l (ap (λ (z : Head). z.kind) h) (ap (λ (z : Head). z.left) h) (ap (λ (z : Head). z.right) h))
    (λ z. omega (arith, rep, z, q.0)) (omega (arith, rep, q.1)) (ap (λ (z : Head). z.own) h) (λ j k. (methods-blank none c.empty.ensures).rest j (omega arith) k)
