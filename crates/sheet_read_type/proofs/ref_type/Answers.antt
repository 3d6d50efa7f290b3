-- The own flag and the methods in turn (`step-no`, `step_ok`): the record made of them means the definition's type and is exact (B13).
use mathlib.Core.List.{map}
use mathlib.Core.Path.{◌≡◌, ap, ◌∙◌}
use Prim.Native.Nat.{◌≤◌}
use native.Mathlib.Omega.{arith}
use lib.ListN.{length, drop, take, length-map}
use Rattle.std.proofs.Common.{rules}
use Rattle.std.specs.Prelude.{Ok, Err}
use Rattle.spec_model.specs.Table.{Ty, max_methods}
use Rattle.spec_model.specs.Relations.{bit}
use Rattle.spec_model.specs.Check.{rep_of, type_of}
use Rattle.law_table.proofs.Exact.{sheet-key, ref-exact}
use Rattle.table_record.specs.Store.{raw_of, raw_method}
use Rattle.table_record.specs.declared.Head.{Head}
use Rattle.spec_sheet.specs.Lines.{split, got}
use Rattle.spec_sheet.specs.Sheet.{sheet_type}
use Rattle.text_read.specs.View.{reading_by}
use Rattle.sheet_read_type.proofs.Readings.{read_no, read_ok, ok_has, members-of, after_own, after_methods, step-no, step_ok}
use Rattle.sheet_read_type.proofs.Stored.{methods-all, ref-means, one-bit, bit-small}
use Rattle.sheet_read_type.specs.View.{method_is, MethodsExact}
use Rattle.sheet_read_type.proofs.ref_type.Goals as goal

pub returns-in_err-own-clause-is : goal.returns-in_err-own-clause-is
returns-in_err-own-clause-is c =
    let a = c.args in
    let s = a.s.now in
    let o = c.next_own in
    let x = c.in_err-own.field-0.0 in
    let w : c.from_residual.result ≡ Err x = search rules in
    λ i h. ap (reading_by (λ t. type_of a.m a.n i (raw_of t)) s) w
    ∙ step-no (after_own a.m a.n a.cat) (members-of a.m a.n a.cat a.c.at (split (drop a.c.at s))) (read_no (λ b. b) s o.result _ o.ensures x c.in_err-own.was)

pub returns-in_err-methods-clause-is : goal.returns-in_err-methods-clause-is
returns-in_err-methods-clause-is c =
    let a = c.args in
    let s = a.s.now in
    let o = c.next_own in
    let g = c.methods_at in
    let x = c.in_err-methods.field-0.0 in
    let w : c.from_residual-in_err-methods.result ≡ Err x = search rules in
    let q : o.result ≡ Ok (c.in_ok-own.own, c.in_ok-own.c) = search rules in
    λ i h. ap (reading_by (λ t. type_of a.m a.n i (raw_of t)) s) w
    ∙ step-no (after_methods a.cat c.in_ok-own.own)
    (step_ok (after_own a.m a.n a.cat) (members-of a.m a.n a.cat a.c.at (split (drop a.c.at s))) (read_ok (λ b. b) s o.result _ o.ensures _ _ q))
    (read_no (λ l. map method_is (take a.m l)) s g.result _ g.ensures.is x c.in_err-methods.was)

pub returns-clause-is : goal.returns-clause-is
returns-clause-is c =
    let a = c.args in
    let s = a.s.now in
    let o = c.next_own in
    let own = c.in_ok-own.own in
    let q : o.result ≡ Ok (own, c.in_ok-own.c) = search rules in
    let g = c.methods_at in
    let list = c.in_ok-methods.methods in
    let next = c.in_ok-methods.c in
    let w : g.result ≡ Ok (list, next) = search rules in
    let long = (ok_has (λ r. MethodsExact a.m r.0 × (length r.0 ≡ max_methods)) g.result list next w g.ensures.exact).1 in
    let few : a.m ≤ length list = omega (arith, long, c.requires.1) in
    let head = c.sheet_head-head.ensures in
    let x = raw_of (record { head = c.sheet_head-head.result; methods = list }) in
    let methods = map method_is (take a.m list) in
    λ i h. ap (λ (z : Ty). got z next.at (split (drop next.at s)))
    (ref-means a.m a.n i x h a.cat (bit own) methods (ap (λ (z : Head). z.rep) head) (ap (λ (z : Head). z.cat) head) (ap (λ (z : Head). z.own) head)
    (methods-all list a.m few) ∙ ap (λ z. sheet_type (rep_of 0) a.cat z methods) (one-bit own))
    ∙ step_ok (after_methods a.cat own)
    (step_ok (after_own a.m a.n a.cat) (members-of a.m a.n a.cat a.c.at (split (drop a.c.at s))) (read_ok (λ b. b) s o.result _ o.ensures _ _ q))
    (read_ok (λ l. map method_is (take a.m l)) s g.result _ g.ensures.is list next w)

pub returns-clause-exact : goal.returns-clause-exact
returns-clause-exact c =
    let a = c.args in
    let own = c.in_ok-own.own in
    let g = c.methods_at in
    let list = c.in_ok-methods.methods in
    let w : g.result ≡ Ok (list, c.in_ok-methods.c) = search rules in
    let exact = ok_has (λ r. MethodsExact a.m r.0 × (length r.0 ≡ max_methods)) g.result list c.in_ok-methods.c w g.ensures.exact in
    let head = c.sheet_head-head.ensures in
    let x = raw_of (record { head = c.sheet_head-head.result; methods = list }) in
    λ i h. ref-exact a.m a.n i x (length-map list raw_method ∙ exact.1)
    (sheet-key a.n i x h (ap (λ (z : Head). z.kind) head) (ap (λ (z : Head). z.left) head) (ap (λ (z : Head). z.right) head))
    (ap (λ (z : Head). z.rep) head) (omega (arith, ap (λ (z : Head). z.own) head, bit-small own)) exact.0.exact exact.0.rest
