use mathlib.Core.List.{map}
use mathlib.Core.Path.{◌≡◌, ap, sym, ◌∙◌}
use Prim.Native.Nat.{ℕ, ◌<◌, ◌+◌}
use native.Mathlib.Numerals.{add-one}
use native.Mathlib.Omega.{arith}
use lib.ListN.{length, drop, take, length-set}
use Rattle.std.proofs.Common.{rules}
use Rattle.std.specs.Prelude.{Ok, Err}
use Rattle.text_read.specs.View.{reading_by}
use Rattle.spec_sheet.specs.Lines.{split, got}
use Rattle.sheet_read_type.proofs.Readings.{read_no, read_ok, ok_has, times-done, times-stop, times-next}
use Rattle.sheet_read_type.proofs.Stored.{methods-add, methods-put}
use Rattle.table_record.specs.Store.{MethodExact, raw_method}
use Rattle.sheet_read_type.specs.View.{method_is, each_method}
use Rattle.sheet_read_type.proofs.methods_at.Goals as goal

pub returns-in_err-x-clause-is : goal.returns-in_err-x-clause-is
returns-in_err-x-clause-is c =
    let a = c.args in
    let p = c.loop-j in
    let g = c.next_method in
    let x = c.in_err-x.field-0.0 in
    let w : c.from_residual.result ≡ Err x = search rules in
    ap (reading_by (λ l. map method_is (take a.m l)) a.s.now) w
    ∙ times-stop (each_method a.n) a.m p.j p.j (map method_is (take p.j p.list)) p.at.at (split (drop p.at.at a.s.now)) _ p.invariant.2 c.loop-j-test.true _ x.at
    (read_no method_is a.s.now g.result _ g.ensures.is x c.in_err-x.was)

pub loop-j-preserved : goal.loop-j-preserved
loop-j-preserved c =
    let a = c.args in
    let p = c.loop-j in
    let g = c.next_method in
    let x = c.in_ok-x.x in
    let next = c.in_ok-x.next in
    let w : g.result ≡ Ok (x, next) = search rules in
    let k : p.j < length p.list = omega arith in (
      length-set p.list p.j _ ∙ p.invariant.0,
      methods-put p.list p.j x p.invariant.0 (omega arith) (ok_has (λ r. MethodExact (raw_method r.0)) g.result x next w g.ensures.exact) p.invariant.1,
      times-next (each_method a.n) a.m p.j p.j (map method_is (take p.j p.list)) p.at.at (split (drop p.at.at a.s.now)) _ p.invariant.2 c.loop-j-test.true
          (method_is x) next.at (split (drop next.at a.s.now)) (p.j + 1) _ (read_ok method_is a.s.now g.result _ g.ensures.is x next w) (add-one p.j)
          (methods-add p.list p.j x k),
    )

pub returns-clause-is : goal.returns-clause-is
returns-clause-is c =
    let a = c.args in
    let p = c.loop-j in
    let e : p.j ≡ a.m = omega arith in
    ap (λ (z : ℕ). got (map method_is (take z p.list)) p.at.at (split (drop p.at.at a.s.now))) (sym e)
    ∙ times-done (each_method a.n) a.m p.j p.j (map method_is (take p.j p.list)) p.at.at (split (drop p.at.at a.s.now)) _ p.invariant.2 c.loop-j-test.false
