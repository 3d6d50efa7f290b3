use mathlib.Core.List.{[]}
use mathlib.Core.Path.{◌≡◌, ap, sym, ◌∙◌}
use Prim.Native.Nat.{ℕ, ◌<◌, ◌+◌, ◌-◌}
use native.Mathlib.Numerals.{add-one}
use native.Mathlib.Omega.{arith}
use lib.ListN.{length, drop}
use Rattle.std.proofs.Common.{rules}
use Rattle.std.specs.Prelude.{Ok, Err}
use Rattle.spec_model.specs.Check.{type_of}
use Rattle.spec_model.specs.Table.{max_types}
use Rattle.table_record.proofs.Laws.{types-length, put-types}
use Rattle.table_record.proofs.Tables.{types-to-length}
use Rattle.table_record.specs.Records.{type_bytes}
use Rattle.table_record.specs.Store.{types_in, types_to, raw_of, TypeExact}
use Rattle.spec_sheet.specs.Lines.{split, times, got}
use Rattle.spec_sheet.specs.Sheet.{one_type}
use Rattle.sheet_read_type.specs.View.{done_by}
use Rattle.sheet_read_type.proofs.Readings.{read_no, read_ok, ok_has, times-done, times-stop, times-next}
use Rattle.sheet_read_type.proofs.Stored.{types-none, types-next, empty-types, types-room, types-stored, type-record}
use Rattle.sheet_read_type.proofs.types_into.Goals as goal

pub loop-i-init : goal.loop-i-init
loop-i-init c =
    let a = c.args in
    let e : a.n - 0 ≡ a.n = omega arith in
    let p = one_type a.m a.cats a.n in
    let rs = split (drop a.c.at a.s.now) in
    let none = types-none a.m a.n (types_in a.b.now) in
    (c.requires.3 ∙ empty-types ∙ ap type_bytes (sym none), ap (λ z. times p (a.n - 0) 0 z a.c.at rs) none ∙ ap (λ (z : ℕ). times p z 0 [] a.c.at rs) e)

pub returns-in_err-t-clause-is : goal.returns-in_err-t-clause-is
returns-in_err-t-clause-is c =
    let a = c.args in
    let p = c.loop-i in
    let g = c.one_type in
    let e = c.in_err-t.field-0.0 in
    let w : c.from_residual.result ≡ Err e = search rules in
    ap (done_by a.s.now (types_to a.m a.n a.n (types_in p.b))) w
    ∙ times-stop (one_type a.m a.cats a.n) a.n p.i p.i (types_to a.m a.n p.i (types_in p.b)) p.at.at (split (drop p.at.at a.s.now)) _ p.invariant.1 c.loop-i-test.true _ e.at
    (read_no (λ t. type_of a.m a.n p.i (raw_of t)) a.s.now g.result _ g.ensures.is e c.in_err-t.was)

pub put_type-requires : goal.put_type-requires
put_type-requires c =
    let a = c.args in
    let p = c.loop-i in
    let ts = types_to a.m a.n p.i (types_in p.b) in
    let l : length ts ≡ p.i = types-to-length a.m a.n (types_in p.b) p.i in
    (omega (arith, c.requires.2, c.loop-i-test.true), ap length p.invariant.0 ∙ types-room ts (omega (arith, c.requires.2, c.loop-i-test.true)))

pub loop-i-preserved : goal.loop-i-preserved
loop-i-preserved c =
    let a = c.args in
    let p = c.loop-i in
    let g = c.one_type in
    let t = c.in_ok-t.t in
    let next = c.in_ok-t.next in
    let w : g.result ≡ Ok (t, next) = search rules in
    let x = raw_of t in
    let bs = types_in p.b in
    let ts = types_to a.m a.n p.i bs in
    let small : p.i < max_types = omega (arith, c.requires.2, c.loop-i-test.true) in
    let l : length ts ≡ p.i = types-to-length a.m a.n bs p.i in
    let k : p.i < length bs = omega (arith, types-length p.b) in
    let put = put-types c.put_type.ensures (ap length p.invariant.0 ∙ types-room ts (omega arith)) small in
    let one = ap (types_to a.m a.n (p.i + 1)) put ∙ types-next a.m a.n p.i bs x k in (
      types-stored ts (type_of a.m a.n p.i x) p.i x p.b _ l small p.invariant.0
          (type-record a.m a.n p.i x (ok_has (λ r. TypeExact a.m a.n p.i (raw_of r.0)) g.result t next w g.ensures.exact)) c.put_type.ensures.bytes ∙ ap type_bytes (sym one),
      times-next (one_type a.m a.cats a.n) a.n p.i p.i ts p.at.at (split (drop p.at.at a.s.now)) _ p.invariant.1 c.loop-i-test.true
          (type_of a.m a.n p.i x) next.at (split (drop next.at a.s.now)) (p.i + 1) _
          (read_ok (λ t. type_of a.m a.n p.i (raw_of t)) a.s.now g.result _ g.ensures.is t next w) (add-one p.i) one,
    )

pub returns-clause-is : goal.returns-clause-is
returns-clause-is c =
    let a = c.args in
    let p = c.loop-i in
    let ts = types_to a.m a.n p.i (types_in p.b) in
    let e : p.i ≡ a.n = omega arith in
    ap (λ (z : ℕ). got (types_to a.m a.n z (types_in p.b)) p.at.at (split (drop p.at.at a.s.now))) (sym e)
    ∙ times-done (one_type a.m a.cats a.n) a.n p.i p.i ts p.at.at (split (drop p.at.at a.s.now)) _ p.invariant.1 c.loop-i-test.false
