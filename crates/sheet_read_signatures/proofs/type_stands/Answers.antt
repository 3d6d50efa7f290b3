use mathlib.Core.Bool.{not}
use mathlib.Core.Path.{◌≡◌, ap, sym, ◌∙◌}
use Prim.Native.Nat.{ℕ}
use native.Mathlib.Omega.{arith}
use lib.ListN.{length, get_or}
use borrow.Author.Tests.{not-true}
use Rattle.spec_model.specs.Basics.{from}
use Rattle.spec_model.specs.Check.{no_raw_type, no_raw_method, method_of}
use Rattle.spec_model.specs.Table.{Method}
use Rattle.table_record.proofs.Lists.{length_from, from_first}
use Rattle.table_record.specs.Store.{types_in}
use Rattle.spec_sheet.specs.Sheet.{stands}
use Rattle.sheet_read_signatures.proofs.Laws.{all-broken, all-next, all_done, methods-ref}
use Rattle.sheet_read_signatures.specs.Signatures.{stands_at}
use Rattle.sheet_read_signatures.proofs.type_stands.Goals as goal

pub returns-then-not-method_stands : goal.returns-then-not-method_stands
returns-then-not-method_stands c =
    let a = c.args in
    let p = c.loop-j in
    let rs = types_in a.b.now in
    let x = get_or rs a.i no_raw_type in
    let f : ℕ → Method = λ j. method_of (get_or x.methods j no_raw_method) in
    let l : length (from a.m 0 f) ≡ a.m = length_from f a.m 0 in
    all-broken (stands (stands_at rs a.n)) (from a.m 0 f) p.j (method_of no_raw_method) p.invariant (omega arith)
    (ap (stands (stands_at rs a.n)) (from_first f a.m p.j (method_of no_raw_method) c.loop-j-test.true ∙ ap method_of (sym c.get_method.ensures))
    ∙ sym c.method_stands.ensures ∙ not-true c.method_stands.result (ap not c.if-not-method_stands.true))
    ∙ methods-ref (stands_at rs a.n) a.m x (sym c.is_ref.ensures ∙ c.if-not-is_ref.false)

pub loop-j-preserved : goal.loop-j-preserved
loop-j-preserved c =
    let a = c.args in
    let p = c.loop-j in
    let rs = types_in a.b.now in
    let x = get_or rs a.i no_raw_type in
    let f : ℕ → Method = λ j. method_of (get_or x.methods j no_raw_method) in
    let l : length (from a.m 0 f) ≡ a.m = length_from f a.m 0 in
    all-next (stands (stands_at rs a.n)) (from a.m 0 f) p.j (method_of no_raw_method) p.invariant (omega arith)
    (ap (stands (stands_at rs a.n)) (from_first f a.m p.j (method_of no_raw_method) c.loop-j-test.true ∙ ap method_of (sym c.get_method.ensures))
    ∙ sym c.method_stands.ensures ∙ c.if-not-method_stands.false)

pub returns : goal.returns
returns c =
    let a = c.args in
    let p = c.loop-j in
    let rs = types_in a.b.now in
    let x = get_or rs a.i no_raw_type in
    let f : ℕ → Method = λ j. method_of (get_or x.methods j no_raw_method) in
    let l : length (from a.m 0 f) ≡ a.m = length_from f a.m 0 in
    all_done (stands (stands_at rs a.n)) (from a.m 0 f) p.j (method_of no_raw_method) p.invariant (omega arith)
    ∙ methods-ref (stands_at rs a.n) a.m x (sym c.is_ref.ensures ∙ c.if-not-is_ref.false)
