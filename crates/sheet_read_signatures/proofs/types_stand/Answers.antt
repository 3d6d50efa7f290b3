use mathlib.Core.Bool.{not}
use mathlib.Core.Path.{◌≡◌, ap, sym, ◌∙◌}
use native.Mathlib.Omega.{arith}
use lib.ListN.{length}
use borrow.Author.Tests.{not-true}
use Rattle.spec_model.specs.Table.{no_type}
use Rattle.table_record.proofs.Tables.{types-to-length, types-to-at}
use Rattle.table_record.specs.Store.{types_in, types_to}
use Rattle.sheet_read_signatures.proofs.Laws.{all-broken, all-next, all_done}
use Rattle.sheet_read_signatures.specs.Signatures.{type_stands}
use Rattle.sheet_read_signatures.proofs.types_stand.Goals as goal

pub returns-then-not-type_stands : goal.returns-then-not-type_stands
returns-then-not-type_stands c =
    let a = c.args in
    let p = c.loop-i in
    let rs = types_in a.b.now in
    let ts = types_to a.m a.n a.n rs in
    let l : length ts ≡ a.n = types-to-length a.m a.n rs a.n in
    all-broken (type_stands rs a.n) ts p.i no_type p.invariant (omega arith)
    (ap (type_stands rs a.n) (types-to-at a.m a.n rs a.n p.i no_type c.loop-i-test.true) ∙ sym c.type_stands.ensures
    ∙ not-true c.type_stands.result (ap not c.if-not-type_stands.true))

pub loop-i-preserved : goal.loop-i-preserved
loop-i-preserved c =
    let a = c.args in
    let p = c.loop-i in
    let rs = types_in a.b.now in
    let ts = types_to a.m a.n a.n rs in
    let l : length ts ≡ a.n = types-to-length a.m a.n rs a.n in
    all-next (type_stands rs a.n) ts p.i no_type p.invariant (omega arith)
    (ap (type_stands rs a.n) (types-to-at a.m a.n rs a.n p.i no_type c.loop-i-test.true) ∙ sym c.type_stands.ensures ∙ c.if-not-type_stands.false)

pub returns : goal.returns
returns c =
    let a = c.args in
    let p = c.loop-i in
    let rs = types_in a.b.now in
    let ts = types_to a.m a.n a.n rs in
    let l : length ts ≡ a.n = types-to-length a.m a.n rs a.n in
    all_done (type_stands rs a.n) ts p.i no_type p.invariant (omega arith)
