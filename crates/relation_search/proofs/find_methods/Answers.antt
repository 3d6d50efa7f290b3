use mathlib.Core.Path.{◌≡◌, refl, ◌∙◌}
use native.Mathlib.Omega.{arith}
use lib.ListN.{length}
use borrow.Author.Rules.{rules}
use Rattle.std.specs.Prelude.{Some, None}
use Rattle.table_record.specs.Store.{method_in}
use Rattle.relation_states.specs.Asked.{relation_of}
use Rattle.relation_found.specs.Found.{marks_in, queue_in}
use Rattle.relation_search.proofs.Methods.{methods-start, methods-broke, methods-more, methods-end}
use Rattle.relation_search.proofs.find_methods.Goals as goal

pub loop-j-init : goal.loop-j-init
loop-j-init c =
    let a = c.args in
    let start = methods-start a.n (relation_of a.k) (method_in a.b.now a.a) (method_in a.b.now a.d) (marks_in a.found.now) (queue_in a.found.now) a.tail
    c.requires.0 in
    (start, refl)

pub find_method-requires : goal.find_method-requires
find_method-requires c =
    let p = c.requires in
    (c.loop-j.invariant.0.listed, p.1, p.2, p.3, omega (arith, p.4))

pub returns-in_err-t : goal.returns-in_err-t
returns-in_err-t c =
    let a = c.args in
    let e : c.from_residual.result ≡ None = search rules in
    let f : c.find_method.result ≡ None = search rules in
    rw e (methods-broke a.n (relation_of a.k) (method_in a.b.now a.a) (method_in a.b.now a.d) c.loop-j.j a.methods
    (omega arith) (rw f at c.find_method.ensures))

pub loop-j-preserved : goal.loop-j-preserved
loop-j-preserved c =
    let a = c.args in
    let loop = c.loop-j in
    let m = c.find_method in
    let f : m.result ≡ Some c.in_ok-t.t = search rules in
    let e : length m.new.found ≡ length loop.found = search rules in (
      methods-more a.n (relation_of a.k) (method_in a.b.now a.a) (method_in a.b.now a.d) loop.j
          (marks_in a.found.now) (queue_in a.found.now) a.tail (marks_in loop.found) (queue_in loop.found) loop.t loop.invariant.0
          (marks_in m.new.found) (queue_in m.new.found) c.in_ok-t.t (rw f at m.ensures),
      e ∙ loop.invariant.1,
    )

pub returns : goal.returns
returns c =
    let a = c.args in
    let loop = c.loop-j in
    methods-end a.n (relation_of a.k) (method_in a.b.now a.a) (method_in a.b.now a.d) loop.j a.methods (marks_in a.found.now) (queue_in a.found.now) a.tail
    (marks_in loop.found) (queue_in loop.found) loop.t loop.invariant.0 (omega arith) (omega arith)
