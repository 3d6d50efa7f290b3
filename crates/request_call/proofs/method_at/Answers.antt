-- A number type has no methods; a reference type's is read from its record.
use native.Mathlib.Omega.{arith}
use Rattle.request_call.proofs.Laws.{method-none, method-some}
use Rattle.request_call.proofs.method_at.Goals as goal

pub get_head-h-requires : goal.get_head-h-requires
get_head-h-requires c = omega (arith, c.requires.0.types, c.requires.1)

pub returns-then-h-ne-REF : goal.returns-then-h-ne-REF
returns-then-h-ne-REF c = λ l. method-none c.args.types.now l c.args.c c.args.t
    c.args.m c.requires.1 c.get_head-h.result c.get_head-h.ensures
    c.empty.result c.if-h-ne-REF.true c.empty.ensures

pub get_method-requires : goal.get_method-requires
get_method-requires c = (
  omega (arith, c.requires.0.types, c.requires.1),
  omega
      (arith, c.requires.0.methods, c.requires.2),
)

pub returns : goal.returns
returns c = λ l. method-some c.args.types.now l c.args.c c.args.t
    c.args.m c.requires.1 c.get_head-h.result c.get_head-h.ensures
    c.get_method.result c.if-h-ne-REF.false c.requires.2 c.get_method.ensures
