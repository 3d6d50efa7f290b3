-- The code of none.
use mathlib.Core.Path.{refl}
use native.Mathlib.Omega.{arith}
use Rattle.state_record.specs.Whole.{whole}
use Rattle.spec_model.specs.Coded.{by_code}
use Rattle.request_by_code.proofs.Laws.{refuses, code-none}
use Rattle.request_by_code.proofs.serve_coded.Goals as goal

pub returns-in_default : goal.returns-in_default
returns-in_default c = let a = c.args in
    refuses (whole a.types.now a.s.now) (by_code a.k a.ops.now) _ c.requires
    (code-none a.k a.ops.now (λ e. omega (arith, e)) (λ e. omega (arith, e)) (λ e. omega (arith, e)) (λ e. omega (arith, e))) refl
