-- Rests on `unsigned-exact`: beside the state every byte is 0.
use mathlib.Core.Path.{subst, sym}
use Rattle.law_table.proofs.Exact.{unsigned-exact}
use Rattle.table_record.specs.Store.{raw_method, MethodExact}
use Rattle.table_record.specs.declared.Method.{Method}
use Rattle.sheet_read_method.proofs.unsigned.Goals as goal

pub returns-clause-exact : goal.returns-clause-exact
returns-clause-exact c =
    let with_state : Method → Method = λ m. record { state = c.args.state; count = m.count; args = m.args; answer = m.answer } in
    subst (λ (m : Method). MethodExact (raw_method (with_state m))) (sym c.empty.ensures) (unsigned-exact c.args.state c.requires.1 c.requires.0)
