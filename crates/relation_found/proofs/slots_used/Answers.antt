-- A count above the slots uses all four, so the arguments that are looked at are those that the record means (`slots-are`).
use mathlib.Core.Path.{◌≡◌}
use native.Mathlib.Omega.{arith}
use borrow.Author.Rules.{rules}
use Prim.Native.Nat.{min}
use Rattle.relation_found.proofs.Signatures.{slots-are}
use Rattle.spec_model.specs.Records.{argument_slots}
use Rattle.relation_found.proofs.slots_used.Goals as goal

pub returns : goal.returns
returns c =
    let r : c.min.result ≡ min c.args.count argument_slots = search rules in
    (omega arith, slots-are c.args.count c.min.result r)
