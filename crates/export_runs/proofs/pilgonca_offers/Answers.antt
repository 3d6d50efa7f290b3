-- The C function answers as `state_offers::offers` does; on 2 the answer's place is as it was.
use mir.Facts.{to_z-of_z}
use mathlib.Core.Path.{◌≡◌, ap, ◌∙◌}
use mathlib.Core.Bool.{Bool, true, false}
use mir.Val.{bool_byte}
use Prim.Native.Nat.{ℕ}
use Rattle.spec_model.specs.Relations.{bit}
use Rattle.export_runs.specs.Results.{offered_out}
use Rattle.export_runs.proofs.pilgonca_offers.Goals as goal

bit-is : (b : Bool) (n : ℕ) → n ≡ bool_byte b → n ≡ bit b
bit-is true n e = e
bit-is false n e = e

pub returns-in-Ok : goal.returns-in-Ok
returns-in-Ok c =
    c.number_out.ensures ∙ ap (λ (n : ℕ). (0, n)) (bit-is c.in-Ok.yes c.from.result c.from.ensures)
    ∙ ap (offered_out c.args.offered.now) (rw (to_z-of_z c.ranges.cell) at c.in-Ok.ensures)

pub returns-in-Err : goal.returns-in-Err
returns-in-Err c =
    c.number_out-in-Err.ensures ∙ ap (offered_out c.args.offered.now) (rw (to_z-of_z c.ranges.cell) at c.in-Err.ensures)
