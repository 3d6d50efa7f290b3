-- Four stores in a row are one store of the call's bytes; no other call's change.
use mathlib.Core.Path.{ap, ◌∙◌}
use mathlib.Core.List.{[], ◌∷◌}
use Prim.Native.Nat.{ℕ, ◌*◌}
use lib.Seq.{sets}
use Rattle.state_bytes.proofs.Rows.{four}
use Rattle.state_bytes.specs.Flat.{call_size}
use Rattle.state_bytes.proofs.put_call.Goals as goal

pub returns : goal.returns
returns c = let a = c.args in four a.b.now (a.j * call_size) a.c.caller a.c.cell a.c.method c.from.result
    ∙ ap (λ (v : ℕ). sets a.b.now (a.j * call_size) (a.c.caller ∷ a.c.cell ∷ a.c.method ∷ v ∷ [])) c.from.ensures
