-- A step on a state that was taken serves (`back-serves`).
use mathlib.Core.Path.{ap, ◌∙◌}
use mathlib.Core.List.{List}
use Prim.Native.Nat.{ℕ}
use Rattle.spec_model.specs.Coded.{by_code}
use Rattle.request_common.specs.Back.{given_back}
use Rattle.request_serve.proofs.Laws.{back-serves}
use Rattle.request_serve.proofs.serve_saved.Goals as goal

pub serve_coded-r-requires : goal.serve_coded-r-requires
serve_coded-r-requires c = c.requires.0

pub returns : goal.returns
returns c =
    let a = c.args in let b = a.types.now in
    back-serves b c.serve_coded-r.new.types c.give_back.new.types a.s.now c.serve_coded-r.new.s (by_code a.code a.ops.now) c.serve_coded-r.result c.requires.0
    c.requires.1
    c.serve_coded-r.ensures (c.give_back.ensures ∙ ap (λ (x : List ℕ). given_back x c.serve_coded-r.new.types c.serve_coded-r.result) c.copied-old.ensures.0)
