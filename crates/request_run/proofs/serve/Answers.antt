-- A word that names no code counts as the code of no request.
use mathlib.Core.Path.{◌≡◌, ap, ◌∙◌, sym}
use mathlib.Core.List.{List}
use Prim.Native.Nat.{ℕ}
use lib.IntN.{ℤ}
use mir.Facts.{to_z-of_z}
use Rattle.base_numbers.specs.Index.{index_of}
use Rattle.spec_model.specs.Coded.{by_code}
use Rattle.state_record.specs.Whole.{whole}
use Rattle.state_record.specs.View.{system_in}
use Rattle.request_common.proofs.Laws.{step-as}
use Rattle.request_by_code.specs.Coded.{serve_asked}
use Rattle.request_words.specs.Words.{request}
use Rattle.request_run.proofs.Laws.{code_is}
use Rattle.request_run.proofs.serve.Goals as goal

coded : (code : ℤ) (ws : List ℤ) (k : ℕ) → k ≡ index_of code 4 → by_code k ws ≡ request code ws
coded code ws k e = ap (λ (m : ℕ). by_code m ws) e ∙ code_is code ws

pub returns : goal.returns
returns c = let a = c.args in let s = whole a.types.now a.s.now in
    step-as (sym (ap (serve_asked (system_in s)) (coded a.code a.ops.now c.index_of.result (rw (to_z-of_z c.ranges.code) at c.index_of.ensures)))) c.serve_coded.ensures
