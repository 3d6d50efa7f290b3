use mathlib.Core.Path.{◌≡◌, refl, ◌∙◌}
use Prim.Native.Nat.{◌<◌}
use native.Mathlib.Nat.{not-suc-le-zero}
use native.Mathlib.Omega.{arith}
use lib.ListN.{length, get_or, length-set}
use Rattle.spec_model.specs.Check.{no_raw_type}
use Rattle.table_record.specs.Store.{types_in, raw_method, raw_in}
use Rattle.table_record.proofs.Laws.{absent, methods-are, methods-length, read_is}
use Rattle.table_record.proofs.Lists.{set_next}
use Rattle.table_record.proofs.get_type.Goals as goal

pub loop-j-init : goal.loop-j-init
loop-j-init c = (refl, λ k h. absurd (not-suc-le-zero h))

pub loop-j-preserved : goal.loop-j-preserved
loop-j-preserved c = let l = c.loop-j in
    let a = c.args in
    let h : l.j < length l.methods = omega arith in (
      length-set l.methods l.j c.get_method.result ∙ l.invariant.0,
      set_next (λ k m. raw_method m ≡ raw_in a.b.now a.i k) l.methods l.j c.get_method.result absent h l.invariant.1 c.get_method.ensures,
    )

pub returns : goal.returns
returns c = let s = c.loop-j in
    let a = c.args in
    record {
      is = read_is (get_or (types_in a.b.now) a.i no_raw_type) c.get_head.result s.methods c.get_head.ensures
          (methods-are s.methods _ s.invariant.0 (methods-length a.b.now a.i c.requires) (λ k h. s.invariant.1 k (omega arith)));
      shape = s.invariant.0;
    }
