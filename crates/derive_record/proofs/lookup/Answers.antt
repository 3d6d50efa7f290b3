use mathlib.Core.Path.{sym, ap, ◌∙◌}
use Rattle.spec_model.specs.Restriction.{is_key}
use Rattle.table_record.specs.declared.Head.{Head}
use Rattle.table_record.specs.Store.{kind_is, types_in}
use Rattle.derive_slots.specs.Slots.{key_in}
use Rattle.derive_record.proofs.Begins.{search-starts, search-hit, search-next, search-end}
use native.Mathlib.Omega.{arith}
use Rattle.derive_record.proofs.lookup.Goals as goal

pub loop-i-init : goal.loop-i-init
loop-i-init c = let a = c.args in let k = a.key in λ ms. search-starts (kind_is k.kind) k.left k.right ms a.c.sheet a.n (types_in a.b.now) c.requires.counted

pub get_head-requires : goal.get_head-requires
get_head-requires c = omega (arith, c.requires.types)

pub returns-then-is_key : goal.returns-then-is_key
returns-then-is_key c = let a = c.args in let k = a.key in let l = c.loop-i in record {
  is = search-hit (kind_is k.kind) k.left k.right a.c.methods a.c.sheet a.n (types_in a.b.now) l.i (omega arith) (l.invariant a.c.methods) (omega arith)
      (sym c.if-is_key.true ∙ c.is_key.ensures ∙ ap (λ (h : Head). is_key (kind_is k.kind) k.left k.right (key_in h)) c.get_head.ensures);
  below = omega arith;
}

pub loop-i-preserved : goal.loop-i-preserved
loop-i-preserved c = let a = c.args in let k = a.key in let l = c.loop-i in
    λ ms. search-next (kind_is k.kind) k.left k.right ms a.c.sheet a.n (types_in a.b.now) l.i (omega arith) (l.invariant ms) (omega arith)
    (sym c.if-is_key.false ∙ c.is_key.ensures ∙ ap (λ (h : Head). is_key (kind_is k.kind) k.left k.right (key_in h)) c.get_head.ensures)

pub returns : goal.returns
returns c = let a = c.args in let k = a.key in let l = c.loop-i in record {
  is = search-end (kind_is k.kind) k.left k.right a.c.methods a.c.sheet a.n (types_in a.b.now) l.i (omega arith) (l.invariant a.c.methods) (omega arith);
  below = tt;
}
