use mathlib.Core.List.{List, map}
use mathlib.Core.Path.{◌≡◌, refl, sym, ap, ◌∙◌}
use Prim.Native.Nat.{ℕ, ◌<◌, ◌*◌, ◌+◌}
use native.Mathlib.Nat.{not-suc-le-zero}
use native.Mathlib.Omega.{arith}
use lib.Seq.{sets, take_all}
use lib.ListN.{length, get_or, take, length-map, get_or-map}
use borrow.Author.Count.{below_more}
use borrow.Author.Rules.{rules}
use Rattle.spec_model.specs.Check.{RawMethod}
use Rattle.spec_model.specs.Table.{max_methods}
use Rattle.spec_model.specs.Records.{argument_slots}
use Rattle.table_record.specs.Store.{raw_method, raw_of, spare_bytes, method_bytes, methods_bytes}
use Rattle.table_record.proofs.Laws.{absent, run_more, record-parts}
use Rattle.table_record.specs.Layout.{type_size, head_numbers, head_size, method_size}
use Rattle.table_store.proofs.put_type.Goals as goal

pub loop-j-init : goal.loop-j-init
loop-j-init c = (refl, search rules, refl, λ k h. absurd (not-suc-le-zero h))

pub loop-j-preserved : goal.loop-j-preserved
loop-j-preserved c = let l = c.loop-j in
    let ms = c.args.t.methods in
    let at = c.args.i * type_size in
    let h : l.j < length (map raw_method ms) = rw (length-map ms raw_method) (omega arith) in (
      refl,
      l.invariant.1,
      run_more c.put_spare.new.b (at + head_size) (map raw_method ms) l.j l.b c.put_method.new.b h l.invariant.2
          (c.put_method.ensures.bytes ∙ ap (λ (m : RawMethod). sets l.b (at + head_size + l.j * method_size) (method_bytes m)) (sym (get_or-map raw_method ms l.j absent))),
      below_more (λ k. length (get_or ms k absent).args ≡ argument_slots) l.j l.invariant.3 c.put_method.ensures.shape,
    )

pub returns : goal.returns
returns c = let l = c.loop-j in
    let s = c in
    let a = c.args in
    let t = a.t in
    let n : length (map raw_method t.methods) ≡ max_methods = length-map t.methods raw_method ∙ l.invariant.1 in
    let whole : take l.j (map raw_method t.methods) ≡ map raw_method t.methods = take_all l.j (map raw_method t.methods) (omega arith) in
    record {
      bytes = l.invariant.2
          ∙ ap (λ (ms : List RawMethod). sets s.put_spare.new.b (a.i * type_size + head_size) (methods_bytes ms)) whole
          ∙ ap (λ (x : List ℕ). sets x (a.i * type_size + head_size) (methods_bytes (map raw_method t.methods)))
          (s.put_spare.ensures ∙ ap (λ (x : List ℕ). sets x (a.i * type_size + head_numbers) spare_bytes) s.put_head.ensures)
          ∙ record-parts a.b.now (a.i * type_size) (raw_of t);
      shaped = record { methods = n; slots = λ k h. ap (λ (m : RawMethod). length m.args) (get_or-map raw_method t.methods k absent) ∙ l.invariant.3 k (omega arith) };
    }
