-- The part holds zeros now (`fill`), and a part that is written over is a row of stores (`sets-eq`).
use mathlib.Core.Path.{◌≡◌, refl, sym, ap, ◌∙◌}
use mathlib.Core.List.{List, ◌++◌}
use Prim.Native.Nat.{ℕ, ◌+◌, ◌-◌, ◌≤◌}
use native.Mathlib.Omega.{arith}
use lib.ListN.{length, take, drop, replicate}
use lib.Seq.{sets, sets-eq}
use Rattle.std.proofs.Common.{append_assoc}
use borrow.Rule.Slice.PartMut.{put_mid, mid_of, mid_len, Post-is}
use Rattle.table_record.specs.Layout.{spare_size, spare_bytes}
use Rattle.table_store.proofs.put_spare.Goals as goal

part-sets : (xs ys : List ℕ) (a e : ℕ) → a + length ys ≡ e → e ≤ length xs → put_mid a (e - a) xs ys ≡ sets xs a ys
part-sets xs ys a e n h =
    let fits : a + length ys ≤ length xs = omega arith in
    ap (λ (z : List ℕ). take a xs ++ (ys ++ z)) (Post-is a e xs (omega arith)) ∙ sym (append_assoc (take a xs) ys (drop e xs))
    ∙ ap (λ (m : ℕ). (take a xs ++ ys) ++ drop m xs) (sym n) ∙ sym (sets-eq ys xs a fits)

pub returns : goal.returns
returns c =
    let a = c.args in
    let b = a.b.now in
    let n : length (mid_of a.at (a.at + spare_size - a.at) b) ≡ spare_size = mid_len a.at (a.at + spare_size) b (omega arith) ∙ omega arith in
    let e : c.fill.new.self ≡ spare_bytes = c.fill.ensures.after (λ y h. h) ∙ ap (λ (k : ℕ). replicate k 0) n in
    ap (put_mid a.at (a.at + spare_size - a.at) b) e ∙ part-sets b spare_bytes a.at (a.at + spare_size) refl (omega arith)
