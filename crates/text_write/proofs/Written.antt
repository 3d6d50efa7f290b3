-- A text and a buffer: written at once where it surely fits, else counted first on an empty part of the buffer.
use mathlib.Core.Path.{◌≡◌, sym, ap, ◌∙◌}
use mathlib.Core.Bool.{Bool, true, false, cond}
use mathlib.Core.List.{List, [], ◌++◌}
use Prim.Native.Nat.{ℕ, ◌+◌, ◌≤◌, ◌<◌}
use native.Mathlib.Omega.{arith}
use lib.Dec.{leb}
use lib.ListN.{length, take, drop, length-append}
use lib.Seq.{length-take-le}
use borrow.Author.Tests.{le-leb, lt-leb}
use Rattle.spec_model.specs.Basics.{refuse, ok}
use Rattle.spec_model.specs.Refusals.{short_buffer}
use Rattle.spec_sheet.specs.Text.{Written, write_text}
use Rattle.spec_sheet.proofs.Steps.{ok-value, refuse-ok}
use Rattle.std.specs.Prelude.{Ok, Err}
use Rattle.base_numbers.specs.declared.refusal.Refusal.TheVariants.{ShortBuffer}
use Rattle.text_write.specs.Fill.{Filled}
use Rattle.text_write.specs.Written.{Wrote, number_of, value_of, written_of, WrittenIs}
use Rattle.text_write.proofs.Laws.{counted}

pub fits-is : {new : List ℕ} {m : ℕ} (xs buf : List ℕ) → length xs ≤ length buf → Filled buf new xs m → written_of (Ok m) new ≡ write_text xs buf
unfolding write_text
fits-is xs buf k g = rw (g.said, g.text k, le-leb (length xs) (length buf) k)

-- refused, where its length is known
pub refused-is : (xs buf : List ℕ) → length buf < length xs → written_of (Err ShortBuffer) buf ≡ write_text xs buf
unfolding write_text
refused-is xs buf h = rw (lt-leb (length xs) (length buf) h)

pub short-is : {tl : List ℕ} {n : ℕ} (xs buf : List ℕ) → Filled [] tl xs n → length (tl ++ buf) < n → written_of (Err ShortBuffer) (tl ++ buf) ≡ write_text xs buf
unfolding write_text
short-is {tl} {n} xs buf f s =
    let e : tl ++ buf ≡ buf = counted f in
    let q : length (tl ++ buf) ≡ length buf = ap length e in
    let w = f.said in
    rw (e, lt-leb (length xs) (length buf) (omega arith))

pub length-is : {tl new : List ℕ} {n m : ℕ} (xs buf : List ℕ) → Filled [] tl xs n → n ≤ length (tl ++ buf) → Filled (tl ++ buf) new xs m → written_of (Ok m) new ≡ write_text xs buf
unfolding write_text
length-is {tl} {new} {n} {m} xs buf f s g =
    let e : tl ++ buf ≡ buf = counted f in
    let q : length (tl ++ buf) ≡ length buf = ap length e in
    let w = f.said in
    let k : length xs ≤ length buf = omega arith in
    rw (g.said, g.text (omega arith), e, le-leb (length xs) (length buf) k)

-- what a C function hands out, from its contract and that of `wrote_code`
pub written_is : {n old new : ℕ} (w v : Written) → w ≡ v → n ≡ number_of w.result → new ≡ value_of old w.result → WrittenIs v n old new w.buffer
written_is {n} {old} w v same number length =
    record { number = number ∙ ap (λ x. number_of x.result) same; length = length ∙ ap (λ x. value_of old x.result) same; bytes = ap (λ x. x.buffer) same }

-- for the program: what was written stands within the buffer
pub wrote-within : (w : Wrote) (n : ℕ) (xs old new : List ℕ) → w ≡ Ok n → written_of w new ≡ write_text xs old → (n ≤ length new) × (n ≡ length (take n new))
unfolding write_text
wrote-within w n xs old new e h = go (leb (length xs) (length old)) (ap (λ (z : Wrote). written_of z new) (sym e) ∙ h)
  where
    done : ok n ≡ ok (length xs) → new ≡ xs ++ drop (length xs) old → (n ≤ length new) × (n ≡ length (take n new))
    done p q =
        let a : n ≡ length xs = ok-value p in
        let b : length new ≡ length xs + length (drop (length xs) old) = ap length q ∙ length-append xs (drop (length xs) old) in
        let k : n ≤ length new = omega arith in (k, sym (length-take-le n new k))

    go : (b : Bool) → written_of (Ok n) new ≡ cond b (record { result = ok (length xs); buffer = xs ++ drop (length xs) old }) (record { result = refuse short_buffer; buffer = old })
        → (n ≤ length new) × (n ≡ length (take n new))
    go true q = done (ap (λ (z : Written). z.result) q) (ap (λ (z : Written). z.buffer) q)
    go false q = refuse-ok (sym (ap (λ (z : Written). z.result) q))
