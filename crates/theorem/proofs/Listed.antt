-- The theorem of the program `tiny` (specs/Listed): the writer leaves the text or refuses, by the buffer's length, and the text is `Every` tiny sheet.
use mathlib.Core.Path.{◌≡◌, sym, ap, subst, ◌∙◌}
use mathlib.Core.Logic.{◌⊎◌, inl, inr}
use mathlib.Core.List.{List}
use Prim.Native.Nat.{ℕ, ◌≤◌, ◌<◌}
use native.Mathlib.Omega.{arith}
use lib.ListN.{length, take, drop, length-take}
use Rattle.spec_model.specs.Basics.{ok}
use Rattle.spec_sheet.specs.Text.{Written, write_text}
use Rattle.spec_tiny.specs.Tiny.{tiny_text, tiny_bytes}
use Rattle.spec_tiny.specs.Every.{Every}
use Rattle.spec_tiny.proofs.Count.{text-size}
use Rattle.spec_tiny.proofs.Every.{every-tiny}
use Rattle.text_write.specs.Written.{written_of}
use Rattle.theorem.specs.Scripted.{Fits, TooShort, written_in}
use Rattle.theorem.specs.Listed.{Listed, ShownOfTiny, ShownOfTinyBytes}
use Rattle.theorem.proofs.Scripted.{written, written-in}

by_length : (old : List ℕ) (w : Written) → Fits tiny_text old w ⊎ TooShort tiny_text old w → Listed old w
by_length old w (inl f) = record {
  result = λ _. f.result ∙ ap ok text-size;
  every = λ _. subst Every (sym f.front ∙ ap (λ n. take n w.buffer) text-size) every-tiny;
  behind = λ _. ap (λ n. drop n w.buffer) (sym text-size) ∙ f.behind ∙ ap (λ n. drop n old) text-size;
  refused = λ h. absurd (long h);
  untouched = λ h. absurd (long h);
}
  where
    -- there is room for the text, since it stands there
    long : length old < tiny_bytes → ⊥
    long h = let m = sym (length-take (length tiny_text) w.buffer) ∙ ap length f.front in omega (arith, m, f.size, text-size)
by_length old w (inr s) = record {
  result = λ h. absurd (short h);
  every = λ h. absurd (short h);
  behind = λ h. absurd (short h);
  refused = λ _. s.result;
  untouched = λ _. s.untouched;
}
  where
    short : tiny_bytes ≤ length old → ⊥
    short h = omega (arith, s.short, text-size)

listed : (old : List ℕ) (w : Written) → w ≡ write_text tiny_text old → Listed old w
listed old w e = subst (Listed old) (sym e) (by_length old (write_text tiny_text old) (written tiny_text old))

pub shown-of-tiny : ShownOfTiny
shown-of-tiny old new r e = listed old (written_of r new) e

pub shown-of-tiny-bytes : ShownOfTinyBytes
shown-of-tiny-bytes old new n before after w = listed old (written_in n after new) (written-in tiny_text old new n before after w)
