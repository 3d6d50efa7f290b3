-- The theorem of the program `tiny` (P21 to P26): what stands in the buffer after the entry point (crate tiny_output, `tiny`), by its contract: `ShownOfTiny`; and after the C
-- function: `ShownOfTinyBytes`. `Every` (crate spec_tiny) says what the list is. Proof: proofs/Listed.
use Rattle.std.specs.Prelude.{◌≡◌, List, ℕ, ◌≤◌, ◌<◌, length, take, drop}
use Rattle.spec_model.specs.Basics.{refuse, ok}
use Rattle.spec_model.specs.Refusals.{short_buffer}
use Rattle.spec_sheet.specs.Text.{Written, write_text}
use Rattle.spec_tiny.specs.Tiny.{tiny_text, tiny_bytes}
use Rattle.spec_tiny.specs.Every.{Every}
use Rattle.text_write.specs.Written.{Wrote}
use Rattle.text_write.specs.Written.{written_of, WrittenIs}
use Rattle.theorem.specs.Scripted.{written_in}

-- of a buffer that was `old`
pub record Listed (old : List ℕ) (w : Written) : Type 0 where
  -- long enough: every tiny sheet in front, and behind them what was there
  pub result : tiny_bytes ≤ length old → w.result ≡ ok tiny_bytes
  pub every : tiny_bytes ≤ length old → Every (take tiny_bytes w.buffer)
  pub behind : tiny_bytes ≤ length old → drop tiny_bytes w.buffer ≡ drop tiny_bytes old
  -- too short: 4, and every byte as it was
  pub refused : length old < tiny_bytes → w.result ≡ refuse short_buffer
  pub untouched : length old < tiny_bytes → w.buffer ≡ old

abbrev pub ShownOfTiny : Type 0
ShownOfTiny = (old new : List ℕ) (r : Wrote) → written_of r new ≡ write_text tiny_text old → Listed old (written_of r new)

abbrev pub ShownOfTinyBytes : Type 0
ShownOfTinyBytes = (old new : List ℕ) (n before after : ℕ) → WrittenIs (write_text tiny_text old) n before after new → Listed old (written_in n after new)
