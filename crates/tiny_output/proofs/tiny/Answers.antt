-- How long they are is known (`text-size`): a shorter buffer is refused and stays, in any other they are written.
use native.Mathlib.Omega.{arith}
use Rattle.spec_tiny.specs.Tiny.{tiny_text}
use Rattle.spec_tiny.proofs.Count.{text-size}
use Rattle.text_write.proofs.Written.{fits-is, refused-is}
use Rattle.tiny_output.proofs.tiny.Goals as goal

pub returns-then-buf-lt-PRINTED_BYTES : goal.returns-then-buf-lt-PRINTED_BYTES
returns-then-buf-lt-PRINTED_BYTES c = refused-is tiny_text c.args.buf.now (rw text-size (omega (arith, c.if-buf-lt-PRINTED_BYTES.true)))

pub returns : goal.returns
returns c =
    let buf = c.args.buf.now in
    let if1 = c.if-buf-lt-PRINTED_BYTES in
    fits-is tiny_text buf (rw text-size if1.false) c.write_all.ensures
