-- Where the buffer is surely long enough (`enough`) it is written at once; else the text is counted first, which leaves the buffer as it is.
use lib.ListN.{length}
use Rattle.script_output.specs.Output.{script_output}
use Rattle.text_write.proofs.Written.{fits-is, short-is, length-is}
use Rattle.script_output.proofs.Buffer.{enough}
use Rattle.script_output.proofs.script.Goals as goal

pub returns-then-min-buf : goal.returns-then-min-buf
returns-then-min-buf c =
    let s = c.args.s.now in
    let buf = c.args.buf.now in
    let k = enough s _ (length buf) c.min.ensures c.if-min-buf.true in
    fits-is (script_output s) buf k c.put_script.ensures

pub returns-then-buf-need : goal.returns-then-buf-need
returns-then-buf-need c =
    let a = c.args in
    short-is (script_output a.s.now) a.buf.now c.put_script-need.ensures c.if-buf-need.true

pub returns : goal.returns
returns c =
    let a = c.args in
    length-is (script_output a.s.now) a.buf.now c.put_script-need.ensures c.if-buf-need.false c.put_script-2.ensures
