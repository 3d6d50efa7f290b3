-- The output by the three cases of an input, too long, refused or served, as the definition has them (proofs/Whole).
use lib.Seq.{length-take-le}
use mathlib.Core.Path.{sym}
use Rattle.text_write.proofs.Laws.{fill_is}
use Rattle.script_output.proofs.Whole.{long-prints, refused-prints, served-sound, served-prints, rest-short}
use borrow.Author.Rules.{rules}
use Rattle.script_output.proofs.put_script.Goals as goal

pub returns-then-s-gt-INPUT_BYTES : goal.returns-then-s-gt-INPUT_BYTES
returns-then-s-gt-INPUT_BYTES c = fill_is (long-prints c.args.s.now c.if-s-gt-INPUT_BYTES.true) c.write_word.ensures.is.filled

pub slice_bounds-read-end : goal.slice_bounds-read-end
slice_bounds-read-end c = sym (length-take-le c.sheet_end-e.result c.args.s.now c.sheet_end-e.ensures.within)

pub returns-then-x-ne0 : goal.returns-then-x-ne0
returns-then-x-ne0 c =
    let e = c.sheet_end-e in
    let x = c.read-x in
    fill_is (refused-prints c.args.s.now e.result e.ensures.is x.result x.ensures c.if-s-gt-INPUT_BYTES.false c.if-x-ne0.true) c.write_number.ensures.is.filled

pub serve_lines-requires : goal.serve_lines-requires
serve_lines-requires c =
    let s = c.args.s.now in
    let e = c.sheet_end-e in
    let l = c.if-s-gt-INPUT_BYTES.false in
    let x = c.read-x in
    let st = c.loaded-state in
    (served-sound s e.result e.ensures.is x.result x.ensures l c.if-x-ne0.false (search rules) st.result st.ensures, rest-short s e.result l)

pub returns : goal.returns
returns c =
    let s = c.args.s.now in
    let e = c.sheet_end-e in
    let l = c.if-s-gt-INPUT_BYTES.false in
    let x = c.read-x in
    let st = c.loaded-state in
    fill_is (served-prints s e.result e.ensures.is x.result x.ensures l c.if-x-ne0.false st.result st.ensures) c.serve_lines.ensures.is.filled
