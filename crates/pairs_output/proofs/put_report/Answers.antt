-- The output by the three cases of an input, too long, refused or accepted, as the definition has them (proofs/Whole).
use mathlib.Core.Path.{ap, ◌∙◌}
use Rattle.spec_sheet.specs.Lines.{join}
use Rattle.pairs_write_lines.specs.Parts.{code_lines}
use Rattle.pairs_output.proofs.Whole.{sheet-checked, sheet-few, accepted-prints, refused-prints, long-prints}
use Rattle.text_write.proofs.Laws.{fill_is}
use Rattle.pairs_output.specs.Output.{result_lines}
use Rattle.spec_sheet.specs.Sheet.{malformed}
use Rattle.pairs_output.proofs.put_report.Goals as goal

pub returns-then-s-gt-INPUT_BYTES-clause-is : goal.returns-then-s-gt-INPUT_BYTES-clause-is
returns-then-s-gt-INPUT_BYTES-clause-is c = fill_is (long-prints c.args.s.now c.if-s-gt-INPUT_BYTES.true) c.write_word.ensures.is.filled

pub pair_table-pairs-requires : goal.pair_table-pairs-requires
pair_table-pairs-requires c = sheet-checked _ _ _ _ c.read_into.ensures _ c.in-Ok.is

pub pair_lines-requires : goal.pair_lines-requires
pair_lines-requires c = sheet-few _ _ _ _ c.read_into.ensures _ c.in-Ok.is

pub returns-in-Ok-clause-is : goal.returns-in-Ok-clause-is
returns-in-Ok-clause-is c =
    let n = c.in-Ok.c.sheet in
    let prints = accepted-prints _ _ _ _ c.read_into.ensures _ c.in-Ok.is c.if-s-gt-INPUT_BYTES.false in
    fill_is (ap (λ z. join (code_lines z n n)) c.pair_table-pairs.ensures ∙ prints) c.pair_lines.ensures.is.filled

pub returns-in-Err-clause-is : goal.returns-in-Err-clause-is
returns-in-Err-clause-is c =
    let prints = refused-prints _ _ _ _ c.read_into.ensures _ c.in-Err.is c.if-s-gt-INPUT_BYTES.false in
    fill_is (ap (λ z. join (result_lines (malformed z c.in-Err.e.at))) c.number.ensures ∙ prints) c.refused_line.ensures.is.filled
