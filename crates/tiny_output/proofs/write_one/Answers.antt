-- What is stored is table i of the list (`tiny-stored`), so its text is what the writer fills in; and it is short (`tiny-short`).
use mathlib.Core.Path.{ap}
use Rattle.spec_sheet.specs.Text.{text}
use Rattle.text_write.proofs.Laws.{fill_is}
use Rattle.tiny_output.proofs.Laws.{tiny-limits, tiny-stored, tiny-short}
use Rattle.tiny_output.proofs.write_one.Goals as goal

pub put_sheet-requires : goal.put_sheet-requires
put_sheet-requires c = tiny-limits _ _ c.requires c.counts_of.ensures

pub returns : goal.returns
returns c =
    let stored = tiny-stored _ _ c.requires c.counts_of.ensures _ _ _ _ c.told-types c.type_of.ensures c.put_type.ensures in
    let filled = fill_is (ap text stored) c.put_sheet.ensures in
    record { is = filled; few = tiny-short _ _ c.requires filled.said }
