-- 2 exactly where the check fails, and the buffer stays (`unfit-is`).
use Rattle.sheet_write.proofs.Results.{unfit-is}
use Rattle.table_record.specs.Store.{raw_table}
use mathlib.Core.Path.{sym, ◌∙◌}
use Rattle.sheet_write.proofs.write_sheet.Goals as goal

pub returns-then-not-table_fits : goal.returns-then-not-table_fits
returns-then-not-table_fits c = let a = c.args in unfit-is (raw_table a.b.now a.l.now a.c) a.buf.now (sym c.table_fits.ensures ∙ c.if-not-table_fits.true)
