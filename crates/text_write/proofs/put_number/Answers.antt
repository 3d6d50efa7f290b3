-- The key, and the decimal in the rest of the buffer (`fill-rest`).
use Rattle.text_write.proofs.Laws.{fill-rest}
use Rattle.spec_sheet.specs.Text.{number_text}
use Rattle.text_write.proofs.put_number.Goals as goal

pub returns-clause-is : goal.returns-clause-is
unfolding number_text
returns-clause-is c = fill-rest c.put_bytes-a.ensures c.min-k.ensures c.put_decimal.ensures.is
