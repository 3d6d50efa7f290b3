use Rattle.spec_sheet.specs.Text.{method_text}
use Rattle.sheet_write_line.proofs.write_method.Goals as goal

-- the others are found
pub returns-in-1-clause-is : goal.returns-in-1-clause-is
unfolding method_text
returns-in-1-clause-is c = rw c.in-1.is c.write_signed.ensures.is
